-- `word_end` meets its contract.
use Rattle.std.proofs.Common.{sym, ◌∙◌}
use Rattle.json_tokens.proofs.Numbers.{word-start, word_on, word-stop}
use Rattle.json_tokens.proofs.scan.word_end.Goals as goal

pub loop-k-init : goal.loop-k-init
loop-k-init c = word-start c.args.text.now c.args.word.now c.args.from

pub returns-then-byte_at-letter : goal.returns-then-byte_at-letter
returns-then-byte_at-letter c = word-stop _ _ _ _ c.loop-k.invariant c.loop-k-test.true (λ z. c.if-byte_at-letter.true (c.byte_at.ensures ∙ z))

pub loop-k-preserved : goal.loop-k-preserved
loop-k-preserved c = word_on _ _ _ _ c.loop-k.invariant c.loop-k-test.true (sym c.byte_at.ensures ∙ c.if-byte_at-letter.false)
