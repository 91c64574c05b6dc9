-- `signed_end` meets its contract.
use Rattle.std.proofs.Common.{sym, ◌∙◌}
use Rattle.json_tokens.proofs.Numbers.{start-minus, start-int}
use Rattle.json_tokens.proofs.scan.signed_end.Goals as goal

pub returns-then-byte_at-eq45 : goal.returns-then-byte_at-eq45
returns-then-byte_at-eq45 c = λ a h. rw (start-minus _ a (sym c.byte_at.ensures ∙ c.if-byte_at-eq45.true) h) c.int_end.ensures.behind_minus

pub returns-else-byte_at-eq45 : goal.returns-else-byte_at-eq45
returns-else-byte_at-eq45 c = λ a h. c.int_end-else-byte_at-eq45.ensures.first a (start-int _ a (λ z. c.if-byte_at-eq45.false (c.byte_at.ensures ∙ z)) h)
