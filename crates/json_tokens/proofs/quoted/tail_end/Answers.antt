-- `tail_end` meets its contract.
use Rattle.std.proofs.Common.{ap, sym, ◌∙◌, arith}
use Rattle.json_theory.specs.Rx.{within}
use Rattle.json_tokens.proofs.Strings.{tails-start, tails-none, tails-on, tails-stop, tails-done}
use Rattle.json_tokens.proofs.quoted.tail_end.Goals as goal

pub returns-then-not-within : goal.returns-then-not-within
returns-then-not-within c =
    tails-none _ _ c.args.c c.requires.1 c.requires.2 c.requires.3
    (rw (← c.lowest.ensures.0, ← c.highest.ensures, ← c.byte_at.ensures) (sym c.within.ensures ∙ c.if-not-within.true))

pub loop-at-init : goal.loop-at-init
loop-at-init c =
    tails-start _ _ c.args.c c.requires.1 c.requires.2 c.requires.3 _ c.width.ensures.0
    (rw (← c.lowest.ensures.0, ← c.highest.ensures, ← c.byte_at.ensures) (sym c.within.ensures ∙ c.if-not-within.false))

pub returns-then-not-is_tail : goal.returns-then-not-is_tail
returns-then-not-is_tail c =
    tails-stop _ _ _ _ c.loop-at-test.true (omega (arith, c.width.ensures)) c.loop-at.invariant
    (ap (within 0x80 0xBF) (sym c.byte_at-in-loop-at.ensures) ∙ sym c.is_tail.ensures ∙ c.if-not-is_tail.true)

pub loop-at-preserved : goal.loop-at-preserved
loop-at-preserved c =
    tails-on _ _ _ _ c.loop-at-test.true (omega (arith, c.width.ensures)) c.loop-at.invariant
    (ap (within 0x80 0xBF) (sym c.byte_at-in-loop-at.ensures) ∙ sym c.is_tail.ensures ∙ c.if-not-is_tail.false)

pub returns : goal.returns
returns c = tails-done _ _ _ _ (omega (arith, c.width.ensures)) c.loop-at.invariant
