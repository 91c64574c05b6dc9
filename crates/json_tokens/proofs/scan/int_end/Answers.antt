-- `int_end` meets its contract.
use Rattle.std.proofs.Common.{arith, rules, of_calls, refl}
use borrow.Author.Tests.{le-leb, lt-leb}
use Rattle.json_theory.specs.Parts.{is_digit}
use Rattle.json_theory.proofs.Scanning.{byte_inside}
use Rattle.json_tokens.proofs.Numbers.{after-nought, after-whole, no-int, behind-minus, first-part, nought-first, whole-first, none_first, no-first}
use Rattle.json_tokens.proofs.scan.int_end.Goals as goal

pub returns-in-48-clause-behind_minus : goal.returns-in-48-clause-behind_minus
returns-in-48-clause-behind_minus c = behind-minus _ _ (nought-first _ _ c.byte_at.ensures c.in-48.is) (after-nought _ _)

pub returns-in-48-clause-first : goal.returns-in-48-clause-first
returns-in-48-clause-first c = first-part _ _ (nought-first _ _ c.byte_at.ensures c.in-48.is) (after-nought _ _)

pub run_end-requires-clause-start : goal.run_end-requires-clause-start
run_end-requires-clause-start c = omega (arith, byte_inside c.args.text.now c.args.from (omega (arith, c.byte_at.ensures)))

pub returns-in-49-to-57-clause-behind_minus : goal.returns-in-49-to-57-clause-behind_minus
returns-in-49-to-57-clause-behind_minus c =
    behind-minus _ _ (whole-first _ _ c.byte_at.ensures (omega arith) (omega arith))
    (after-whole _ (c.run_end.ensures is_digit (λ x b k. search (rules, of_calls)) refl))

pub returns-in-49-to-57-clause-first : goal.returns-in-49-to-57-clause-first
returns-in-49-to-57-clause-first c =
    first-part _ _ (whole-first _ _ c.byte_at.ensures (omega arith) (omega arith))
    (after-whole _ (c.run_end.ensures is_digit (λ x b k. search (rules, of_calls)) refl))

pub returns-in_default-clause-behind_minus : goal.returns-in_default-clause-behind_minus
returns-in_default-clause-behind_minus c = no-int _ _ (none_first _ _ c.byte_at.ensures (λ e. absurd (omega arith)) (rw (lt-leb 0x31 c.byte_at.result (omega arith)) refl))

pub returns-in_default-clause-first : goal.returns-in_default-clause-first
returns-in_default-clause-first c = λ a h. no-first _ a (none_first _ _ c.byte_at.ensures (λ e. absurd (omega arith)) (rw (lt-leb 0x31 c.byte_at.result (omega arith)) refl)) h

pub returns-in_default-2-clause-behind_minus : goal.returns-in_default-2-clause-behind_minus
returns-in_default-2-clause-behind_minus c = no-int _ _ (none_first _ _ c.byte_at.ensures (λ e. absurd (omega arith)) (rw (le-leb 0x31 c.byte_at.result (omega arith), lt-leb c.byte_at.result 0x39 (omega arith)) refl))

pub returns-in_default-2-clause-first : goal.returns-in_default-2-clause-first
returns-in_default-2-clause-first c = λ a h. no-first _ a (none_first _ _ c.byte_at.ensures (λ e. absurd (omega arith)) (rw (le-leb 0x31 c.byte_at.result (omega arith), lt-leb c.byte_at.result 0x39 (omega arith)) refl)) h
