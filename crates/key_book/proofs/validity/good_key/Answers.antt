-- `good_key` meets its contract.
use mathlib.Core.Path.{◌≡◌, refl, sym, ◌∙◌}
use mathlib.Core.List.{List}
use Prim.Native.Nat.{ℕ}
use native.Mathlib.Omega.{arith}
use lib.ListN.{length, drop, length-drop, replicate}
use Rattle.std.proofs.lemmas.List.{take_all}
use borrow.Author.Rules.{rules}
use borrow.Author.Tests.{tests}
use Rattle.json_theory.specs.Book.{key_of}
use Rattle.std.proofs.lemmas.Iterator.{YieldsList-from_slice, IsFirst-from_position}
use Rattle.key_book.proofs.GoodBook.{tail-alike, key-end, good_by, empty-key}
use Rattle.key_book.proofs.validity.good_key.Goals as goal

pub returns-then-key-ne0 : goal.returns-then-key-ne0
returns-then-key-ne0 c =
    let r = c.args.record.now in
    let e : length (key_of r) ≡ c.unwrap_or-key.result =
    key-end r c.position.result (IsFirst-from_position _ _ _ (λ x. x ≡ 0) (λ x. x ≡ 0 → ⊥) c.position.ensures.ran (YieldsList-from_slice r (cc)) (λ x q k. search (rules, tests)) (λ x q k. search (rules, tests)))
    ∙ sym c.unwrap_or-key.ensures in
    let k = c.unwrap_or-key.result in
    let zs : List ℕ = replicate 32 0 in
    tail-alike k r zs (sym c.requires) refl
    (take_all _ (drop k r) (omega (arith, length-drop k r)))
    (take_all _ (drop k zs) (omega (arith, length-drop k zs)))
    c.eq.ensures
    ∙ good_by r c.unwrap_or-key.result e c.if-key-ne0.true

pub returns-else-key-ne0 : goal.returns-else-key-ne0
returns-else-key-ne0 c =
    let r = c.args.record.now in
    let e : length (key_of r) ≡ c.unwrap_or-key.result =
    key-end r c.position.result (IsFirst-from_position _ _ _ (λ x. x ≡ 0) (λ x. x ≡ 0 → ⊥) c.position.ensures.ran (YieldsList-from_slice r (cc)) (λ x q k. search (rules, tests)) (λ x q k. search (rules, tests)))
    ∙ sym c.unwrap_or-key.ensures in
    rw c.if-key-ne0.false (sym (empty-key r (e ∙ c.if-key-ne0.false)))
