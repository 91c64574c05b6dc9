-- Nothing waits at first; at last what waits is added slot by slot, until the arena holds the profile.
use mathlib.Core.Path.{◌≡◌, refl, sym, ◌∙◌, ap}
use mathlib.Core.Bool.{false}
use mathlib.Core.List.{List, [], ◌∷◌, ◌++◌}
use mathlib.Core.Option.{Option, none}
use Prim.Native.Nat.{ℕ, zero, suc, ◌+◌, ◌*◌, ◌≤◌, ◌<◌}
use native.Mathlib.Omega.{arith}
use lib.ListN.{length, replicate, length-replicate, get_or-replicate}
use Rattle.value_table.specs.Value.{record_size, max_length}
use Rattle.value_table.specs.Judged.{messages}
use Rattle.counting_theory.specs.Payload.{Payload}
use Rattle.counting_theory.specs.Trie.{nil, ◌⊞◌ as join_option, lookup, size, add}
use Rattle.counting_theory.specs.Label.{Label, Counting}
use Rattle.counting_theory.specs.declared.equivalence.Equivalence.{Equivalence}
use Rattle.counting_theory.specs.Raw.{raw, profile_of}
use Rattle.counting_theory.specs.Encoding.{type_size}
use Rattle.counting_theory.specs.Encoding as bytes
use Rattle.counting_theory.proofs.Label.{counting-laws}
use Rattle.counting_theory.proofs.Trie.Join.{⊞-none}
use Rattle.inference.specs.Inside.Inferring.{AcceptedTable, Grown}
use Rattle.gathering.specs.Inside.Gathering.{slot_start, slot_count, slot_raw, waiting, Slot, Gathering}
use Rattle.inference.proofs.InPlace.Runs.{none_left}
use Rattle.inference.proofs.InPlace.TableRun.{holds-nothing}
use Rattle.gathering.proofs.Waiting.Slots.{waiting-gives, waiting-cons, slot-empty}
use Rattle.gathering.proofs.Waiting.GatherLoop.{is-profile, added-sibling, grown-holds, added-same, slot-full}

infixr 66 ◌⊞◌
abbrev ◌⊞◌ : Option Payload → Option Payload → Option Payload
x ⊞ y = join_option Counting x y

module _ (e : Equivalence) (t : List ℕ) where
  waiting-nothing : (p : List Label) (n : ℕ) → waiting-gives e t p (replicate n 0) ≡ none
  unfolding waiting lookup join_option
  waiting-nothing p zero = refl
  waiting-nothing p (suc n) = waiting-cons e t p 0 (replicate n 0) ∙ rw (slot-empty e t p 0 (omega arith), waiting-nothing p n) refl

  pub gathering-start : AcceptedTable t → (a slots : List ℕ) (n : ℕ) → length a ≤ max_length → slots ≡ replicate n 0 → Gathering e t a 0 0 slots
  unfolding lookup join_option
  gathering-start x a slots n h z =
      let empty : Slot t 0 0 = record { start = omega arith; few = omega arith; bound = omega arith; message = λ l. absurd (omega arith) } in
      rw z (record {
        f = nil;
        free = a;
        left = messages t;
        holds = holds-nothing e a h;
        left-bytes = x.is-table.bytes;
        valid = x.is-table.valid;
        held = λ k l. rw (get_or-replicate {A = ℕ} n k 0 0 (omega (arith, length-replicate {A = ℕ} n 0))) empty;
        same = λ p. rw (waiting-nothing p n) refl;
      })

-- what waits in the first of the slots is added
module _ {e : Equivalence} {t a : List ℕ} {m i : ℕ} (v : ℕ) (rest : List ℕ) (g : Gathering e t a m i (v ∷ rest)) where
  pub settled-added : (r : ℕ) (b : List ℕ) → length b ≤ max_length → Grown (add Counting (slot_raw e t v) g.f) [] r b → Gathering e t b r i rest
  settled-added r b l h =
      let x = g.held 0 (omega arith) in
      let s = added-sibling e t (slot_start v) (slot_count v) g.f x.message g.holds.siblings in
      record {
        f = add Counting (slot_raw e t v) g.f;
        free = h.free;
        left = g.left;
        holds = grown-holds g (slot_raw e t v) r b l s h;
        left-bytes = g.left-bytes;
        valid = g.valid;
        held = λ k l. g.held (suc k) (omega arith);
        same = λ p. added-same g v rest (lookup Counting (raw e false g.left)) p (sym (waiting-cons e t p v rest)) ∙ g.same p;
      }

  pub settled-full : (b : List ℕ) → length b < type_size * (size (add Counting (slot_raw e t v) g.f) + 0) → length b < type_size * size (profile_of e (messages t))
  settled-full b h = slot-full g v rest b (λ p. sym (waiting-cons e t p v rest)) h

-- nothing waits and nothing is left
pub settled-end : {e : Equivalence} {t a : List ℕ} {m i : ℕ} → Gathering e t a m i [] → length t ≤ record_size * i → Grown (profile_of e (messages t)) [] m a
unfolding waiting raw lookup join_option
settled-end {e} {t} {a} {m} {i} g h =
    let n = none_left t i g.left h g.left-bytes in
    let z : g.f ≡ profile_of e (messages t) =
    is-profile e (messages t) g.f g.holds.siblings.sorted
    (λ p. sym (⊞-none counting-laws (lookup Counting g.f p)) ∙ (rw n at (g.same p))) in
    record { count = g.holds.count ∙ ap size z; free = g.free; bytes = g.holds.bytes ∙ ap (λ f. bytes.encode f ++ g.free) z }
