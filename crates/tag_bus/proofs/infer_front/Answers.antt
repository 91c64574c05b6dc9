-- `infer_front` meets its contract.
use mathlib.Core.Path.{◌≡◌, refl, sym, ◌∙◌}
use mathlib.Core.Bool.{false, ◌||◌}
use mathlib.Core.List.{List}
use Prim.Native.Nat.{ℕ, ◌≤◌}
use native.Mathlib.Omega.{arith}
use lib.ListN.{length}
use Rattle.std.proofs.lemmas.Result.{err_from_is_err_and}
use Rattle.byte_records.specs.Number.{Bytes}
use Rattle.byte_records.proofs.Tests.{or_parts}
use Rattle.value_table.specs.Value.{max_length, KeysUpTo}
use Rattle.value_table.specs.Judged.{messages}
use Rattle.value_table.proofs.Acceptance.{accepts}
use Rattle.value_table.proofs.LargestKey.{accepts-up-to}
use Rattle.counting_theory.specs.Label.{CountingType}
use Rattle.counting_theory.specs.declared.equivalence.Equivalence.TheVariants.{Label as by_label}
use Rattle.counting_theory.specs.Raw.{profile_of}
use Rattle.counting_theory.specs.Answers.{bad_buffers}
use Rattle.answers.specs.declared.Refusal.TheVariants.{Length, Room}
use Rattle.answers.specs.Outcomes.{refusal_of_table}
use Rattle.counting_type.proofs.Buffers.{allowed-buffers}
use Rattle.key_word.specs.Word.{word_bits}
use Rattle.inference.specs.Inside.Inferring.{AcceptedTable}
use Rattle.inference.proofs.InPlace.AddItem.{added_full, added-records}
use Rattle.tag_bus.specs.TagBus.{bad_entries_length, inferred_tag_bus}
use Rattle.tag_bus.proofs.Fronts.{filled-refused, table-refused, no-records, no_room, grown-records, grown-entries, filled-stored}
use Rattle.tag_bus.proofs.infer_front.Goals as goal
use Rattle.tag_bus.proofs.infer_front.Goals.{Else-bad_lengths, In_ok-judge_up_to}

abbrev type : List ℕ → CountingType
type t = profile_of by_label (messages t)

pub returns-then-bad_lengths : goal.returns-then-bad_lengths
unfolding inferred_tag_bus
returns-then-bad_lengths c = filled-refused Length _ _ (rw (sym c.bad_lengths.ensures ∙ c.if-bad_lengths.true) refl)

allowed : (c : goal.Else-bad_lengths) → (bad_buffers (length c.args.table.now) (length c.args.arena.now) (length c.args.work.now) || bad_entries_length (length c.args.entries.now)) ≡ false
allowed c = sym c.bad_lengths.ensures ∙ c.if-bad_lengths.false

pub returns-in_err-judge_up_to : goal.returns-in_err-judge_up_to
unfolding inferred_tag_bus
returns-in_err-judge_up_to c =
    let p = err_from_is_err_and c.from_residual.result c.from_residual.ensures.1 in
    let error = c.in_err-judge_up_to.field-0.0 in
    rw (p.1, p.2) (filled-refused (refusal_of_table error) _ _
    (rw (allowed (goal.at.returns-in_err-judge_up_to c).Else-bad_lengths, ← c.in_err-judge_up_to.ensures) (table-refused error _ _ _)))

-- the table is accepted, and its keys fit a word
module _ (c : goal.In_ok-judge_up_to) where
  lengths : (length c.args.arena.now ≤ max_length) × (length c.args.arena.now ≤ length c.args.work.now)
  lengths =
      allowed-buffers (length c.args.table.now) (length c.args.arena.now) (length c.args.work.now)
      (or_parts (bad_buffers (length c.args.table.now) (length c.args.arena.now) (length c.args.work.now)) _ (sym c.bad_lengths.ensures ∙ c.if-bad_lengths.false)).0

  bytes : Bytes c.args.table.now
  bytes p = (c.type_inv.table p).fits

  accepted : AcceptedTable c.args.table.now
  accepted = record { count = _; is-table = (accepts c.args.table.now _ bytes).0 ((accepts-up-to word_bits c.args.table.now _ bytes).0 (sym c.in_ok-judge_up_to.ensures)).0 }

  keys : KeysUpTo word_bits c.args.table.now
  keys = ((accepts-up-to word_bits c.args.table.now _ bytes).0 (sym c.in_ok-judge_up_to.ensures)).1

pub add_messages-requires : goal.add_messages-requires
add_messages-requires c =
    let s = (goal.at.add_messages-requires c).In_ok-judge_up_to in
    (accepted s, (lengths s).0, (lengths s).1, record { upto = λ _. keys s })

pub returns-in_err-records : goal.returns-in_err-records
unfolding inferred_tag_bus
returns-in_err-records c =
    let p = err_from_is_err_and c.from_residual-in_err-records.result c.from_residual-in_err-records.ensures.1 in
    let a = c.args in
    let k = c.add_messages in
    let full = added_full _ _ _ _ _ _ c.in_err-records.was k.ensures in
    rw (p.1, p.2, allowed (goal.at.returns-in_err-records c).Else-bad_lengths, ← c.in_ok-judge_up_to.ensures)
    (filled-refused Room _ _ (no-records (type a.table.now) (length a.arena.now) (length a.entries.now) (omega (arith, k.auto.a, full))))

pub put_entries-requires : goal.put_entries-requires
put_entries-requires c =
    let s = (goal.at.put_entries-requires c).In_ok-judge_up_to in
    let k = c.add_messages in
    grown-records c.args.table.now (accepted s) (keys s) k.new.a (omega (arith, lengths s, k.auto.a)) (added-records _ _ _ _ _ _ c.in_ok-records.was k.ensures)

pub returns-in_err-bytes : goal.returns-in_err-bytes
unfolding inferred_tag_bus
returns-in_err-bytes c =
    let p = err_from_is_err_and c.from_residual-in_err-bytes.result c.from_residual-in_err-bytes.ensures.1 in
    let s = (goal.at.returns-in_err-bytes c).In_ok-judge_up_to in
    let a = c.args in
    let k = c.add_messages in
    let g = added-records _ _ _ _ _ _ c.in_ok-records.was k.ensures in
    let e = grown-entries a.table.now (accepted s) (keys s) k.new.a (omega (arith, lengths s, k.auto.a)) g in
    let full = rw c.in_err-bytes.was at c.put_entries.ensures in
    rw (p.1, p.2, allowed (goal.at.returns-in_err-bytes c).Else-bad_lengths, ← c.in_ok-judge_up_to.ensures)
    (filled-refused Room _ _ (no_room (type a.table.now) (length a.arena.now) (length a.entries.now) (rw e at full)))

pub returns : goal.returns
unfolding inferred_tag_bus
returns c =
    let s = (goal.at.returns c).In_ok-judge_up_to in
    let k = c.add_messages in
    let g = added-records _ _ _ _ _ _ c.in_ok-records.was k.ensures in
    let p = rw c.in_ok-bytes.was at c.put_entries.ensures in
    rw (allowed (goal.at.returns c).Else-bad_lengths, ← c.in_ok-judge_up_to.ensures)
    (filled-stored c.args.table.now (accepted s) (keys s) k.new.a (omega (arith, lengths s, k.auto.a)) g c.args.entries.now k.auto.a p.0 p.1 p.2)
