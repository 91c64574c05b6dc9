-- The type of an accepted text is the profile of its messages.
use mathlib.Core.Path.{◌≡◌, refl, ◌∙◌, ap}
use mathlib.Core.Bool.{false}
use mathlib.Core.List.{List}
use Prim.Native.Nat.{ℕ, ◌*◌}
use native.Mathlib.Omega.{arith}
use lib.ListN.{length}
use lib.Seq.{take_at}
use borrow.Author.Tests.{eq-eqb}
use Rattle.value_table.specs.Value.{Values, encode, size, count, record_size}
use Rattle.value_table.specs.Outcome.{accepted}
use Rattle.value_table.specs.Judged.{bad_length, judged}
use Rattle.value_table.specs.Acceptance.{Table}
use Rattle.value_table.proofs.TableLayout.{length-encode, length-fits}
use Rattle.value_table.proofs.Acceptance.{unique}
use Rattle.json_theory.specs.Reader.{read_of, fine}
use Rattle.json_theory.proofs.Promises.{reads-text, reads-only-text, reads-tables, one-reading}
use Rattle.counting_theory.specs.declared.equivalence.Equivalence.{Equivalence}
use Rattle.counting_theory.specs.declared.equivalence.Equivalence.TheVariants.{Kind as by_kind, Label as by_label}
use Rattle.counting_theory.specs.Raw.{profile_of}
use Rattle.counting_theory.specs.WellFormed.{bad_type_length}
use Rattle.counting_theory.specs.Answers.{equivalence_of, equivalence_number, inferred_under, inferred, stored}
use Rattle.text_profile.specs.TextProfile.{written_records, TextProfile}

written-encode : (n : ℕ) (ms : Values) → written_records (read_of n (fine ms)) ≡ encode ms
written-encode n ms = take_at (encode ms) _ (record_size * size ms) (length-encode ms)

-- a table that is known is inferred without a fault
infers : (e : Equivalence) (b : List ℕ) (ms : Values) (n arena : ℕ) → Table b ms n → judged b ≡ accepted n → bad_type_length arena ≡ false →
    inferred b (equivalence_number e) arena arena ≡ stored arena (profile_of e ms)
unfolding inferred
infers e b ms n arena t j a =
    let long : length b ≡ record_size * size ms = ap length t.bytes ∙ length-encode ms in
    let fits : bad_length (length b) ≡ false = (length-fits (length b)).1 (omega (arith, long), omega (arith, long, t.room)) in
    rw (fits, a, eq-eqb arena arena refl) (known e)
  where
    known : (e : Equivalence) → inferred_under (equivalence_of (equivalence_number e)) b arena ≡ stored arena (profile_of e ms)
    known by_kind = rw (j, unique b ms n t) refl
    known by_label = rw (j, unique b ms n t) refl

pub text-profile : TextProfile
text-profile text book n arena e ms bytes read-fine grammar a =
    let r = reads-only-text text book n bytes read-fine in
    let same = (one-reading _ text ms r.0 grammar r.1.grammar).0 in
    let t = reads-tables text book n r.0 r.1 in
    rw (reads-text text book n r.0 bytes r.1, written-encode n r.0, same) (infers e (encode r.0) r.0 (count r.0) arena t.0 t.1 a)
