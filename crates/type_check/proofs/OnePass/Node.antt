-- What a run asks of a type is what it asks of its first record, of the content of this record, and of the records behind.
use mathlib.Core.Path.{◌≡◌, sym, ◌∙◌, ap}
use mathlib.Core.Bool.{true, false, true≢false}
use mathlib.Core.List.{List}
use Prim.Native.Nat.{ℕ, ◌+◌}
use native.Mathlib.Omega.{arith}
use lib.Dec.{eqb}
use borrow.Author.Tests.{eqb-true, ne_eqb}
use Rattle.value_table.specs.Value.{record_kind}
use Rattle.byte_records.proofs.Tests.{and_parts}
use Rattle.counting_theory.specs.Payload.{Payload}
use Rattle.counting_theory.specs.Trie.{node, total}
use Rattle.counting_theory.specs.Label.{Label, field_label, compare_label, CountingType}
use Rattle.counting_theory.specs.declared.equivalence.Equivalence.{Equivalence}
use Rattle.counting_theory.specs.Encoding.{type_kind, type_key, type_span}
use Rattle.counting_theory.specs.WellFormed.{field_count, fields_of}
use Rattle.type_arena.specs.Inside.Arena.{label_at}
use Rattle.type_arena.specs.Inside.Layout.{label_by}
use Rattle.type_check.specs.Inside.Checker.{Run, addends, fields, after, content}
use Rattle.counting_theory.proofs.Payload.{proper-other}
use Rattle.counting_theory.proofs.Order.{compare-less, less-compare}
use Rattle.counting_theory.proofs.Label.{kind-eq, compare-fields}
use Rattle.counting_theory.proofs.WellFormed.Tests.{both}
use Rattle.counting_theory.proofs.WellFormed.Fitting.{weight-addend}
use Rattle.counting_theory.proofs.WellFormed.Record.{TypeRecord}
use Rattle.counting_theory.specs.Inside.RecordsHold.{RecordsHold}
use Rattle.counting_theory.proofs.WellFormed.RecordsHold.{holds-first}
use Rattle.type_arena.proofs.Nodes.{fitting-heads, node_in}
use Rattle.type_check.proofs.OnePass.Fits.{is_fields, depth_of, Follows}
use Rattle.type_check.proofs.OnePass.Ruled.{NodeRuled, ruled-node, ruled-parts}
use Rattle.type_check.proofs.OnePass.Rest.{sum_of, Totals, Rest, total-positive, sum_inside, inside-told, inside-holds}
use Rattle.type_check.specs.Inside.Reading.{full}

module _ (e : Equivalence) (b : List ℕ) (p end : ℕ) (l : Label) (a : Payload) (c s : CountingType) where
  -- what the first record, its content and the records behind are asked
  pub record Parts (r : Run) : Type 0 where
    pub follows : Follows full e b p r
    pub totals : Totals b p r (sum_of (content full b p r) c)
    pub inside : Rest e b (p + 1) (content full b p r) c
    pub behind : Rest e b (p + type_span b p) (after full b p r) s

  label-held : (depth : ℕ) → RecordsHold e b p end false depth (node l a c s) → label_by type_kind type_key type_span e b p ≡ l
  unfolding label_by label_at
  label-held depth h = (node_in b p l a c s _ (fitting-heads _ h.fitting) h.bytes).label_is e false h.tagged

  pub rest-node : (r : Run) → RecordsHold e b p end (is_fields r) (depth_of r) (node l a c s) → TypeRecord b p end (is_fields r) (depth_of r) → Parts r → Rest e b p r (node l a c s)
  unfolding total fields_of
  rest-node (addends depth last sum) h g x =
      let n = (holds-first e b p end false depth l a c s h).is-node in
      let label = label-held depth h in
      let inner = inside-told e b p depth a.count c (eqb l.kind record_kind) h.tagged.1 (rw (n.kind-is, n.count-is) at x.inside.beside) in
      let own : NodeRuled e l a c s =
      record {
        positive = omega (arith, n.count-is, x.follows.1);
        before = rw label at (x.behind.beside.0 (ne_eqb p (p + type_span b p) (λ z. omega (arith, n.span-is))));
        within = inner.0;
        field-total = λ k. absurd (omega (arith, h.tagged.0.kind-high));
        fields-of = inner.1;
        payload = rw (n.kind-is, n.payload-is, n.count-is, sum_inside e b p depth a.count c (eqb l.kind record_kind) h.tagged.1) at x.totals;
      } in
      record {
        ruled = ruled-node e l a c s own x.inside.ruled x.behind.ruled;
        beside = (λ z. rw label at (x.follows.0 z), omega (arith, x.behind.beside.1, n.count-is, weight-addend l a h.tagged.0.kind-high));
      }
  rest-node (fields depth of_record last_key) h g x =
      let n = (holds-first e b p end true depth l a c s h).is-node in
      let label : field_label (type_key b p) ≡ l = ap field_label n.key-is ∙ sym h.tagged.0 in
      let some = total-positive e c h.tagged.1 x.inside.ruled.counts (omega (arith, n.span-is, g.own.filled)) in
      let own : NodeRuled e l a c s =
      record {
        positive = omega (arith, n.count-is, x.totals);
        before = rw label at x.behind.beside.0;
        within = omega (arith, x.inside.beside.1);
        field-total = λ k. omega (arith, n.count-is, x.totals);
        fields-of = λ z. absurd (omega (arith, kind-eq h.tagged.0, eqb-true l.kind record_kind z));
        payload = proper-other l.kind a _ (λ z. omega (arith, kind-eq h.tagged.0, z)) ∙ rw n.payload-is at x.follows.1;
      } in
      record {
        ruled = ruled-node e l a c s own x.inside.ruled x.behind.ruled;
        beside = (
          ap (compare_label (field_label last_key)) (sym label) ∙ compare-fields last_key (type_key b p) ∙ less-compare last_key (type_key b p) x.follows.0,
          both (rw n.count-is at x.follows.2) x.behind.beside.1,
        );
      }

  pub rest-parts : (r : Run) → RecordsHold e b p end (is_fields r) (depth_of r) (node l a c s) → Rest e b p r (node l a c s) → Parts r
  unfolding total fields_of
  rest-parts (addends depth last sum) h x =
      let n = (holds-first e b p end false depth l a c s h).is-node in
      let label = label-held depth h in
      let (own, ruled_c, ruled_s) = ruled-parts e l a c s x.ruled in
      let weight = weight-addend l a h.tagged.0.kind-high in
      let inner = inside-holds e b p depth a.count c (eqb l.kind record_kind) _ h.tagged.1 h.shallow.1 own.within own.fields-of in
      record {
        follows = (λ z. rw label (x.beside.0 z), omega (arith, n.count-is, own.positive), omega (arith, n.count-is, x.beside.1));
        totals = rw (n.kind-is, n.payload-is, n.count-is, sum_inside e b p depth a.count c (eqb l.kind record_kind) h.tagged.1) own.payload;
        inside = record { ruled = ruled_c; beside = rw (n.kind-is, n.count-is) inner };
        behind = record { ruled = ruled_s; beside = (λ z. rw label own.before, omega (arith, n.count-is, x.beside.1)) };
      }
  rest-parts (fields depth of_record last_key) h x =
      let n = (holds-first e b p end true depth l a c s h).is-node in
      let label : field_label (type_key b p) ≡ l = ap field_label n.key-is ∙ sym h.tagged.0 in
      let (own, ruled_c, ruled_s) = ruled-parts e l a c s x.ruled in
      let counts = and_parts (field_count e a.count of_record) (fields_of e of_record s) x.beside.1 in
      let key = sym (compare-fields last_key (type_key b p)) ∙ ap (compare_label (field_label last_key)) label ∙ x.beside.0 in
      let inner = inside-holds e b p depth a.count c false (depth + 1) h.tagged.1 h.shallow.2 own.within (λ z. absurd (true≢false (sym z))) in
      record {
        follows = (
          compare-less last_key (type_key b p) key,
          rw n.payload-is (sym (proper-other l.kind a _ (λ z. omega (arith, kind-eq h.tagged.0, z))) ∙ own.payload),
          rw n.count-is counts.0,
        );
        totals = omega (arith, n.count-is, own.field-total (kind-eq h.tagged.0));
        inside = record { ruled = ruled_c; beside = inner };
        behind = record { ruled = ruled_s; beside = (rw label own.before, counts.1) };
      }
