-- Laws of 16-byte records that hold a type: the step from a node to its children and to the nodes behind it.
use mathlib.Core.Path.{◌≡◌, refl, ◌∙◌}
use mathlib.Core.Bool.{Bool, true, false}
use mathlib.Core.List.{List, append_assoc}
use Prim.Native.Nat.{ℕ, ◌+◌, ◌*◌, ◌≤◌, ◌<◌}
use native.Mathlib.Omega.{arith}
use lib.ListN.{length}
use Rattle.byte_records.specs.Number.{Bytes}
use Rattle.removal_theory.specs.Payload.{Payload}
use Rattle.counting_theory.specs.Trie.{nil, node, size}
use Rattle.counting_theory.specs.Label.{Label, listed, label_of}
use Rattle.counting_theory.specs.declared.equivalence.Equivalence.{Equivalence}
use Rattle.removal_theory.specs.Label.{CountingType}
use Rattle.removal_theory.specs.Encoding.{type_size, type_kind, type_key, type_span, type_payload, encode, sibling_keys}
use Rattle.removal_theory.specs.Inside.TypeBytes.{Fitting}
use Rattle.removal_theory.specs.Inside.RecordsHold.{RecordsHold}
use Rattle.counting_theory.proofs.Tagged.Parts.{holds_fields, listed-field}
use Rattle.removal_theory.proofs.Tagged.Parts.{Shape, tagged-parts, parts-tagged}
use Rattle.removal_theory.proofs.Encoding.Header.{type_key-below, header-fits, header-written}
use Rattle.removal_theory.proofs.Encoding.Node.{NodeAt, node-read}
use Rattle.counting_theory.proofs.WellFormed.Nodes.{KeyOrDepth, depth_under}
use Rattle.removal_theory.proofs.WellFormed.Nodes.{shallow-parts, parts-shallow}
use Rattle.removal_theory.proofs.WellFormed.Record.{OwnRecord, TypeRecord}

size-zero : (f : CountingType) → size f ≡ 0 → f ≡ nil
unfolding size
size-zero nil h = refl
size-zero (node l a c s) h = absurd (omega arith)

module _ (e : Equivalence) (b : List ℕ) (i end : ℕ) (field : Bool) (depth : ℕ) where
  pub holds-nil : i ≡ end → RecordsHold e b i end field depth nil
  unfolding encode size Fitting
  holds-nil h = record { bytes = rw h refl; ends = omega arith; tagged = tt; shallow = tt; fitting = tt }

module _ (e : Equivalence) (b : List ℕ) (i : ℕ) (c : CountingType) where
  -- the label of record i, with the children c
  abbrev pub label_with : Label
  label_with = label_of e (type_kind b i) (type_key b i) (sibling_keys c)

  record-shape : (field : Bool) (depth : ℕ) → OwnRecord b i field depth → type_span b i ≡ 1 + size c → Shape e field label_with c
  record-shape true depth r n = rw (r.kind-is, listed-field e (sibling_keys c)) refl
  record-shape false depth r n =
      record {
        kind-low = r.kind-low;
        kind-high = r.kind-high;
        tagged = rw r.unkeyed refl;
        scalar = λ k. size-zero c (omega (arith, r.scalar k));
      }

  record-placed : (field : Bool) (depth : ℕ) → OwnRecord b i field depth → type_key b i < 65536 → KeyOrDepth field depth label_with
  record-placed true depth r n = (r.keyed, n)
  record-placed false depth r n = r.shallow

  module _ (end : ℕ) (field : Bool) (depth : ℕ) (s : CountingType) where
    pub holds-node : Bytes b → type_size * end ≤ length b → TypeRecord b i end field depth →
        RecordsHold e b (i + 1) (i + type_span b i) (holds_fields field label_with) (depth_under field label_with depth) c →
        RecordsHold e b (i + type_span b i) end field depth s → RecordsHold e b i end field depth (node label_with (type_payload b i) c s)
    unfolding encode size Fitting
    holds-node bytes room r children next =
        let n : type_span b i ≡ 1 + size c = omega (arith, children.ends) in
        let fits : type_size * (i + 1) ≤ length b = omega (arith, r.span-low, r.span_fits) in
        let key = type_key-below b i bytes fits in
        record {
          bytes = header-written b i bytes fits r.zeroed (listed e (type_kind b i) (sibling_keys c)) ∙ rw (children.bytes, next.bytes, n) (simp append_assoc);
          ends = omega (arith, next.ends);
          tagged =
              parts-tagged e field label_with (type_payload b i) c s (record-shape field depth r.own n, children.tagged, next.tagged);
          shallow =
              parts-shallow field depth label_with (type_payload b i) c s (record-placed field depth r.own key, children.shallow, next.shallow);
          fitting = (rw (← n) (header-fits b i bytes fits r.zeroed (listed e (type_kind b i) (sibling_keys c))), children.fitting, next.fitting);
        }

-- a type that is not empty: its first record, and what the records behind hold
pub record First (e : Equivalence) (b : List ℕ) (i end : ℕ) (field : Bool) (depth : ℕ) (l : Label) (a : Payload) (c s : CountingType) : Type 0 where
  pub is-node : NodeAt b i end l a c s
  pub in-children : RecordsHold e b (i + 1) (i + type_span b i) (holds_fields field l) (depth_under field l depth) c
  pub in-next : RecordsHold e b (i + type_span b i) end field depth s

module _ (e : Equivalence) (b : List ℕ) (i end : ℕ) (field : Bool) (depth : ℕ) (l : Label) (a : Payload) (c s : CountingType) where
  pub holds-first : RecordsHold e b i end field depth (node l a c s) → First e b i end field depth l a c s
  unfolding size Fitting
  holds-first h =
      let n = node-read b i end l a c s h.fitting h.bytes in
      let p = tagged-parts e field l a c s h.tagged in
      let q = shallow-parts field depth l a c s h.shallow in
      record {
        is-node = n;
        in-children =
            record { bytes = n.in-children; ends = omega (arith, n.span-is); tagged = p.1; shallow = q.1; fitting = h.fitting.1 };
        in-next =
            record { bytes = n.in-next; ends = omega (arith, n.span-is, h.ends); tagged = p.2; shallow = q.2; fitting = h.fitting.2 };
      }
