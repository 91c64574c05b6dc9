-- One pass over the records that hold a type gives its entries.
use mathlib.Core.Path.{◌≡◌, refl, sym, ◌∙◌}
use mathlib.Core.Bool.{Bool, true, false, cond}
use mathlib.Core.List.{List, [], ◌++◌, append_assoc}
use Prim.Native.Nat.{ℕ, zero, suc, ◌+◌, ◌*◌, ◌≤◌, ◌<◌}
use native.Mathlib.Omega.{arith}
use native.Mathlib.Nat.{zero-add, suc-add, add-zero}
use native.Mathlib.Decide.{dec_le}
use lib.Dec.{eqb}
use lib.ListN.{length, drop}
use borrow.Author.Tests.{eqb-true, eq-eqb}
use Rattle.value_table.specs.Value.{record_kind}
use Rattle.counting_theory.specs.Payload.{Payload}
use Rattle.counting_theory.specs.Trie.{nil, node, size}
use Rattle.counting_theory.specs.Label.{Label, listed, CountingType}
use Rattle.counting_theory.specs.declared.equivalence.Equivalence.TheVariants.{Label as by_label}
use Rattle.counting_theory.specs.Encoding.{type_size, type_kind, encode, sibling_keys, Tagged}
use Rattle.counting_theory.proofs.Label.{keys-eq}
use Rattle.counting_theory.proofs.Tagged.Parts.{holds_fields, tagged-parts}
use Rattle.counting_theory.proofs.Encoding.Node.{NodeFront, node-front}
use Rattle.type_arena.specs.Inside.Arena.{keys_in, label_at, FieldsInside}
use Rattle.type_arena.proofs.Fields.{inside-chain}
use Rattle.type_arena.proofs.Nodes.{HeadsFit, NodeIn, node_in}
use Rattle.tag_bus.specs.Entries.{entry, entries}
use Rattle.tag_bus.specs.Inside.Flat.{entry_at, entries_from, WordRecord}
use Rattle.tag_bus.proofs.Worded.{WordNode, Worded}

-- from record i on b holds f, a union or a run of fields, and then q
pub record Held (b : List ℕ) (i : ℕ) (field : Bool) (f : CountingType) (q : List ℕ) : Type 0 where
  pub bytes : drop (type_size * i) b ≡ encode f ++ q
  pub fit : HeadsFit f
  pub tagged : Tagged by_label field f
  pub words : Worded f

-- its first node
record HeldNode (b : List ℕ) (i : ℕ) (field : Bool) (l : Label) (c s : CountingType) (q : List ℕ) : Type 0 where
  kind-is : type_kind b i ≡ l.kind
  keys-are : l.kind ≡ record_kind → keys_in b i ≡ sibling_keys c
  word-record : l.kind ≡ record_kind → WordRecord b i
  inside : Held b (i + 1) (holds_fields field l) c (encode s ++ q)
  behind : Held b (i + (1 + size c)) field s q

module _ (b : List ℕ) where
  keys-there : (i : ℕ) (l : Label) (c : CountingType) → label_at by_label b i ≡ l → type_kind b i ≡ l.kind → l.kind ≡ record_kind → WordNode l c → keys_in b i ≡ sibling_keys c
  unfolding label_at listed
  keys-there i l c e k h w = (rw (k, eq-eqb l.kind record_kind h) at (keys-eq e)) ∙ w.label

  fields-there : (i : ℕ) (c : CountingType) → type_size * i + type_size ≤ length b → FieldsInside b i → keys_in b i ≡ sibling_keys c → (l : Label) → WordNode l c → WordRecord b i
  fields-there i c h f e l w =
      record { whole = h; within = f.within; fields = record { chain = inside-chain f; distinct = rw e w.distinct; within = rw e w.within } }

  held-node : (i : ℕ) (field : Bool) (l : Label) (a : Payload) (c s : CountingType) (q : List ℕ) → Held b i field (node l a c s) q → HeldNode b i field l c s q
  held-node i field l a c s q h =
      let x : NodeFront b i l c s q = node-front b i l a c s q h.fit.0.0 h.fit.0.1 h.fit.0.2 h.bytes in
      let n : NodeIn b i l a c s q = node_in b i l a c s q h.fit h.bytes in
      let p = tagged-parts by_label field l a c s h.tagged in
      let keys : l.kind ≡ record_kind → keys_in b i ≡ sibling_keys c = λ e. keys-there i l c (n.label_is by_label field h.tagged) x.kind-is e (h.words.0 e) in
      record {
        kind-is = x.kind-is;
        keys-are = keys;
        word-record = λ e. fields-there i c n.here.whole (n.here.fields (x.kind-is ∙ e)) (keys e) l (h.words.0 e);
        inside = record { bytes = x.in-children; fit = h.fit.1; tagged = p.1; words = h.words.1 };
        behind = record { bytes = rw x.span-is at x.in-next; fit = h.fit.2; tagged = p.2; words = h.words.2 };
      }

  entries-append : (m n i : ℕ) → entries_from b (m + n) i ≡ entries_from b m i ++ entries_from b n (i + m)
  unfolding entries_from
  entries-append zero n i = rw (zero-add n, add-zero i) refl
  entries-append (suc m) n i =
      let e : i + 1 + m ≡ i + suc m = omega arith in
      rw (suc-add m n, entries-append m n (i + 1), e) (sym (append_assoc (entry_at b i) (entries_from b m (i + 1)) (entries_from b n (i + suc m))))

  entry-there : (i : ℕ) (l : Label) (c : CountingType) → type_kind b i ≡ l.kind → (l.kind ≡ record_kind → keys_in b i ≡ sibling_keys c) →
      cond (eqb l.kind record_kind) (entry (sibling_keys c)) [] ≡ entry_at b i
  unfolding entry_at
  entry-there i l c k h = rw k (go (eqb l.kind record_kind) (λ t. h (eqb-true l.kind record_kind t)))
    where
      go : (t : Bool) → (t ≡ true → keys_in b i ≡ sibling_keys c) → cond t (entry (sibling_keys c)) [] ≡ cond t (entry (keys_in b i)) []
      go true h = rw (h refl) refl
      go false h = refl

  pub entries-flat : (i : ℕ) (field : Bool) (f : CountingType) (q : List ℕ) → Held b i field f q → entries f ≡ entries_from b (size f) i
  unfolding entries entries_from size
  entries-flat i field nil q h = refl
  entries-flat i field (node l a c s) q h =
      let n = held-node i field l a c s q h in
      let e : 1 + (size c + size s) ≡ suc (size c + size s) = omega arith in
      let p : i + 1 + size c ≡ i + (1 + size c) = omega arith in
      rw (e, entries-append (size c) (size s) (i + 1), p, entry-there i l c n.kind-is n.keys-are, entries-flat (i + 1) (holds_fields field l) c (encode s ++ q) n.inside, entries-flat (i + (1 + size c)) field s q n.behind) refl

  -- a record of a node is its first, one inside it, or one behind it
  within-node : {P : Type 0} (i inside behind j : ℕ) → i ≤ j → j < i + (1 + (inside + behind)) →
      (j ≡ i → P) → (i + 1 ≤ j → j < i + 1 + inside → P) → (i + (1 + inside) ≤ j → j < i + (1 + inside) + behind → P) → P
  within-node {P} i inside behind j low high here in-it after = go (dec_le j i) (dec_le (i + (1 + inside)) j)
    where
      go : Dec (j ≤ i) → Dec (i + (1 + inside) ≤ j) → P
      go (yes z) d = here (omega arith)
      go (no z) (yes w) = after w (omega arith)
      go (no z) (no w) = in-it (omega arith) (omega arith)

  pub word-records : (i : ℕ) (field : Bool) (f : CountingType) (q : List ℕ) → Held b i field f q → (j : ℕ) → i ≤ j → j < i + size f → type_kind b j ≡ record_kind → WordRecord b j
  unfolding size
  word-records i field nil q h j low high k = absurd (omega arith)
  word-records i field (node l a c s) q h j low high k =
      let n = held-node i field l a c s q h in
      within-node i (size c) (size s) j low high
      (λ e. let w : WordRecord b i = n.word-record (sym n.kind-is ∙ (rw e at k)) in rw e w)
      (λ x y. word-records (i + 1) (holds_fields field l) c (encode s ++ q) n.inside j x y k)
      (λ x y. word-records (i + (1 + size c)) field s q n.behind j x y k)
