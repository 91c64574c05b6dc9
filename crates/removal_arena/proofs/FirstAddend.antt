-- What is known of the first addend or field of a run of 16-byte records that is not empty, on its bytes.
use mathlib.Core.Path.{◌≡◌, refl, sym, ap, ◌∙◌}
use mathlib.Core.Bool.{Bool, true, false, not, ◌&&◌}
use mathlib.Core.List.{List, [], ◌++◌, append_assoc, append-nil}
use Prim.Native.Nat.{ℕ, ◌+◌, ◌*◌, ◌-◌, ◌≤◌, ◌<◌}
use native.Mathlib.Omega.{arith}
use lib.Dec.{eqb}
use lib.ListN.{length, take, drop, length-append, length-take, length-drop}
use lib.Seq.{take_at, drop_at, drop-length, take_all}
use Rattle.value_table.specs.Value.{record_kind}
use Rattle.removal_theory.specs.Payload.{Payload}
use Rattle.counting_theory.specs.Trie.{nil, node, size}
use Rattle.counting_theory.specs.Label.{Label}
use Rattle.counting_theory.specs.declared.equivalence.Equivalence.{Equivalence}
use Rattle.removal_theory.specs.Label.{CountingType}
use Rattle.removal_theory.specs.Encoding.{type_size, type_kind, type_key, type_span, type_payload, header, encode, decode, type_of}
use Rattle.removal_theory.specs.Inside.TypeBytes.{Fitting}
use Rattle.removal_theory.specs.WellFormed.{IsType}
use Rattle.removal_arena.specs.Inside.Arena.{label_at, header_of, Labelled}
use Rattle.removal_arena.specs.Inside.Addend.{front, body, rest, Headed, Coded}
use Rattle.counting_theory.proofs.Tagged.Parts.{holds_fields}
use Rattle.removal_theory.proofs.Tagged.Parts.{Shape, Parts, tagged-parts}
use Rattle.removal_theory.proofs.WellFormed.Fitting.{type-fitting}
use Rattle.removal_theory.proofs.Encoding.Header.{length-encode}
use Rattle.removal_theory.proofs.Encoding.Node.{NodeAt, node-read}
use Rattle.removal_theory.proofs.Encoding.Decode.{decode-encode}
use Rattle.removal_arena.proofs.Nodes.{fitting-heads, NodeIn, node_in}
use Rattle.removal_arena.proofs.RecordBytes.{length-header}
use Rattle.type_arena.specs.Inside.Layout.{label_by}

-- the header of a label, and that of its kind and key
header-parts : (l : Label) (span : ℕ) (a : Payload) → header l span a ≡ header_of l.kind l.key span a
unfolding header
header-parts l span a = refl

pub header-first : (e : Equivalence) (x : List ℕ) (span : ℕ) (a : Payload) → header (label_at e x 0) span a ≡ header_of (type_kind x 0) (type_key x 0) span a
unfolding label_by header
header-first e x span a = refl

-- whether fields stand inside, by the kind
pub fields-by-kind : (field : Bool) (l : Label) → holds_fields field l ≡ (not field && eqb l.kind record_kind)
fields-by-kind true l = refl
fields-by-kind false l = refl

pub type-empty : (e : Equivalence) → type_of e [] ≡ nil
unfolding type_of decode
type-empty e = refl

pub coded-type : {e : Equivalence} {field : Bool} {x : List ℕ} (k : Coded e field x) → type_of e x ≡ k.trie
coded-type {e} {field} k = ap (type_of e) k.bytes ∙ decode-encode e field k.trie k.tagged k.fitting

pub coded-length : {e : Equivalence} {field : Bool} {x : List ℕ} (k : Coded e field x) → length x ≡ type_size * size (type_of e x)
coded-length k = rw (coded-type k) (ap length k.bytes ∙ length-encode k.trie)

-- the bytes of a well-formed type are a union
pub type-coded : {e : Equivalence} {x : List ℕ} {f : CountingType} → IsType e x f → Coded e false x
type-coded {f = f} t = record { trie = f; bytes = t.bytes; tagged = t.tagged; fitting = type-fitting t }

-- the first addend or field of x
pub record Addend (e : Equivalence) (field : Bool) (x : List ℕ) : Type 0 where
  pub is-type : type_of e x ≡ node (label_at e x 0) (type_payload x 0) (type_of e (body x)) (type_of e (rest x))
  pub here : Labelled x 0
  pub is-shape : Shape e field (label_at e x 0) (type_of e (body x))
  pub is_body : encode (type_of e (body x)) ≡ body x
  pub is_front : front x ≡ header_of (type_kind x 0) (type_key x 0) (1 + size (type_of e (body x))) (type_payload x 0) ++ body x
  pub is-span : type_size * type_span x 0 ≡ type_size + length (body x)
  pub is-length : type_size * type_span x 0 + length (rest x) ≡ length x
  pub in_body : Coded e (not field && eqb (type_kind x 0) record_kind) (body x)
  pub in_rest : Coded e field (rest x)

module _ {e : Equivalence} {field : Bool} {x : List ℕ} (l : Label) (a : Payload) (c s : CountingType) (k : Coded e field x) (z : k.trie ≡ node l a c s) where
  fits : Fitting (node l a c s)
  fits = rw z at k.fitting

  parts : Parts e field l c s
  parts = tagged-parts e field l a c s (rw z at k.tagged)

  bytes : x ≡ encode (node l a c s)
  bytes = k.bytes ∙ ap encode z

  node_at : NodeAt x 0 (1 + (size c + size s)) l a c s
  unfolding size
  node_at =
      let n : length x ≡ type_size * (1 + (size c + size s)) = ap length bytes ∙ length-encode (node l a c s) in
      node-read x 0 (1 + (size c + size s)) l a c s fits (bytes ∙ rw (← n, drop-length) (sym (append-nil (encode (node l a c s)))))

  in_bytes : NodeIn x 0 l a c s []
  in_bytes = node_in x 0 l a c s [] (fitting-heads (node l a c s) fits) (bytes ∙ sym (append-nil (encode (node l a c s))))

  -- the parts of x
  record Split : Type 0 where
    pub is_body : body x ≡ encode c
    pub is-rest : rest x ≡ encode s
    pub is_front : front x ≡ header_of l.kind l.key (1 + size c) a ++ encode c
    pub is-length : length x ≡ type_size * (1 + (size c + size s))

  split : Split
  unfolding encode front body rest size
  split =
      let n = node_at.span-is in
      let H : List ℕ = header_of l.kind l.key (1 + size c) a in
      let d : length H ≡ type_size = length-header (record { kind = l.kind; key = l.key; keys = [] }) (1 + size c) a in
      let w : x ≡ H ++ (encode c ++ encode s) = bytes ∙ ap (λ u. u ++ (encode c ++ encode s)) (header-parts l (1 + size c) a) in
      let v : x ≡ (H ++ encode c) ++ encode s = w ∙ sym (append_assoc H (encode c) (encode s)) in
      let p : length (H ++ encode c) ≡ type_size * type_span x 0 = simp length-append (omega (arith, length-encode c)) in
      let q : type_size * type_span x 0 - type_size ≡ type_size * size c = omega arith in
      record {
        is_body =
            rw q (ap (λ u. take (type_size * size c) (drop type_size u)) w
            ∙ ap (take (type_size * size c)) (drop_at H (encode c ++ encode s) type_size d) ∙ take_at (encode c) (encode s) (type_size * size c) (length-encode c));
        is-rest = ap (drop (type_size * type_span x 0)) v ∙ drop_at (H ++ encode c) (encode s) (type_size * type_span x 0) p;
        is_front = ap (take (type_size * type_span x 0)) v ∙ take_at (H ++ encode c) (encode s) (type_size * type_span x 0) p;
        is-length = ap length bytes ∙ length-encode (node l a c s);
      }

  node-addend : Addend e field x
  unfolding Fitting
  node-addend =
      let n = node_at in
      let m = split in
      let g : (not field && eqb (type_kind x 0) record_kind) ≡ holds_fields field l = rw n.kind-is (sym (fields-by-kind field l)) in
      let u : Coded e (holds_fields field l) (body x) = record { trie = c; bytes = m.is_body; tagged = parts.1; fitting = fits.1 } in
      let v : Coded e field (rest x) = record { trie = s; bytes = m.is-rest; tagged = parts.2; fitting = fits.2 } in
      let i : type_of e (body x) ≡ c = coded-type u in
      let j : type_of e (rest x) ≡ s = coded-type v in
      let w : type_of e x ≡ node l a c s = coded-type k ∙ z in
      let o : label_at e x 0 ≡ l = in_bytes.label_is e field (rw z at k.tagged) in
      record {
        is-type = cc n.payload-is;
        here = in_bytes.here;
        is-shape = rw (o, i) parts.0;
        is_body = rw i (sym m.is_body);
        is_front = rw (n.kind-is, n.key-is, n.payload-is, i, m.is_body) m.is_front;
        is-span = rw m.is_body (omega (arith, length-encode c, n.span-is));
        is-length = rw m.is-rest (omega (arith, length-encode s, n.span-is, m.is-length));
        in_body = rw g u;
        in_rest = v;
      }

pub addend : {e : Equivalence} {field : Bool} {x : List ℕ} → Coded e field x → 0 < length x → Addend e field x
unfolding encode
addend {e} {field} {x} k h = go k.trie refl
  where
    go : (f : CountingType) → k.trie ≡ f → Addend e field x
    go nil z = absurd (omega (arith, ap length (k.bytes ∙ ap encode z)))
    go (node l a c s) z = node-addend l a c s k z

pub headed : {e : Equivalence} {field : Bool} {x : List ℕ} → Addend e field x → Headed x
headed h = record { some = omega arith; whole = omega arith }

pub body-rest : {e : Equivalence} {field : Bool} {x : List ℕ} → Addend e field x → type_size + length (body x) + length (rest x) ≡ length x
body-rest h = omega (arith, h.is-length, h.is-span)

pub front_rest : {e : Equivalence} {field : Bool} {x : List ℕ} → Addend e field x → length (front x) + length (rest x) ≡ length x
unfolding front
front_rest {x = x} h = omega (arith, h.is-length, length-take (type_size * type_span x 0) x)

pub front-le : (x : List ℕ) → length (front x) ≤ length x
unfolding front
front-le x = omega (arith, length-take (type_size * type_span x 0) x)

-- the parts as the code takes them
pub front-is : (x : List ℕ) (n : ℕ) → n ≡ type_size * type_span x 0 → take n x ≡ front x
unfolding front
front-is x n h = rw h refl

pub body_is : (x : List ℕ) (n : ℕ) → n ≡ type_size * type_span x 0 → take (n - type_size) (drop type_size x) ≡ body x
unfolding body
body_is x n h = rw h refl

pub rest-is : (x : List ℕ) (n : ℕ) → n ≡ type_size * type_span x 0 → take (length x - n) (drop n x) ≡ rest x
unfolding rest
rest-is x n h = rw (← h) (take_all (length x - n) (drop n x) (omega (arith, length-drop n x)))
