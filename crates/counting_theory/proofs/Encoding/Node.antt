-- A type that is not empty, in its records: its first node is read at the first record, and its children and the other nodes follow.
use mathlib.Core.Path.{◌≡◌, refl, sym, ◌∙◌, ap}
use mathlib.Core.List.{List, ◌++◌, append_assoc}
use Prim.Native.Nat.{ℕ, ◌+◌, ◌*◌, ◌^◌, ◌<◌}
use native.Mathlib.Omega.{arith}
use lib.ListN.{drop}
use lib.Seq.{drop-drop, drop_at}
use Rattle.counting_theory.specs.Payload.{Payload}
use Rattle.counting_theory.specs.Trie.{node, size}
use Rattle.counting_theory.specs.Label.{Label, CountingType}
use Rattle.counting_theory.specs.Encoding.{type_size, type_kind, type_zero, type_key, type_span, type_payload, encode}
use Rattle.counting_theory.specs.Inside.TypeBytes.{type_count, Fitting}
use Rattle.counting_theory.proofs.Encoding.Header.{Fields, Front, length-encode, payload-count, header-front, header_read}

-- what does not hang on the payload, which may not fit; q follows the type
pub record NodeFront (b : List ℕ) (i : ℕ) (l : Label) (c s : CountingType) (q : List ℕ) : Type 0 where
  pub kind-is : type_kind b i ≡ l.kind
  pub key-is : type_key b i ≡ l.key
  pub span-is : type_span b i ≡ 1 + size c
  pub in-children : drop (type_size * (i + 1)) b ≡ encode c ++ (encode s ++ q)
  pub in-next : drop (type_size * (i + type_span b i)) b ≡ encode s ++ q

pub node-front : (b : List ℕ) (i : ℕ) (l : Label) (a : Payload) (c s : CountingType) (q : List ℕ) → l.kind < 256 → l.key < 65536 → 1 + size c < 2 ^ 32 →
    drop (type_size * i) b ≡ encode (node l a c s) ++ q → NodeFront b i l c s q
unfolding encode
node-front b i l a c s q hk hy hs e =
    let last : List ℕ = encode s ++ q in
    let f : Front b i l (1 + size c) (encode c ++ last) = header-front b i l (1 + size c) a (encode c ++ last) hk hy hs (e ∙ simp append_assoc) in
    let p : type_size * (i + type_span b i) ≡ type_size * (i + 1) + type_size * size c = omega (arith, f.span-is) in
    record {
      kind-is = f.kind-is;
      key-is = f.key-is;
      span-is = f.span-is;
      in-children = f.rest-is;
      in-next = rw (p, ← drop-drop, f.rest-is) (drop_at (encode c) last (type_size * size c) (length-encode c));
    }

pub record NodeAt (b : List ℕ) (i end : ℕ) (l : Label) (a : Payload) (c s : CountingType) : Type 0 where
  pub kind-is : type_kind b i ≡ l.kind
  pub zero_is : type_zero b i ≡ 0
  pub key-is : type_key b i ≡ l.key
  pub span-is : type_span b i ≡ 1 + size c
  pub payload-is : type_payload b i ≡ a
  pub count-is : type_count b i ≡ a.count
  pub in-children : drop (type_size * (i + 1)) b ≡ encode c ++ drop (type_size * (i + type_span b i)) b
  pub in-next : drop (type_size * (i + type_span b i)) b ≡ encode s ++ drop (type_size * end) b

pub node-read : (b : List ℕ) (i end : ℕ) (l : Label) (a : Payload) (c s : CountingType) → Fitting (node l a c s) →
    drop (type_size * i) b ≡ encode (node l a c s) ++ drop (type_size * end) b → NodeAt b i end l a c s
unfolding encode Fitting
node-read b i end l a c s fit e =
    let n = node-front b i l a c s (drop (type_size * end) b) fit.0.0 fit.0.1.1.0 fit.0.1.1.1.0 e in
    let rest : List ℕ = encode c ++ (encode s ++ drop (type_size * end) b) in
    let f : Fields b i l.kind 0 l.key (1 + size c) a rest =
    header_read b i l (1 + size c) a rest fit.0 (e ∙ simp append_assoc) in
    record {
      kind-is = f.kind-is;
      zero_is = f.zero_is;
      key-is = f.key-is;
      span-is = f.span-is;
      payload-is = f.payload-is;
      count-is = sym (payload-count b i) ∙ ap (λ (p : Payload). p.count) f.payload-is;
      in-children = n.in-children ∙ rw n.in-next refl;
      in-next = n.in-next;
    }
