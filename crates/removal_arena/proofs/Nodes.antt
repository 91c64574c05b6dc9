-- A type in the bytes of an arena of 16-byte records, whatever its counts: what is read at its first record, and the nodes behind it.
use mathlib.Core.Path.{◌≡◌, sym, ◌∙◌, ap}
use mathlib.Core.Bool.{Bool}
use mathlib.Core.List.{List, ◌++◌}
use Prim.Native.Nat.{ℕ, ◌+◌, ◌*◌, ◌-◌, ◌^◌, ◌<◌}
use native.Mathlib.Omega.{arith}
use lib.ListN.{length, drop, length-append, length-drop}
use Rattle.byte_records.specs.Inside.Chain.{Chain, done, next}
use Rattle.removal_theory.specs.Payload.{Payload}
use Rattle.counting_theory.specs.Trie.{nil, node, size}
use Rattle.counting_theory.specs.Label.{Label}
use Rattle.counting_theory.specs.declared.equivalence.Equivalence.{Equivalence}
use Rattle.removal_theory.specs.Label.{CountingType}
use Rattle.removal_theory.specs.Encoding.{type_size, type_kind, type_key, type_span, sibling_keys, encode, Tagged}
use Rattle.removal_theory.specs.Inside.TypeBytes.{Fitting}
use Rattle.removal_arena.specs.Inside.Arena.{label_at, FieldsInside, Labelled}
use Rattle.removal_theory.proofs.Tagged.Parts.{tagged-parts, shape-label}
use Rattle.removal_theory.proofs.Encoding.Header.{length-encode}
use Rattle.removal_theory.proofs.Encoding.Node.{NodeFront, node-front}
use Rattle.type_arena.proofs.Fields.{inside-keys}
use Rattle.type_arena.specs.Inside.Layout.{label_by}

-- each kind, key and span fits its bytes
abbrev pub HeadsFit : CountingType → Type 0
HeadsFit nil = Unit {0}
HeadsFit (node l a c s) = ((l.kind < 256) × (l.key < 65536) × (1 + size c < 2 ^ 32)) × HeadsFit c × HeadsFit s

pub fitting-heads : (f : CountingType) → Fitting f → HeadsFit f
unfolding Fitting
fitting-heads nil h = tt
fitting-heads (node l a c s) h = ((h.0.0, h.0.1.1.0, h.0.1.1.1.0), fitting-heads c h.1, fitting-heads s h.2)

-- the first node, at record i, with its children inside it, the nodes s behind it, and q behind these
pub record NodeIn (b : List ℕ) (i : ℕ) (l : Label) (a : Payload) (c s : CountingType) (q : List ℕ) : Type 0 where
  pub kind-is : type_kind b i ≡ l.kind
  pub key-is : type_key b i ≡ l.key
  pub span-is : type_span b i ≡ 1 + size c
  pub in-next : drop (type_size * (i + type_span b i)) b ≡ encode s ++ q
  pub here : Labelled b i
  pub label_is : (e : Equivalence) (field : Bool) → Tagged e field (node l a c s) → label_at e b i ≡ l

module _ (b : List ℕ) where
  front : (i : ℕ) (l : Label) (a : Payload) (c s : CountingType) (q : List ℕ) → HeadsFit (node l a c s) → drop (type_size * i) b ≡ encode (node l a c s) ++ q →
      NodeFront b i l c s q
  front i l a c s q h e = node-front b i l a c s q h.0.0 h.0.1 h.0.2 e

  chain-in : (p end : ℕ) (c : CountingType) (q : List ℕ) → HeadsFit c → drop (type_size * p) b ≡ encode c ++ q → p + size c ≡ end →
      Chain (type_span b) (type_key b) end p (sibling_keys c)
  unfolding size sibling_keys
  chain-in p end nil q h e n = let z : p ≡ end = omega arith in rw z done
  chain-in p end (node l a c s) q h e n =
      let x = front p l a c s q h e in
      rw (← x.key-is)
      (next {p = p} (omega arith) (omega (arith, x.span-is)) (chain-in (p + type_span b p) end s q h.2 x.in-next (omega (arith, x.span-is))))

  pub node_in : (i : ℕ) (l : Label) (a : Payload) (c s : CountingType) (q : List ℕ) → HeadsFit (node l a c s) → drop (type_size * i) b ≡ encode (node l a c s) ++ q →
      NodeIn b i l a c s q
  unfolding size label_by
  node_in i l a c s q h e =
      let x = front i l a c s q h e in
      let n : length b - type_size * i ≡ type_size * (1 + (size c + size s)) + length q =
      sym (length-drop (type_size * i) b) ∙ ap length e ∙ length-append (encode (node l a c s)) q ∙ ap (λ k. k + length q) (length-encode (node l a c s)) in
      let f : FieldsInside b i =
      record {
        keys = sibling_keys c;
        chain = chain-in (i + 1) (i + type_span b i) c (encode s ++ q) h.1 x.in-children (omega (arith, x.span-is));
        within = omega (arith, x.span-is);
      } in
      record {
        kind-is = x.kind-is;
        key-is = x.key-is;
        span-is = x.span-is;
        in-next = x.in-next;
        here = record { whole = omega (arith, x.span-is); fields = λ k. f };
        label_is = λ w field t. rw (inside-keys f, x.kind-is, x.key-is) (sym (shape-label w field l c (tagged-parts w field l a c s t).0));
      }
