-- A sibling in an arena that is no longer than a type may be: its span fits.
use mathlib.Core.Path.{◌≡◌, sym, ◌∙◌, ap}
use mathlib.Core.List.{List, ◌++◌}
use Prim.Native.Nat.{ℕ, ◌+◌, ◌*◌, ◌-◌, ◌^◌, ◌≤◌, ◌<◌}
use native.Mathlib.Omega.{arith}
use lib.ListN.{length, drop, length-append, length-drop}
use Rattle.value_table.specs.Value.{max_length}
use Rattle.counting_theory.specs.Payload.{Payload}
use Rattle.counting_theory.specs.Trie.{nil, node, size}
use Rattle.counting_theory.specs.Label.{Label, CountingType}
use Rattle.counting_theory.specs.Encoding.{type_size, encode}
use Rattle.inference.specs.Inside.Inferring.{NumbersFit}
use Rattle.counting_theory.proofs.Encoding.Header.{length-encode}
use Rattle.type_arena.proofs.Nodes.{HeadsFit, NodeIn}
use Rattle.type_arena.proofs.Nodes as arena

heads-fit : (f : CountingType) → NumbersFit f → size f < 2 ^ 32 → HeadsFit f
unfolding size
heads-fit nil k h = tt
heads-fit (node l a c s) k h = ((k.0.0, k.0.1, omega arith), heads-fit c k.1 (omega arith), heads-fit s k.2 (omega arith))

pub node_in : (b : List ℕ) → length b ≤ max_length → (i : ℕ) (l : Label) (a : Payload) (c s : CountingType) (q : List ℕ) → NumbersFit (node l a c s) →
    drop (type_size * i) b ≡ encode (node l a c s) ++ q → NodeIn b i l a c s q
node_in b short i l a c s q fits e =
    let f : CountingType = node l a c s in
    let n : length b - type_size * i ≡ type_size * size f + length q =
    sym (length-drop (type_size * i) b) ∙ ap length e ∙ length-append (encode f) q ∙ ap (λ k. k + length q) (length-encode f) in
    arena.node_in b i l a c s q (heads-fit f fits (omega arith)) e
