-- Inference has filled the arena, or there is no room: what stands in the front of the arena.
use mathlib.Core.Path.{◌≡◌, refl, ap, ◌∙◌}
use mathlib.Core.List.{List, []}
use Prim.Native.Nat.{ℕ, ◌+◌, ◌*◌, ◌<◌}
use native.Mathlib.Omega.{arith}
use lib.ListN.{length, take, length-append}
use lib.Seq.{take_at}
use Rattle.counting_theory.specs.Trie.{size}
use Rattle.counting_theory.specs.Label.{CountingType}
use Rattle.counting_theory.specs.Encoding.{type_size, encode}
use Rattle.counting_theory.specs.Answers.{stored}
use Rattle.counting_theory.proofs.Encoding.Header.{length-encode}
use Rattle.std.specs.Prelude.{Ok, Err}
use Rattle.answers.specs.declared.Refusal.TheVariants.{Room}
use Rattle.answers.specs.Inside.Front.{WrittenInFront}
use Rattle.answers.proofs.Fronts.{front-room, front-stored}
use Rattle.inference.specs.Inside.Inferring.{Grown}

module _ (g : CountingType) (b : List ℕ) (n : ℕ) (l : length b ≡ n) where
  pub inferred-room : length b < type_size * (size g + 0) → WrittenInFront (stored n g) (Err Room) b
  inferred-room h = front-room g n b (omega (arith, length-encode g))

  pub inferred-stored : (k : ℕ) → Grown g [] k b → WrittenInFront (stored n g) (Ok k) b
  inferred-stored k h =
      let z : length b ≡ length (encode g) + length h.free = ap length h.bytes ∙ length-append (encode g) h.free in
      front-stored g n k b h.count (omega arith) (ap (take (length (encode g))) h.bytes ∙ take_at (encode g) h.free (length (encode g)) refl)
