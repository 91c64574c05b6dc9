-- Raw material with each payload taken several times.
use Rattle.std.specs.Prelude.{ℕ}
use Rattle.counting_theory.specs.Payload.{copies}
use Rattle.counting_theory.specs.Trie.{nil, node}
use Rattle.counting_theory.specs.Label.{CountingType}

unfoldable pub times : ℕ → CountingType → CountingType
times w nil = nil
times w (node l a c s) = node l (copies w a) (times w c) (times w s)
