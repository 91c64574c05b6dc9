-- `word_at` meets its contract. The loop's invariant: the word lacks the keys of the fields that are left.
use Prim.Native.Nat.{◌*◌, ◌-◌, ◌≤◌}
use lib.ListN.{length}
use Rattle.counting_theory.specs.Encoding.{type_size, type_key, type_span}
use Rattle.type_arena.specs.Inside.Arena.{keys_in}
use Rattle.key_word.specs.Word.{word}
use Rattle.key_word.proofs.Building.{Left}
use Rattle.tag_bus.proofs.entries.word_at.Given as goal

abbrev pub invariant-loop-j : goal.invariant-loop-j
invariant-loop-j l = (type_size * l.end ≤ length l.arena) × Left (type_span l.arena) (type_key l.arena) l.end l.j l.w (word (keys_in l.arena l.i))

abbrev pub decreases-loop-j : goal.decreases-loop-j
decreases-loop-j l = l.end - l.j
