-- The rest of an expression after one byte, by which words are read from the left.
use Rattle.std.specs.Prelude.{Bool, true, false, cond, ◌&&◌, ◌||◌, ℕ}
use Rattle.json_theory.specs.Rx.{Rx, never, empty, range, then, either, star, within}

-- whether the empty word is one
unfoldable pub nullable : Rx → Bool
nullable never = false
nullable empty = true
nullable (range low high) = false
nullable (then a b) = nullable a && nullable b
nullable (either a b) = nullable a || nullable b
nullable (star a) = true

-- `then` and `either` without what never matters
unfoldable pub seq : Rx → Rx → Rx
seq never b = never
seq empty b = b
seq (range low high) b = then (range low high) b
seq (then a c) b = then (then a c) b
seq (either a c) b = then (either a c) b
seq (star a) b = then (star a) b

unfoldable pub or_never : Rx → Rx → Rx
or_never a never = a
or_never a empty = either a empty
or_never a (range low high) = either a (range low high)
or_never a (then b c) = either a (then b c)
or_never a (either b c) = either a (either b c)
or_never a (star b) = either a (star b)

unfoldable pub alt : Rx → Rx → Rx
alt never b = b
alt empty b = or_never empty b
alt (range low high) b = or_never (range low high) b
alt (then a c) b = or_never (then a c) b
alt (either a c) b = or_never (either a c) b
alt (star a) b = or_never (star a) b

-- what may follow the byte c
unfoldable pub rest : Rx → ℕ → Rx
rest never c = never
rest empty c = never
rest (range low high) c = cond (within low high c) empty never
rest (then a b) c = alt (seq (rest a c) b) (cond (nullable a) (rest b c) never)
rest (either a b) c = alt (rest a c) (rest b c)
rest (star a) c = seq (rest a c) (star a)
