-- The keys of a table's values, from those of its records.
use mathlib.Core.Path.{◌≡◌, sym, ◌∙◌, ap}
use mathlib.Core.Bool.{Bool, false}
use mathlib.Core.List.{List, [], ◌++◌, append_assoc, append-nil}
use Prim.Native.Nat.{ℕ, suc, ◌+◌, ◌*◌, ◌-◌, ◌≤◌}
use native.Mathlib.Omega.{arith}
use lib.Dec.{eqb}
use lib.ListN.{length, drop, length-append, length-drop}
use lib.Seq.{drop-drop, drop_at}
use Rattle.value_table.specs.Value.{record_size, max_length, record_kind, Values, none, value, size, encode, ValidAt, KeysUpTo}
use Rattle.value_table.specs.Acceptance.{Table}
use Rattle.value_table.proofs.TableLayout.{length-encode, header_read, value-fits}
use Rattle.tag_bus.proofs.Labels.{ValueKeys}

module _ (m : ℕ) (b : List ℕ) (short : length b ≤ max_length) (keys : KeysUpTo m b) where
  value-keys : (i : ℕ) (field : Bool) (depth : ℕ) (vs : Values) (q : List ℕ) → drop (record_size * i) b ≡ encode vs ++ q → ValidAt field depth vs → ValueKeys m vs
  unfolding encode size ValidAt
  value-keys i field depth none q e h = tt
  value-keys i field depth (value head key content next) q e h =
      let n : length b - record_size * i ≡ record_size * (1 + size content + size next) + length q =
      sym (length-drop (record_size * i) b) ∙ ap length e ∙ length-append (encode (value head key content next)) q
      ∙ ap (λ k. k + length q) (length-encode (value head key content next)) in
      let f = header_read b i head key (1 + size content) (encode content ++ (encode next ++ q)) (value-fits field depth head key content h.0 (omega arith)) (e ∙ simp append_assoc) in
      let p : record_size * (i + 1 + size content) ≡ record_size * (i + 1) + record_size * size content = omega arith in
      let behind : drop (record_size * (i + 1 + size content)) b ≡ encode next ++ q =
      rw (p, ← drop-drop, f.rest-is) (drop_at (encode content) (encode next ++ q) (record_size * size content) (length-encode content)) in (
        omega (arith, keys i (omega arith), f.key-is),
        value-keys (i + 1) (eqb head.kind record_kind) (suc depth) content (encode next ++ q) f.rest-is h.1,
        value-keys (i + 1 + size content) field depth next q behind h.2,
      )

pub table-keys : (m : ℕ) (b : List ℕ) (ms : Values) (n : ℕ) → Table b ms n → KeysUpTo m b → ValueKeys m ms
table-keys m b ms n t keys =
    value-keys m b (omega (arith, t.room, ap length t.bytes, length-encode ms)) keys 0 false 1 ms [] (t.bytes ∙ sym (append-nil (encode ms))) t.valid
