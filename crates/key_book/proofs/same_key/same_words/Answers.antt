-- `same_words` meets its contract.
use mathlib.Core.Path.{◌≡◌}
use Prim.Native.Nat.{◌+◌, ◌*◌, ◌-◌}
use native.Mathlib.Omega.{arith}
use Rattle.key_book.proofs.Matching.{comparing-start, comparing-word, comparing-done}
use Rattle.key_book.proofs.same_key.same_words.Goals as goal

pub loop-word-init : goal.loop-word-init
loop-word-init c =
    let sought = c.requires.0 in
    comparing-start sought.0 sought.1 sought.2

pub loop-word-preserved : goal.loop-word-preserved
loop-word-preserved c =
    let k = 8 * c.loop-word.word in
    let z : 8 * c.loop-word.word + 8 ≡ 8 * (c.loop-word.word + 1) = omega arith in
    rw (← z)
    (comparing-word 8 0 (8 * c.loop-word.word) (λ p. (c.type_inv.text p).fits) (λ p. (c.type_inv.book p).fits)
    c.loop-word.invariant (omega arith) (omega arith) (omega arith) (omega arith)
    (c.same_word.ensures c.if-not-same_word.false))

pub returns-then-same_word : goal.returns-then-same_word
returns-then-same_word c = λ t.
    let args = c.args in
    let e = c.same_word-2.ensures c.if-same_word.true in
    let m = comparing-word 8 0 (args.to - args.from - 8) (λ p. (c.type_inv.text p).fits)
    (λ p. (c.type_inv.book p).fits) c.loop-word.invariant (omega arith) (omega arith) (omega arith) (omega arith) e in
    let z : args.to - args.from - 8 + 8 ≡ args.to - args.from = omega arith in
    comparing-done (rw z at m) (omega arith) (c.ends_at.ensures t)
