-- `scalar_end` meets its contract.
use Rattle.std.proofs.Common.{sym, ◌∙◌, ap, refl, [], ◌∷◌, arith}
use Rattle.value_table.specs.Value.{none, value}
use Rattle.json_theory.specs.Grammar.{head_of}
use Rattle.json_theory.specs.Parts.{start}
use Rattle.json_theory.specs.Steps.{add, begin}
use Rattle.json_theory.proofs.Scanning.{byte_inside}
use Rattle.json_items.proofs.Leads.{lettered}
use Rattle.json_tokens.proofs.Numbers.{start-inside}
use Rattle.json_items.proofs.Items.{word-reads, scalar-number}
use Rattle.json_items.proofs.item.scalar_end.Goals as goal

pub returns-in-34 : goal.returns-in-34
unfolding start begin
returns-in-34 c = λ key around. rw c.in-34.is (c.text_end.ensures (add (value (head_of 4) key none none) around))

pub returns-in-102 : goal.returns-in-102
unfolding start begin lettered
returns-in-102 c =
    let inside = byte_inside c.args.text.now c.args.at (omega (arith, c.requires.1)) in
    λ key around. rw c.in-102.is (word-reads _ (0x6C ∷ 0x73 ∷ 0x65 ∷ []) 0x61 _ (add (value (head_of 2) key none none) around) c.word_end.result refl
    (omega (arith, inside)) c.word_end.ensures)

pub returns-in-110 : goal.returns-in-110
unfolding start begin lettered
returns-in-110 c =
    let inside = byte_inside c.args.text.now c.args.at (omega (arith, c.requires.1)) in
    λ key around. rw c.in-110.is (word-reads _ (0x6C ∷ 0x6C ∷ []) 0x75 _ (add (value (head_of 1) key none none) around) c.word_end-in-110.result refl
    (omega (arith, inside)) c.word_end-in-110.ensures)

pub returns-in-116 : goal.returns-in-116
unfolding start begin lettered
returns-in-116 c =
    let inside = byte_inside c.args.text.now c.args.at (omega (arith, c.requires.1)) in
    λ key around. rw c.in-116.is (word-reads _ (0x75 ∷ 0x65 ∷ []) 0x72 _ (add (value (head_of 2) key none none) around) c.word_end-in-116.result refl
    (omega (arith, inside)) c.word_end-in-116.ensures)

pub returns-in_default : goal.returns-in_default
returns-in_default c =
    scalar-number _ _ c.args.c c.number_end.result (λ a e. omega (arith, start-inside c.args.text.now c.args.at a (ap start (sym c.requires.1) ∙ e)))
    (λ z. absurd (omega arith)) (λ z. absurd (omega arith)) (λ z. absurd (omega arith)) (λ z. absurd (omega arith))
    (λ a e. c.number_end.ensures a (ap start (sym c.requires.1) ∙ e))
