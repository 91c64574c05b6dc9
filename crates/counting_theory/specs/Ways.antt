-- 'Ways of bringing messages together' of document 01, and condition 3 as one claim over every way.
use Rattle.std.specs.Prelude.{◌≡◌, true, false, cond, ◌&&◌, List, [], ◌∷◌, ◌++◌, ◌⊎◌, ℕ, zero, suc, ◌+◌, ◌*◌, ◌-◌, ◌≤◌, ◌<◌, pred, ltb, length, take}
use Rattle.std.proofs.Math.Option.{Option, none, some}
use Rattle.byte_records.specs.Number.{Bytes, same_bytes, zeros}
use Rattle.value_table.specs.Outcome.{accepted, refused}
use Rattle.value_table.specs.Value.{Values, value, join_values}
use Rattle.value_table.specs.Value as table
use Rattle.value_table.specs.Judged.{judged, messages}
use Rattle.counting_theory.specs.Payload.{Payload}
use Rattle.counting_theory.specs.Trie.{size, lookup}
use Rattle.counting_theory.specs.Label.{Label, Counting, CountingType}
use Rattle.counting_theory.specs.declared.equivalence.Equivalence.{Equivalence}
use Rattle.counting_theory.specs.Raw.{profile_of}
use Rattle.counting_theory.specs.Place.{values_of, values_at, payload_at, count_of}
use Rattle.counting_theory.specs.Lengths.{LengthsOf}
use Rattle.counting_theory.specs.Encoding.{type_size, encode, type_of}
use Rattle.counting_theory.specs.WellFormed.{within_limit, bad_type_length, IsType}
use Rattle.counting_theory.specs.Answers.{equivalence_number, house_default, Left, leaves, inferred, inferred_default, merged}

-- One call of a plan, with the buffers lent to it as they are beforehand: call 2, call 3, or call 5 on the i-th type at hand, as the
-- first, and the j-th of the others, as the second.
pub data Call : Type 0 where
  infer infer_default : (source arena work : List ℕ) → Call
  merge : (i j : ℕ) (arena : List ℕ) → Call

-- the entry i of a list, and the list without it
abbrev pub keep : {A : Type 0} → A → Option (A × List A) → Option (A × List A)
keep x none = none
keep x (some t) = some (t.0, x ∷ t.1)

unfoldable pub pull : {A : Type 0} → ℕ → List A → Option (A × List A)
pull i [] = none
pull zero (x ∷ xs) = some (x, xs)
pull (suc i) (x ∷ xs) = keep x (pull i xs)

-- just the records in use: as many bytes of the arena as the answered records take
abbrev pub in_use : Left → List ℕ
in_use l = take (type_size * l.outcome.count) l.arena

-- The run of a plan on the types at hand, each given as just its records in use: what each call leaves, up to the first refusal.
-- A merge that names no type at hand has no meaning; a way has none.
unfoldable pub go_on : Left → (List ℕ → List Left) → List Left
go_on l rest = elim l.outcome.number [ zero ↦ l ∷ rest (in_use l) | suc n ↦ l ∷ [] ]

unfoldable pub run : Equivalence → List Call → List (List ℕ) → List Left
run e [] hand = []
run e (infer source arena work ∷ calls) hand =
    go_on (leaves (inferred source (equivalence_number e) (length arena) (length work)) arena work) (λ b. run e calls (b ∷ hand))
run e (infer_default source arena work ∷ calls) hand =
    go_on (leaves (inferred_default source (length arena) (length work)) arena work) (λ b. run e calls (b ∷ hand))
run e (merge i j arena ∷ calls) hand =
    elim (pull i hand) [
      | none ↦ []
      | some first ↦ elim (pull j first.1) [
        | none ↦ []
        | some second ↦ go_on (leaves (merged first.0 second.0 (equivalence_number e) (length arena)) arena []) (λ b. run e calls (b ∷ second.1))
      ]
    ]

-- how many types are at hand after the calls, if each merge names two of them
unfoldable pub at_hand : List Call → ℕ → Option ℕ
at_hand [] h = some h
at_hand (infer source arena work ∷ calls) h = at_hand calls (suc h)
at_hand (infer_default source arena work ∷ calls) h = at_hand calls (suc h)
at_hand (merge i j arena ∷ calls) h = cond (ltb i h && ltb (suc j) h) (at_hand calls (pred h)) none

-- each table is accepted by call 1, and each buffer has the fixed length n; call 3 where the house default is the equivalence
abbrev pub Accepted : List ℕ → Type 0
Accepted b = Bytes b × ((m : ℕ) × (judged b ≡ accepted m))

abbrev pub Allowed : Equivalence → ℕ → Call → Type 0
Allowed e n (infer source arena work) = Accepted source × (length arena ≡ n) × (length work ≡ n)
Allowed e n (infer_default source arena work) = (house_default ≡ e) × Accepted source × (length arena ≡ n) × (length work ≡ n)
Allowed e n (merge i j arena) = length arena ≡ n

abbrev pub AllAllowed : Equivalence → ℕ → List Call → Type 0
AllAllowed e n [] = Unit {0}
AllAllowed e n (c ∷ calls) = Allowed e n c × AllAllowed e n calls

-- a way starts with no type at hand and leaves one, so it reads at least one table
pub record Way (e : Equivalence) (n : ℕ) (plan : List Call) : Type 0 where
  pub length-allowed : bad_type_length n ≡ false
  pub calls-allowed : AllAllowed e n plan
  pub leaves-one : at_hand plan 0 ≡ some 1

-- the messages of all its tables, reached or not: as values, and each by the bytes of all its records
unfoldable pub plan_messages : List Call → Values
plan_messages [] = table.none
plan_messages (infer source arena work ∷ calls) = join_values (messages source) (plan_messages calls)
plan_messages (infer_default source arena work ∷ calls) = join_values (messages source) (plan_messages calls)
plan_messages (merge i j arena ∷ calls) = plan_messages calls

unfoldable pub message_bytes : Values → List (List ℕ)
message_bytes table.none = []
message_bytes (value head key content next) = table.encode (value head key content table.none) ∷ message_bytes next

unfoldable pub occurrences : List ℕ → List (List ℕ) → ℕ
occurrences m [] = 0
occurrences m (x ∷ xs) = cond (same_bytes m x) 1 0 + occurrences m xs

-- each message occurs equally often in both
abbrev pub SameMessages : List Call → List Call → Type 0
SameMessages plan other =
    (m : List ℕ) → occurrences m (message_bytes (plan_messages plan)) ≡ occurrences m (message_bytes (plan_messages other))

-- the profile t of all the messages keeps the limit of 10, and an arena of n bytes has room for it
abbrev pub WithinLimits : ℕ → CountingType → Type 0
WithinLimits n t = (within_limit t ≡ true) × (type_size * size t ≤ n)

-- an unrefused way's last call: 0, place 0 and the number of records; the arena holds the profile, then zeros
abbrev pub Final : ℕ → CountingType → Left → Type 0
Final n t l = (l.outcome ≡ accepted (size t)) × (l.arena ≡ encode t ++ zeros (n - length (encode t)))

-- a refused call: 10 only where the profile passes the limit, 11 only where it has too many records; the arena is zero
abbrev pub RefusedCall : ℕ → CountingType → Left → Type 0
RefusedCall n t l =
    (((l.outcome ≡ refused 10 0) × (within_limit t ≡ false)) ⊎ ((l.outcome ≡ refused 11 0) × (n < type_size * size t)))
    × (l.arena ≡ zeros n)

-- every call but the last is accepted, and so is the last, or else it is refused, as the profile of all the messages says
abbrev pub Ends : ℕ → CountingType → List Left → Type 0
Ends n t [] = ⊥
Ends n t (l ∷ []) = (WithinLimits n t × Final n t l) ⊎ ((¬ WithinLimits n t) × RefusedCall n t l)
Ends n t (l ∷ (m ∷ ls)) = (l.outcome.number ≡ 0) × Ends n t (m ∷ ls)

-- the working buffer lent to a call, zero: of the fixed length, and none to a merge
abbrev pub zero_work : ℕ → Call → List ℕ
zero_work n (infer source arena work) = zeros n
zero_work n (infer_default source arena work) = zeros n
zero_work n (merge i j arena) = []

-- each call that ran left its working buffer so
abbrev pub WorkZero : ℕ → List Call → List Left → Type 0
WorkZero n calls [] = Unit {0}
WorkZero n [] (l ∷ ls) = ⊥
WorkZero n (c ∷ calls) (l ∷ ls) = (l.work ≡ zero_work n c) × WorkZero n calls ls

-- there is a last call, and P holds of what it left
abbrev pub AtLast : (Left → Type 0) → List Left → Type 0
AtLast P [] = ⊥
AtLast P (l ∷ []) = P l
AtLast P (l ∷ (m ∷ ls)) = AtLast P (m ∷ ls)

-- the same answer and bytes, or both refused
abbrev pub Alike : Left → Left → Type 0
Alike l m = ((l.outcome ≡ m.outcome) × (l.arena ≡ m.arena)) ⊎ ((1 ≤ l.outcome.number) × (1 ≤ m.outcome.number))

-- The records in use are a well-formed type, which is the profile of the messages. Each count in those bytes is the number of values
-- at that place in all the messages; a field's is the number of records there that have it. Both lengths there are those of the
-- shortest and the longest array at that place.
pub record HoldsProfile (e : Equivalence) (messages : Values) (l : Left) : Type 0 where
  pub is-type : IsType e (in_use l) (type_of e (in_use l))
  pub profile : type_of e (in_use l) ≡ profile_of e messages
  pub payloads : (place : List Label) → lookup Counting (type_of e (in_use l)) place ≡ payload_at e (values_of messages) place
  pub counts : (place : List Label) → count_of (lookup Counting (type_of e (in_use l)) place) ≡ length (values_at e (values_of messages) place)
  pub lengths : (place : List Label) (a : Payload) → lookup Counting (type_of e (in_use l)) place ≡ some a → LengthsOf (values_at e (values_of messages) place) a

-- Condition 3 of one way. Within the limits every call of the plan has run.
pub record Repeatable (e : Equivalence) (n : ℕ) (plan : List Call) : Type 0 where
  pub ends : Ends n (profile_of e (plan_messages plan)) (run e plan [])
  pub alike : (other : List Call) → Way e n other → SameMessages plan other → AtLast (λ l. AtLast (Alike l) (run e other [])) (run e plan [])
  pub unrefused : WithinLimits n (profile_of e (plan_messages plan)) →
      (length (run e plan []) ≡ length plan) × AtLast (HoldsProfile e (plan_messages plan)) (run e plan [])
  pub work-zero : WorkZero n plan (run e plan [])

-- the one claim, over every way
abbrev pub EveryWay : Type 0
EveryWay = (e : Equivalence) (n : ℕ) (plan : List Call) → Way e n plan → Repeatable e n plan
