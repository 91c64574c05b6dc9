-- Call 1 accepts exactly the encodings of valid messages, a table has no other messages, and a place is one of its records.
use mathlib.Core.Path.{◌≡◌, refl, sym, ap, ◌∙◌}
use mathlib.Core.Logic.Iff
use mathlib.Core.Logic.{◌↔◌, ◌⊎◌, inl, inr}
use mathlib.Core.Bool.{Bool, true, false, cond, true≢false, false≢true}
use mathlib.Core.List.{List, [], append-nil}
use Prim.Native.Nat.{ℕ, zero, suc, ◌+◌, ◌*◌, ◌%◌, ◌≤◌, ◌<◌}
use native.Mathlib.Omega.{arith}
use lib.ListN.{length, drop, drop_of_length-le}
use Rattle.value_table.specs.Value.{max_length, max_key, record_size, records, Values, encode, size, count}
use Rattle.value_table.specs.Outcome.{Outcome, accepted, refused}
use Rattle.value_table.specs.Judged.{Open, bad_length, fault_in, close, enter, messages_in, decide, walk, judged_up_to, judged, messages}
use Rattle.value_table.specs.Acceptance.{Table, Accepts, Unique, PlaceInTable, PlaceUpTo}
use Rattle.value_table.proofs.TableLayout.{length-fits, length-encode}
use Rattle.value_table.proofs.Run.{Run}
use Rattle.value_table.proofs.Decode.{decode-run}
use Rattle.value_table.proofs.Rest.{Rest}
use Rattle.value_table.proofs.Walked.{walked}

no-rest : (b : List ℕ) → length b % record_size ≡ 0 → drop (record_size * records b) b ≡ []
no-rest b h = drop_of_length-le b {i = record_size * records b} (omega arith)

module _ (b : List ℕ) (ms : Values) (n : ℕ) where
  table-length : Table b ms n → length b ≡ record_size * size ms
  table-length t = ap length t.bytes ∙ length-encode ms

  table-run : Table b ms n → Run b 0 (records b) false [] 1 ms
  table-run t =
      let e = table-length t in
      record {
        bytes = rw (no-rest b (omega arith)) (t.bytes ∙ sym (append-nil (encode ms)));
        ends = omega arith;
        valid = t.valid;
        distinct = λ h. absurd (false≢true h);
        few = λ h. absurd (false≢true h);
      }

  run-table : length b % record_size ≡ 0 → length b ≤ max_length → Run b 0 (records b) false [] 1 ms → n ≡ count ms → Table b ms n
  run-table even short r e =
      record { bytes = r.bytes ∙ rw (no-rest b even) (append-nil (encode ms)); valid = r.valid; room = omega (arith, r.ends); counted = e }

read_back : (b : List ℕ) (ms : Values) → length b ≤ max_length → Run b 0 (records b) false [] 1 ms → messages b ≡ ms
unfolding messages
read_back b ms short r = decode-run b short (records b) 0 (records b) _ _ _ ms (omega (arith, r.ends)) r

pub unique : Unique
unique b ms n t = sym (read_back b ms (omega (arith, t.room, table-length b ms n t)) (table-run b ms n t))

pub accepts : Accepts
unfolding judged judged_up_to
accepts b n bytes = go (bad_length (length b)) refl
  where
    rest-table : length b % record_size ≡ 0 → length b ≤ max_length → Rest b 0 [] 0 n ↔ Table b (messages b) n
    rest-table even short = (
      λ r. rw (read_back b r.0 short r.1) (run-table b r.0 n even short r.1 (omega (arith, r.2))),
      λ t. (messages b, table-run b (messages b) n t, omega (arith, t.counted)),
    )

    go : (t : Bool) → bad_length (length b) ≡ t → (cond t (refused 1 0) (walk max_key b (records b) 0 [] 0) ≡ accepted n) ↔ Table b (messages b) n
    go true e = (
      λ q. absurd (omega (arith, ap (λ x. x.number) q)),
      λ t. absurd (true≢false (sym e ∙ (length-fits (length b)).1 (omega (arith, t.room, table-length b (messages b) n t)))),
    )
    go false e =
        let h = (length-fits (length b)).0 e in
        Iff.trans (walked b bytes h.1 (records b) 0 0 n [] (omega arith) (omega arith)) (rest-table h.0 h.1)

-- a place of records 0 to end
abbrev Within : ℕ → Outcome → Type 0
Within end o = (o.number ≡ 0 → o.place ≡ 0) × ((o.place ≡ 0) ⊎ (o.place < end))

within-decide : (f i end : ℕ) (later : Outcome) → i < end → Within end later → Within end (decide f i later)
within-decide zero i end later h r = r
within-decide (suc f) i end later h r = (λ e. absurd (omega arith), inr h)

within-walk : (largest : ℕ) (b : List ℕ) (k i end : ℕ) (around : List Open) (n : ℕ) → i + k ≤ end → Within end (walk largest b k i around n)
unfolding walk
within-walk largest b zero i end around n h = (λ e. refl, inl refl)
within-walk largest b (suc k) i end around n h =
    within-decide (fault_in largest b i (close i around)) i end _ (omega arith) (within-walk largest b k (i + 1) end (enter b i (close i around)) (n + messages_in (close i around)) (omega arith))

pub placed-up-to : PlaceUpTo
unfolding judged_up_to
placed-up-to largest b = go (bad_length (length b))
  where
    go : (t : Bool) → Within (records b) (cond t (refused 1 0) (walk largest b (records b) 0 [] 0))
    go true = (λ e. refl, inl refl)
    go false = within-walk largest b (records b) 0 (records b) [] 0 (omega arith)

pub placed : PlaceInTable
unfolding judged
placed b = placed-up-to max_key b
