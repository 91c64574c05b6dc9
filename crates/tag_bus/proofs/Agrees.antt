-- The tag-bus inference agrees with call 2 under label, and its entries have exactly the keys of their addends.
use mathlib.Core.Path.{◌≡◌, refl}
use mathlib.Core.Bool.{Bool, true, false, cond, ◌||◌}
use mathlib.Core.List.{List}
use Prim.Native.Nat.{ℕ, zero, suc, ◌*◌, ◌≤◌}
use native.Mathlib.Omega.{arith}
use lib.Dec.{ltb}
use lib.ListN.{length}
use borrow.Author.Tests.{le-ltb, ltb-false}
use Rattle.byte_records.specs.Number.{Bytes}
use Rattle.byte_records.proofs.Tests.{or_parts}
use Rattle.value_table.specs.Value.{KeysUpTo}
use Rattle.value_table.specs.Outcome.{Outcome, accepted}
use Rattle.value_table.specs.Judged.{judged_up_to, judged, messages}
use Rattle.value_table.specs.Acceptance.{Table}
use Rattle.value_table.proofs.Acceptance.{accepts, placed-up-to}
use Rattle.value_table.proofs.LargestKey.{judges-alike, accepts-up-to}
use Rattle.counting_theory.specs.Trie.{size}
use Rattle.counting_theory.specs.Label.{CountingType}
use Rattle.counting_theory.specs.declared.equivalence.Equivalence.TheVariants.{Label as by_label}
use Rattle.counting_theory.specs.Raw.{profile_of}
use Rattle.counting_theory.specs.Encoding.{type_size, encode}
use Rattle.counting_theory.specs.Answers.{turned_down, stored, bad_buffers, inferred_from, inferred}
use Rattle.key_word.specs.Word.{word_bits}
use Rattle.tag_bus.specs.Entries.{entry_size, entries, entry_count}
use Rattle.tag_bus.specs.TagBus.{TagBus, no_tag_bus, bad_entries_length, stored_with_entries, tag_bus_from, inferred_tag_bus, Accepted, LikeGeneral, GeneralAlike, EntriesExact}
use Rattle.tag_bus.proofs.Worded.{worded-profile}
use Rattle.tag_bus.proofs.Exact.{worded-exact}
use Rattle.tag_bus.proofs.TableKeys.{table-keys}

module _ (table : List ℕ) (arena room : ℕ) where
  abbrev type : CountingType
  type = profile_of by_label (messages table)

  -- with room for the entries
  stored-alike : entry_size * entry_count type ≤ room → (stored_with_entries arena room type).written ≡ stored arena type
  stored-alike h = rw (le-ltb room (entry_size * entry_count type) h) (go (ltb arena (type_size * size type)))
    where
      both : TagBus
      both = record { written = record { outcome = accepted (size type); bytes = encode type }; entries = entries type }

      go : (t : Bool) → (cond (t || false) (no_tag_bus 11 0) both).written ≡ cond t (turned_down 11 0) both.written
      go true = refl
      go false = refl

  from-alike : (o : Outcome) → entry_size * entry_count type ≤ room → (tag_bus_from o table arena room).written ≡ inferred_from o by_label table arena
  from-alike o h = go o.number
    where
      with : ℕ → Outcome
      with k = record { number = k; place = o.place; count = o.count }

      go : (k : ℕ) → (tag_bus_from (with k) table arena room).written ≡ inferred_from (with k) by_label table arena
      go zero = stored-alike h
      go (suc j) = refl

pub general-alike : GeneralAlike
unfolding inferred_tag_bus inferred
general-alike table arena work room bytes keys entries h = rw entries (go (bad_buffers (length table) arena work))
  where
    go : (t : Bool) → (cond (t || false) (no_tag_bus 1 0) (tag_bus_from (judged_up_to word_bits table) table arena room)).written
        ≡ cond t (turned_down 1 0) (inferred_from (judged table) by_label table arena)
    go true = refl
    go false = rw (judges-alike word_bits table bytes keys) (from-alike table arena room (judged table) h)

abbrev number : TagBus → ℕ
number t = t.written.outcome.number

passed : (t : Bool) (k : ℕ) (x : TagBus) → number (cond t (no_tag_bus (suc k) 0) x) ≡ 0 → (t ≡ false) × (number x ≡ 0)
passed true k x h = absurd (omega arith)
passed false k x h = (refl, h)

-- what acceptance tells
record AcceptedParts (table : List ℕ) (room : ℕ) : Type 0 where
  entries-length : bad_entries_length room ≡ false
  messages-in : Table table (messages table) (judged_up_to word_bits table).count
  keys : KeysUpTo word_bits table
  entries-room : entry_size * entry_count (profile_of by_label (messages table)) ≤ room

module _ (table : List ℕ) (arena work room : ℕ) (bytes : Bytes table) where
  from-passed : (o : Outcome) → number (tag_bus_from o table arena room) ≡ 0 → (o.number ≡ 0) × (number (stored_with_entries arena room (type table arena room)) ≡ 0)
  from-passed o = go o.number
    where
      with : ℕ → Outcome
      with k = record { number = k; place = o.place; count = o.count }

      go : (k : ℕ) → number (tag_bus_from (with k) table arena room) ≡ 0 → (k ≡ 0) × (number (stored_with_entries arena room (type table arena room)) ≡ 0)
      go zero h = (refl, h)
      go (suc j) h = absurd (omega arith)

  judged-passed : (judged_up_to word_bits table).number ≡ 0 → judged_up_to word_bits table ≡ accepted (judged_up_to word_bits table).count
  judged-passed h = let p = (placed-up-to word_bits table).0 h in λ i. record { number = h i; place = p i; count = (judged_up_to word_bits table).count }

  accepted-parts : Accepted table arena work room → AcceptedParts table room
  unfolding inferred_tag_bus
  accepted-parts h =
      let first = passed (bad_buffers (length table) arena work || bad_entries_length room) 0 _ h in
      let from = from-passed (judged_up_to word_bits table) first.1 in
      let o = (accepts-up-to word_bits table _ bytes).0 (judged-passed from.0) in
      let last = passed (ltb arena (type_size * size (type table arena room)) || ltb room (entry_size * entry_count (type table arena room))) 10 _ from.1 in
      record {
        entries-length = (or_parts (bad_buffers (length table) arena work) _ first.0).1;
        messages-in = (accepts table _ bytes).0 o.0;
        keys = o.1;
        entries-room = ltb-false room _ (or_parts (ltb arena (type_size * size (type table arena room))) _ last.0).1;
      }

pub like-general : LikeGeneral
like-general table arena work room bytes h =
    let p = accepted-parts table arena work room bytes h in
    general-alike table arena work room bytes p.keys p.entries-length p.entries-room

pub entries-exact : EntriesExact
entries-exact table arena work room bytes h =
    let p = accepted-parts table arena work room bytes h in
    worded-exact _ (worded-profile (messages table) p.messages-in.valid (table-keys word_bits table (messages table) _ p.messages-in p.keys))
