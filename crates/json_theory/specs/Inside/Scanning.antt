-- What a scan finds in a text, from byte p to byte q: a run of bytes, of the parts of a token, or of the states of a reading. Behind the
-- text stands 0, with which no token goes on.
use Rattle.std.specs.Prelude.{◌≡◌, Bool, true, false, List, ℕ, ◌+◌, ◌-◌, ◌≤◌, ◌<◌, length, get_or, take, drop}
use Rattle.value_table.specs.Value.{max_length}
use Rattle.json_theory.specs.Parts.{Turn, go, stuck}
use Rattle.json_theory.specs.Steps.{State}
use Rattle.json_theory.specs.Reader.{fault_at, read_from}

-- the byte at p, or 0 behind the text
abbrev pub byte_at : List ℕ → ℕ → ℕ
byte_at text p = get_or text p 0

-- a place in a text that is not too long
abbrev pub PlaceIn : List ℕ → ℕ → Type 0
PlaceIn text p = (p ≤ length text) × (length text ≤ max_length)

-- the bytes from p to q pass the test; and the byte at q does not
pub record Running (test : ℕ → Bool) (text : List ℕ) (p q : ℕ) : Type 0 where
  pub from : p ≤ q
  pub upto : q ≤ length text
  pub passes : (i : ℕ) → p ≤ i → i < q → test (byte_at text i) ≡ true

pub record RunTo (test : ℕ → Bool) (text : List ℕ) (p q : ℕ) : Type 0 where
  pub running : Running test text p q
  pub fails : test (byte_at text q) ≡ false

-- the bytes from p to q
abbrev pub between : List ℕ → ℕ → ℕ → List ℕ
between text p q = take (q - p) (drop p text)

-- from part a at byte p the bytes lead to part b at byte q
pub data Goes {P : Type 0} (next : P → ℕ → Turn P) (text : List ℕ) : P → ℕ → P → ℕ → Type 0 where
  here : {a : P} {p : ℕ} → Goes next text a p a p
  on : {a b d : P} {p q : ℕ} → next a (byte_at text p) ≡ go b → Goes next text b (p + 1) d q → Goes next text a p d q

-- from part a at byte p the bytes lead to byte q, with which the token cannot go on
pub record Stops {P : Type 0} (next : P → ℕ → Turn P) (text : List ℕ) (a : P) (p q : ℕ) : Type 0 where
  pub part : P
  pub goes : Goes next text a p part q
  pub stays : next part (byte_at text q) ≡ stuck

-- reading on from state σ at byte p is reading on from state τ at byte q; or it ends in fault 12 at byte q
abbrev pub Leads : List ℕ → State → ℕ → State → ℕ → Type 0
Leads text σ p τ q = (name : List ℕ → ℕ) (room : ℕ) → read_from name room σ p (drop p text) ≡ read_from name room τ q (drop q text)

abbrev pub Breaks : List ℕ → State → ℕ → ℕ → Type 0
Breaks text σ p q = (name : List ℕ → ℕ) (room : ℕ) → read_from name room σ p (drop p text) ≡ fault_at 12 q
