-- What stands between two items of a level: white space, a comma, and the end of the text.
use mathlib.Core.Path.{◌≡◌, refl, ◌∙◌}
use mathlib.Core.Bool.{Bool, true, false, cond}
use mathlib.Core.List.{List}
use Prim.Native.Nat.{ℕ, ◌+◌, ◌≤◌, ◌<◌}
use native.Mathlib.Omega.{arith}
use lib.Dec.{eqb, ltb}
use lib.ListN.{length}
use borrow.Author.Tests.{ne_eqb, ltb-true, ltb-false}
use Rattle.value_table.specs.Value.{Values, none}
use Rattle.json_theory.specs.Grammar.{is_space, Container, array, object, closer}
use Rattle.json_theory.specs.Steps.{Stack, base, level, State, gap, after, need, first, next_key, behind_comma, step_after, step}
use Rattle.json_theory.specs.Reader.{depth, limit_fault, is_wrong}
use Rattle.json_theory.specs.Inside.Scanning.{byte_at, RunTo, Leads, Breaks}
use Rattle.json_items.proofs.Leads.{space-leads, loose-gap, loose-after, loose-need, loose-first, loose-next_key, space-behind, reads_on, reads-fault, reads_end, either_way}
use Rattle.text_reader.specs.Inside.Progress.{Between, at_start, opened, behind, message, first_item, element, field, StaysOpen, ItemAt}
use Rattle.std.proofs.Common.{Ok, Err, Some}
use Rattle.std.specs.Bool.{then_some}
use Rattle.text_reader.specs.Inside.Items.{EndsFine, NextIs}

module _ {text : List ℕ} {p q : ℕ} (run : RunTo is_space text p q) where
  -- no white space behind a message
  pub message-tight : (ms : Values) → p ≡ q → Breaks text (after (base ms)) p q
  unfolding step limit_fault step_after
  message-tight ms e name room =
      rw e (either_way text q
      (λ l. reads-fault text q name room (after (base ms)) l (rw run.fails refl))
      (λ l. reads_end text q name room (after (base ms)) l))

  item-gap : (σ : State) (ms : Values) → q < length text → Leads text σ p (gap ms) q → ItemAt text σ p (base ms) q
  item-gap σ ms i l =
      record { state = gap ms; awaits = message; leads = l; from = run.running.from; upto = run.running.upto; byte = run.fails; ready = i }

  ends-gap : (σ : State) (ms : Values) → length text ≤ q → Leads text σ p (gap ms) q → EndsFine text σ p (base ms)
  ends-gap σ ms h l = record { messages = ms; is_base = refl; reads = λ name room. l name room ∙ reads_end text q name room (gap ms) h }

  start-leads : Leads text (gap none) p (gap none) q
  start-leads = space-leads (gap none) (loose-gap none) run.running

  -- the level at depth 0
  pub next-bad : (σ : State) (around : Stack) → Between false σ around → depth around ≡ 0 → p ≡ q → NextIs text σ p around (Err (record { at = q }))
  unfolding depth
  next-bad σ (base ms) behind d e = message-tight ms e
  next-bad σ (level o key done outer) behind d e = absurd (omega arith)

  gap-found : (σ : State) (ms : Values) → Leads text σ p (gap ms) q → NextIs text σ p (base ms) (Ok (then_some (ltb q (length text)) q))
  gap-found σ ms l = go (ltb q (length text)) refl
    where
      go : (t : Bool) → ltb q (length text) ≡ t → NextIs text σ p (base ms) (Ok (then_some t q))
      go true e = item-gap σ ms (ltb-true q (length text) e) l
      go false e = ends-gap σ ms (ltb-false q (length text) e) l

  pub next_start : (σ : State) (around : Stack) → Between true σ around → depth around ≡ 0 → NextIs text σ p around (Ok (then_some (ltb q (length text)) q))
  unfolding depth
  next_start σ around at_start d = gap-found (gap none) none start-leads
  next_start σ (level o key none outer) opened d = absurd (omega arith)

  pub next-message : (σ : State) (around : Stack) → Between false σ around → depth around ≡ 0 → (p ≡ q → ⊥) → NextIs text σ p around (Ok (then_some (ltb q (length text)) q))
  unfolding depth
  next-message σ (base ms) behind d n = gap-found (after (base ms)) ms (space-behind ms (omega (arith, n, run.running.from)) run.running)
  next-message σ (level o key done outer) behind d n = absurd (omega arith)

  -- inside an open value
  pub next-first : (σ : State) (around : Stack) → Between true σ around → (depth around ≡ 0 → ⊥) → StaysOpen around (byte_at text q) → NextIs text σ p around (Ok (Some q))
  unfolding depth
  next-first σ around at_start d c = absurd (d refl)
  next-first σ (level o key none outer) opened d c =
      record {
        state = first o key outer;
        awaits = first_item;
        leads = space-leads (first o key outer) (loose-first o key outer) run.running;
        from = run.running.from;
        upto = run.running.upto;
        byte = run.fails;
        ready = c;
      }

  comma-wrong : (o : Container) (key : ℕ) (done : Values) (outer : Stack) → (byte_at text q ≡ 0x2C → ⊥) → eqb (byte_at text q) (closer o) ≡ false →
      Breaks text (after (level o key done outer)) p q
  unfolding step limit_fault step_after
  comma-wrong o key done outer n c name room =
      space-leads (after (level o key done outer)) (loose-after o key done outer) run.running name room
      ∙ either_way text q
      (λ l. reads-fault text q name room (after (level o key done outer)) l (rw (run.fails, ne_eqb (byte_at text q) 0x2C n, c) refl))
      (λ l. reads_end text q name room (after (level o key done outer)) l)

  pub next-wrong : (σ : State) (around : Stack) → Between false σ around → (depth around ≡ 0 → ⊥) → StaysOpen around (byte_at text q) → (byte_at text q ≡ 0x2C → ⊥) →
      NextIs text σ p around (Err (record { at = q }))
  unfolding depth
  next-wrong σ (base ms) behind d c n = absurd (d refl)
  next-wrong σ (level o key done outer) behind d c n = comma-wrong o key done outer n c

  -- a comma, and white space behind it
  module _ {r : ℕ} (more : RunTo is_space text (q + 1) r) (comma : byte_at text q ≡ 0x2C) where
    over-comma : (o : Container) (key : ℕ) (done : Values) (outer : Stack) →
        Leads text (after (level o key done outer)) p (behind_comma o (level o key done outer)) (q + 1)
    unfolding step limit_fault step_after behind_comma
    over-comma o key done outer name room =
        space-leads (after (level o key done outer)) (loose-after o key done outer) run.running name room
        ∙ reads_on text q name room (after (level o key done outer)) (omega (arith, more.running.from, more.running.upto)) (behind_comma o (level o key done outer))
        (rw comma refl) (rw comma (calm o))
      where
        calm : (o : Container) → ◌≡◌ {A = ℕ} (cond (is_wrong (behind_comma o (level o key done outer))) 12 0) 0
        calm array = refl
        calm object = refl

    pub next-comma : (σ : State) (around : Stack) → Between false σ around → (depth around ≡ 0 → ⊥) → NextIs text σ p around (Ok (Some r))
    unfolding depth behind_comma
    next-comma σ (base ms) behind d = absurd (d refl)
    next-comma σ (level array key done outer) behind d =
        record {
          state = need 0 (level array key done outer);
          awaits = element;
          leads = λ name room. over-comma array key done outer name room ∙ space-leads _ (loose-need 0 (level array key done outer)) more.running name room;
          from = omega (arith, run.running.from, more.running.from);
          upto = more.running.upto;
          byte = more.fails;
          ready = tt;
        }
    next-comma σ (level object key done outer) behind d =
        record {
          state = next_key (level object key done outer);
          awaits = field;
          leads = λ name room. over-comma object key done outer name room ∙ space-leads _ (loose-next_key (level object key done outer)) more.running name room;
          from = omega (arith, run.running.from, more.running.from);
          upto = more.running.upto;
          byte = more.fails;
          ready = tt;
        }
