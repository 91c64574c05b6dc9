-- One record of a run: what stands inside it and behind it.
use mathlib.Core.Path.{◌≡◌, refl, sym, ap, ◌∙◌}
use mathlib.Core.Bool.{Bool, true, false}
use mathlib.Core.List.{List, [], ◌++◌}
use Prim.Native.Nat.{ℕ, ◌+◌, ◌-◌, ◌*◌, ◌≤◌, ◌<◌}
use native.Mathlib.Omega.{arith}
use lib.Dec.{eqb}
use lib.ListN.{length, take, drop}
use lib.Seq.{take_at}
use borrow.Author.Tests.{ne_eqb}
use Rattle.value_table.specs.Value.{record_kind}
use Rattle.counting_theory.specs.Payload.{Payload}
use Rattle.counting_theory.specs.Trie.{nil, node, size}
use Rattle.counting_theory.specs.Label.{Label, CountingType}
use Rattle.counting_theory.specs.declared.equivalence.Equivalence.{Equivalence}
use Rattle.counting_theory.specs.Encoding.{type_size, type_kind, type_span, encode}
use Rattle.counting_theory.specs.WellFormed.{depth_inside}
use Rattle.counting_theory.proofs.Label.{kind-eq}
use Rattle.counting_theory.proofs.Tagged.Parts.{holds_fields, Shape, tagged-parts}
use Rattle.counting_theory.proofs.Encoding.Header.{length-encode}
use Rattle.counting_theory.specs.Inside.RecordsHold.{RecordsHold}
use Rattle.counting_theory.proofs.WellFormed.RecordsHold.{holds-first}
use Rattle.type_arena.specs.Inside.Addend.{Coded}
use Rattle.type_arena.proofs.FirstAddend.{coded-type}
use Rattle.report.specs.Report.{whole_inside, lines_of}
use Rattle.report.specs.Inside.Walk.{bytes_in, type_in, line_at, depth_in, whole_in, Shares, Inside, PrintedRun, Printable}

-- the bytes of the records that hold a type are that type's
pub coded_in : {e : Equivalence} {b : List ℕ} {i end : ℕ} {field : Bool} {depth : ℕ} {f : CountingType} → RecordsHold e b i end field depth f → Coded e field (bytes_in b i end)
coded_in {b = b} {i} {end} {f = f} h =
    let n : length (encode f) ≡ type_size * end - type_size * i = omega (arith, length-encode f, h.ends) in
    record {
      trie = f;
      bytes = ap (take (type_size * end - type_size * i)) h.bytes ∙ take_at (encode f) (drop (type_size * end) b) (type_size * end - type_size * i) n;
      tagged = h.tagged;
      fitting = h.fitting;
    }

-- the type that records hold is the one read from them
pub typed : {e : Equivalence} {b : List ℕ} {i end : ℕ} {field : Bool} {depth : ℕ} {f : CountingType} → RecordsHold e b i end field depth f → f ≡ type_in e b i end
unfolding coded_in
typed h = sym (coded-type (coded_in h))

pub fields-inside : (e : Equivalence) (field : Bool) (l : Label) (c : CountingType) → Shape e field l c → holds_fields field l ≡ eqb l.kind record_kind
fields-inside e true l c h = rw (kind-eq h) refl
fields-inside e false l c h = refl

-- the record at p, the first of a run
pub record First (e : Equivalence) (b : List ℕ) (p end depth whole : ℕ) : Type 0 where
  pub printable : Printable b p whole
  pub span-low : 1 ≤ type_span b p
  pub span_fits : p + type_span b p ≤ end
  pub lines : (width : ℕ) → lines_of width depth whole (type_in e b p end)
      ≡ line_at b p depth whole width
      ++ (lines_of width (depth_in b p depth) (whole_in e b p) (type_in e b (p + 1) (p + type_span b p)) ++ lines_of width depth whole (type_in e b (p + type_span b p) end))
  pub within : Inside e b p (p + type_span b p)
  pub inside : PrintedRun e b (p + 1) (p + type_span b p) (depth_in b p depth) (whole_in e b p)
  pub next : PrintedRun e b (p + type_span b p) end depth whole

depth_below : (t : Bool) (depth : ℕ) → depth_inside t depth ≤ depth + 1
depth_below true depth = omega arith
depth_below false depth = omega arith

module _ {e : Equivalence} {b : List ℕ} {p end depth whole : ℕ} (r : PrintedRun e b p end depth whole) where
  pub run-done : (width : ℕ) → end ≤ p → lines_of width depth whole (type_in e b p end) ≡ []
  unfolding size lines_of
  run-done width h = go (type_in e b p end) r.holds
    where
      go : (f : CountingType) → RecordsHold e b p end r.field depth f → lines_of width depth whole f ≡ []
      go nil i = refl
      go (node l a c s) i = absurd (omega (arith, i.ends))

  first-node : (l : Label) (a : Payload) (c s : CountingType) → type_in e b p end ≡ node l a c s → RecordsHold e b p end r.field depth (node l a c s) →
      Shares whole (node l a c s) → First e b p end depth whole
  unfolding lines_of
  first-node l a c s q h sh =
      let x = holds-first e b p end r.field depth l a c s h in
      let n = x.is-node in
      let z = fields-inside e r.field l c (tagged-parts e r.field l a c s h.tagged).0 in
      let ec = typed x.in-children in
      let es = typed x.in-next in
      let fits : p + type_span b p ≤ end = omega (arith, x.in-next.ends) in
      let low : 1 ≤ type_span b p = omega (arith, n.span-is) in
      let inner : RecordsHold e b (p + 1) (p + type_span b p) (holds_fields r.field l) (depth_inside (holds_fields r.field l) depth) (type_in e b (p + 1) (p + type_span b p)) =
      rw (← ec) x.in-children in
      let d : depth_in b p depth ≡ depth_inside (holds_fields r.field l) depth = rw (n.kind-is, z) refl in
      let w : whole_in e b p ≡ whole_inside l a.count c = rw (n.kind-is, n.count-is, ← ec) refl in
      let plain : (type_kind b p ≡ record_kind → ⊥) → eqb l.kind record_kind ≡ false = λ k. ne_eqb l.kind record_kind (λ j. k (n.kind-is ∙ j)) in
      record {
        printable = record { here = omega (arith, r.within); count_low = rw n.count-is sh.0; count-high = rw n.count-is sh.1; limit = r.limit };
        span-low = low;
        span_fits = fits;
        lines = λ width. rw (q, n.kind-is, n.key-is, n.count-is, ← ec, ← es) refl;
        within =
            record {
              ends = refl;
              some = omega arith;
              within = omega (arith, r.within);
              coded = λ k. rw (z ∙ plain k) at (coded_in inner);
              limit = λ k. rw (← ec) (rw (plain k) at sh.2);
            };
        inside =
            record {
              field = holds_fields r.field l;
              holds = rw d inner;
              shares = rw (w, ← ec) sh.3;
              limit = rw w sh.2;
              deep = omega (arith, depth_below (eqb (type_kind b p) record_kind) depth, r.deep);
              within = omega (arith, r.within);
              short = r.short;
            };
        next =
            record {
              field = r.field;
              holds = rw (← es) x.in-next;
              shares = rw (← es) sh.4;
              limit = r.limit;
              deep = omega (arith, r.deep);
              within = r.within;
              short = r.short;
            };
      }

  pub run-first : p < end → First e b p end depth whole
  unfolding size
  run-first h = go (type_in e b p end) refl r.holds r.shares
    where
      go : (f : CountingType) → type_in e b p end ≡ f → RecordsHold e b p end r.field depth f → Shares whole f → First e b p end depth whole
      go nil q i sh = absurd (omega (arith, i.ends))
      go (node l a c s) q i sh = first-node l a c s q i sh
