-- The check accepts the 16-byte records of a run exactly where they hold a type that the run asks for.
use mathlib.Core.Path.{◌≡◌, refl, sym, ◌∙◌, ap}
use mathlib.Core.Bool.{Bool, true, false, cond}
use mathlib.Core.List.{List}
use Rattle.std.proofs.Common.{Option, None, Some}
use Prim.Native.Nat.{ℕ, zero, suc, ◌+◌, ◌-◌, ◌*◌, ◌≤◌}
use native.Mathlib.Omega.{arith}
use lib.Dec.{eqb}
use lib.ListN.{length}
use borrow.Author.Tests.{eqb-true, eqb-false}
use Rattle.byte_records.specs.Number.{Bytes}
use Rattle.byte_records.proofs.Tests.{and_parts}
use Rattle.counting_theory.specs.Trie.{nil, node, size, total, largest_below}
use Rattle.counting_theory.specs.declared.equivalence.Equivalence.{Equivalence}
use Rattle.removal_theory.specs.Label.{CountingType}
use Rattle.removal_theory.specs.Encoding.{type_size, type_span, type_payload}
use Rattle.counting_theory.specs.WellFormed.{max_total}
use Rattle.removal_theory.specs.WellFormed.{counted, fields_of, field_counts}
use Rattle.type_check.specs.Inside.Checker.{Run, addends, fields, total_of, fits, after, content, check_run}
use Rattle.removal_theory.proofs.WellFormed.Nodes.{counted-parts}
use Rattle.removal_theory.proofs.WellFormed.Record.{TypeRecord}
use Rattle.removal_theory.specs.Inside.RecordsHold.{RecordsHold}
use Rattle.removal_theory.proofs.WellFormed.RecordsHold.{holds-nil, holds-first, label_with}
use Rattle.removal_theory.proofs.WellFormed.LaidOut.{inside-label, record-held, holds-record}
use Rattle.type_check.proofs.OnePass.Fits.{is_fields, depth_of, Follows}
use Rattle.removal_check.proofs.OnePass.OwnRecords.{fits-record, record-fits}
use Rattle.type_check.proofs.OnePass.OneRecord.{check-end, check-step}
use Rattle.removal_check.proofs.OnePass.Rest.{sum_of, Totals, Beside, Rest}
use Rattle.removal_check.proofs.OnePass.Node.{rest-node, rest-parts}
use Rattle.removal_check.proofs.OnePass.Content.{content-starts, after-goes-on, agrees-some, some-agrees, sum-nil, total-follows, sum-node}
use Rattle.removal_check.specs.Inside.Reading.{counts_alone}

cond-some : (t : Bool) (o : Option ℕ) (u : ℕ) → cond t o None ≡ Some u → (t ≡ true) × (o ≡ Some u)
cond-some true o u h = (refl, h)
cond-some false o u h = (cc, cc)

module _ (e : Equivalence) (b : List ℕ) where
  abbrev HoldsRun : ℕ → ℕ → Run → CountingType → Type 0
  HoldsRun p end r f = RecordsHold e b p end (is_fields r) (depth_of r) f

  pub check-complete : (p end : ℕ) (r : Run) (f : CountingType) → HoldsRun p end r f → Rest e b p r f → check_run counts_alone e b p end r ≡ Some (sum_of r f)
  unfolding size
  check-complete p end r nil h x =
      let z : p ≡ end = omega (arith, h.ends) in
      rw z (check-end counts_alone e b end r ∙ ap Some (sum-nil r))
  check-complete p end r (node l a c s) h x =
      let y = holds-first e b p end (is_fields r) (depth_of r) l a c s h in
      let q = rest-parts e b p end l a c s r h x in
      let m = content-starts b p r in
      let n = after-goes-on b p r in
      let right = record-held e b p end (is_fields r) (depth_of r) l a c s h (counted-parts l a c s x.ruled.counts).0 x.ruled.totals.0 in
      let inner : HoldsRun (p + 1) (p + type_span b p) (content counts_alone b p r) c =
      rw (m.fields-is, m.depth_is, inside-label b p (is_fields r) l y.is-node.kind-is) y.in-children in
      let others : HoldsRun (p + type_span b p) end (after counts_alone b p r) s = rw (n.0, n.1) y.in-next in
      check-step counts_alone e b p end r (omega (arith, h.ends))
      ∙ rw (
        record-fits e b p end r right q.follows,
        check-complete (p + 1) (p + type_span b p) (content counts_alone b p r) c inner q.inside,
        some-agrees b p r (sum_of (content counts_alone b p r) c) q.totals,
        check-complete (p + type_span b p) end (after counts_alone b p r) s others q.behind,
      )
      (ap Some (sum-node e b p end l a c s r h))

  -- records p to end are a type, accepted with the total t
  pub record Accepted (p end : ℕ) (r : Run) (t : ℕ) : Type 0 where
    pub type : CountingType
    pub holds : HoldsRun p end r type
    pub rest : Rest e b p r type
    pub sum : t ≡ sum_of r type

  beside-nil : (p : ℕ) (r : Run) → total_of r ≤ max_total → Beside e b p r nil
  unfolding total fields_of
  beside-nil p (addends depth last sum) h = (λ z. tt, omega arith)
  beside-nil p (fields depth of_record last_key) h = (tt, refl)

  accepted-nil : (p end : ℕ) (r : Run) (t : ℕ) → total_of r ≤ max_total → p ≡ end → check_run counts_alone e b p end r ≡ Some t → Accepted p end r t
  unfolding largest_below counted field_counts
  accepted-nil p end r t m z h =
      let i : Some (total_of r) ≡ Some t = sym (check-end counts_alone e b end r) ∙ (rw z at h) in
      let j : t ≡ total_of r = cc in
      record {
        type = nil;
        holds = holds-nil e b p end (is_fields r) (depth_of r) z;
        rest = record { ruled = record { counts = refl; below = omega arith; sorted = tt; totals = tt; fields = refl }; beside = beside-nil p r m };
        sum = j ∙ sum-nil r;
      }

  module _ (bytes : Bytes b) where
    accepted-node : (p end : ℕ) (r : Run) (t u : ℕ) → type_size * end ≤ length b → TypeRecord b p end (is_fields r) (depth_of r) → Follows counts_alone e b p r → Totals b p r u →
        Accepted (p + 1) (p + type_span b p) (content counts_alone b p r) u → Accepted (p + type_span b p) end (after counts_alone b p r) t → Accepted p end r t
    accepted-node p end r t u room right follows totals x y =
        let c = x.type in
        let s = y.type in
        let l = label_with e b p c in
        let a = type_payload b p in
        let m = content-starts b p r in
        let n = after-goes-on b p r in
        let h : HoldsRun p end r (node l a c s) =
        holds-record e b p end (is_fields r) (depth_of r) c s bytes room right (rw (m.fields-is, m.depth_is) at x.holds) (rw (n.0, n.1) at y.holds) in
        record {
          type = node l a c s;
          holds = h;
          rest = rest-node e b p end l a c s r h right (record { follows = follows; totals = rw x.sum at totals; inside = x.rest; behind = y.rest });
          sum = y.sum ∙ sum-node e b p end l a c s r h;
        }

    pub check_sound : (k p end : ℕ) (r : Run) (t : ℕ) → type_size * end ≤ length b → p ≤ end → end - p ≤ k → total_of r ≤ max_total →
        check_run counts_alone e b p end r ≡ Some t → Accepted p end r t
    check_sound zero p end r t room h n m z = accepted-nil p end r t m (omega arith) z
    check_sound (suc k) p end r t room h n m z =
        go (eqb p end) refl
        (λ x y u. check_sound k (p + 1) (p + type_span b p) (content counts_alone b p r) u (omega arith) (omega arith) (omega arith) (omega (arith, (content-starts b p r).total-is)))
        (λ x y. check_sound k (p + type_span b p) end (after counts_alone b p r) t room (omega arith) (omega arith))
      where
        go : (q : Bool) → eqb p end ≡ q →
            (1 ≤ type_span b p → p + type_span b p ≤ end → (u : ℕ) → check_run counts_alone e b (p + 1) (p + type_span b p) (content counts_alone b p r) ≡ Some u →
            Accepted (p + 1) (p + type_span b p) (content counts_alone b p r) u) →
            (1 ≤ type_span b p → p + type_span b p ≤ end → total_of (after counts_alone b p r) ≤ max_total → check_run counts_alone e b (p + type_span b p) end (after counts_alone b p r) ≡ Some t →
            Accepted (p + type_span b p) end (after counts_alone b p r) t) →
            Accepted p end r t
        go true i hc hs = accepted-nil p end r t m (eqb-true p end i) z
        go false i hc hs =
            let w = cond-some _ _ t (sym (check-step counts_alone e b p end r (omega (arith, eqb-false p end i))) ∙ z) in
            let v = and_parts (fits counts_alone e b p end r) _ w.0 in
            let x = fits-record e b p end r v.0 in
            let y = agrees-some b p r _ v.1 in
            accepted-node p end r t y.0 room x.0 x.1 y.2 (hc x.0.span-low x.0.span_fits y.0 y.1)
            (hs x.0.span-low x.0.span_fits (total-follows e b p r x.1) w.1)
