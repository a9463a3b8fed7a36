-- What a walk over quantiles leaves.
use Rattle.std.specs.Prelude.{◌≡◌, ◌⊎◌, ℕ, ◌<◌, Bool, true, cond, List, [], ◌∷◌, filter, length, slice_index, slice_set, if◌then◌else◌, pos}
use Rattle.std.specs.Ordering.{is_lt}
use Rattle.std.specs.declared.cmp.Ordering.{Ordering}
use Rattle.std.specs.declared.cmp.Ordering.TheVariants.{Less, Equal, Greater}
use Rattle.std.proofs.Common.{refl, sym, ap, subst, ◌∙◌, inl, inr}
use Rattle.std.proofs.lemmas.List.{length-set}
use Rattle.rational_laws.specs.Fraction.{Fraction, rational}
use Rattle.rational_laws.specs.Rational.{ℚ, whole, ◌≤ℚ◌}
use Rattle.rational_laws.proofs.RationalLaws.{≤ℚ_refl, ≤ℚ_trans}
use Rattle.rational_laws.specs.Order.{cmp_ℚ}
use Rattle.rational_laws.proofs.OrderLaws.{cmp_ℚ-Less, cmp_ℚ-Equal, cmp_ℚ-Greater, le_from_not}
use Rattle.rational_laws.specs.Exchange.{exchanged}
use Rattle.loss_model.specs.declared.problem.Problem.{Problem}
use Rattle.loss_model.specs.declared.process.Exchange.{Exchange}
use Rattle.loss_model.specs.declared.process.Segment.{Segment}
use Rattle.loss_model.specs.Sample.{Sample}
use Rattle.loss_model.specs.Dual.{IsDual}
use Rattle.loss_model.specs.Problem.{number_at, sample}
use Rattle.loss_model.specs.Segment.{Covers, dual_at, segments_of}
use Rattle.loss_model.specs.Vertex.{dual_value}
use Rattle.pivot_model.specs.declared.direction.Direction.{Direction}
use Rattle.pivot_model.specs.Basis.{IsBasis}
use Rattle.pivot_model.specs.Duals.{HasCosts, ◌<ℚ◌}
use Rattle.pivot_model.specs.Steps.{HasNoNegativeSlope}
use Rattle.pivot_model.specs.Results.{IsVertexAt, AreBasicDuals}
use Rattle.pivot_model.specs.Trails.{EndsAt, basis_after, IsOptimalBasis}
use Rattle.pivot_model.proofs.Solved.{dual_value_is, vertex_is_optimal}
use Rattle.pivot_model.proofs.Unique.{same_inverse}
use Rattle.walk_model.specs.Families.{Family, over_quantiles, dual_in, IsOptimalIn}
use Rattle.walk_model.specs.Walks.{AreExchanged, Crosses, HasNoBreak, IsNextBreak, IsWalkingStep}
use Rattle.walk_model.specs.WalkTrails.{AreWalkingSteps, value_after, IsWalkEnd, is_below}
use Rattle.walk_model.specs.Stays.{Stay, stays, is_reported, IsSegmentOf, AreSegmentsOf, IsOptimalSegment, AreOptimalSegments}
use Rattle.walk_model.proofs.Slopes.{slope_is, dual_is, optimal_to, none_before, costs_between}
use Rattle.walk_model.proofs.Breaks.{next_break}
use Rattle.walk_model.proofs.Movers.{walk_never_sticks}
use Rattle.walk_model.proofs.Stays.{duals_stay, optimal_stays}
use Rattle.walk_model.proofs.NextBasis.{next_basis, next_ends}
use Rattle.walk_model.proofs.Trails.{list_exchanged, below_from}
use Rattle.walk_model.proofs.Covered.{one_covers, more_covers}

-- where no step is left, no breakpoint is left
pub end_reached : (p : Sample) (at : ℕ → ℕ) (a : ℕ → ℕ → ℚ) (from hi : ℚ) → IsBasis p at a → HasCosts p hi
    → ((t : ℚ) (j r : ℕ) → ¬ IsWalkingStep (over_quantiles p) at a (is_below hi) from t j r)
    → HasNoBreak (over_quantiles p) at a from hi
end_reached p at a from hi basis costs none u k e lk lower upper c = by (next_break (over_quantiles p) at a from)
  where
    by : ((t : ℚ) × (j : ℕ) × (d : Direction) × IsNextBreak (over_quantiles p) at a from t j d) ⊎ ((t : ℚ) (j : ℕ) (d : Direction) → j < p.columns → from ≤ℚ t → ¬ Crosses (over_quantiles p) at a t j d) → ⊥
    by (inr nothing) = nothing u k e lk lower c
    by (inl (t, j, d, next)) =
        let before : t <ℚ hi = λ h. upper (≤ℚ_trans hi t u h (next.least u k e lk lower c)) in
        let step : (r : ℕ) × IsWalkingStep (over_quantiles p) at a (is_below hi) from t j r = walk_never_sticks p at a from t hi j d basis costs next before in
        none t j step.0 step.1

module _ {F : Type 0} (value : F → Fraction) (p : Problem F) where
  abbrev q : Sample
  q = sample value p

  abbrev f : Family
  f = over_quantiles q

  abbrev when : Fraction → ℚ
  when x = rational x

  abbrev rows : ℕ
  rows = length p.rows

  solved_from : (at : ℕ → ℕ) (a : ℕ → ℕ → ℚ) (t : ℚ) → IsOptimalIn f at a t → HasNoNegativeSlope q at a t
  solved_from at a t stop j d lj = subst (λ z. whole (pos 0) ≤ℚ z) (slope_is q at a t j d) (stop j d lj)

  pub optimal_from_solved : (at : ℕ → ℕ) (a : ℕ → ℕ → ℚ) (t : ℚ) → HasNoNegativeSlope q at a t → IsOptimalIn f at a t
  optimal_from_solved at a t stop j d lj = subst (λ z. whole (pos 0) ≤ℚ z) (sym (slope_is q at a t j d)) (stop j d lj)

  -- ---- a segment

  module _ (basis : List ℕ) (a : ℕ → ℕ → ℚ) (size : length basis ≡ p.columns) (isb : IsBasis q (slice_index basis) a) (ends : EndsAt q.columns a) (from to : ℚ) (s : Segment)
      (seg : IsSegmentOf value p (record { basis = basis; lo = from; hi = to }) s) where
    there : IsVertexAt value p basis a s.vertex × AreBasicDuals value p from basis a s.vertex s.basic_lo × AreBasicDuals value p to basis a s.vertex s.basic_hi
    there =
        subst (λ a. IsVertexAt value p basis a s.vertex × AreBasicDuals value p from basis a s.vertex s.basic_lo × AreBasicDuals value p to basis a s.vertex s.basic_hi)
        (same_inverse q (slice_index basis) seg.vertex.a a seg.vertex.is_basis isb seg.vertex.ends ends) seg.vertex.holds

    pub low : (i : ℕ) → i < rows → dual_at value p s.vertex s.basic_lo s.lo i ≡ dual_in f (slice_index basis) a from i
    low i li =
        ap (λ z. dual_value value p s.vertex s.basic_lo z i) seg.lo
        ∙ dual_value_is value p from basis a s.vertex s.basic_lo size isb there.0 there.1 i li
        ∙ sym (dual_is q (slice_index basis) a from i)

    pub high : (i : ℕ) → i < rows → dual_at value p s.vertex s.basic_hi s.hi i ≡ dual_in f (slice_index basis) a to i
    high i li =
        ap (λ z. dual_value value p s.vertex s.basic_hi z i) seg.hi
        ∙ dual_value_is value p to basis a s.vertex s.basic_hi size isb there.0 there.2 i li
        ∙ sym (dual_is q (slice_index basis) a to i)

    pub both_optimal : HasCosts q from → HasCosts q to → IsOptimalIn f (slice_index basis) a from → IsOptimalIn f (slice_index basis) a to → IsOptimalSegment value p s
    both_optimal costs costs' stop stop' =
        record {
          at_lo = subst (λ z. IsDual q z (number_at s.vertex.coef) (dual_value value p s.vertex s.basic_lo z)) (sym seg.lo)
              (vertex_is_optimal value p from basis a s.vertex s.basic_lo size isb there.0 there.1 costs (solved_from (slice_index basis) a from stop));
          at_hi = subst (λ z. IsDual q z (number_at s.vertex.coef) (dual_value value p s.vertex s.basic_hi z)) (sym seg.hi)
              (vertex_is_optimal value p to basis a s.vertex s.basic_hi size isb there.0 there.2 costs' (solved_from (slice_index basis) a to stop'));
        }

  -- ---- the walk

  module _ (lo hi : ℚ) (costs : HasCosts q lo) (costs' : HasCosts q hi) where
    -- a stay whose ends differ
    abbrev proper : Stay → Bool
    proper s = is_lt (cmp_ℚ s.lo s.hi)

    costs_at : (t : ℚ) → lo ≤ℚ t → t ≤ℚ hi → HasCosts q t
    costs_at t lower upper = costs_between q lo hi t costs costs' lower upper

    -- what the segments from a basis on are
    record Follows (from : ℚ) (basis : List ℕ) (a : ℕ → ℕ → ℚ) (segments : List Segment) : Type 0 where
      pub covers : Covers rows from hi (segments_of value p segments)
      pub begins : (i : ℕ) → i < rows → (segments_of value p segments).at_lo 0 i ≡ dual_in f (slice_index basis) a from i
      pub optimal : AreOptimalSegments value p segments

    last_one : (from : ℚ) (basis : List ℕ) (a : ℕ → ℕ → ℚ) (size : length basis ≡ p.columns) (isb : IsBasis q (slice_index basis) a) (ends : EndsAt q.columns a) → lo ≤ℚ from → (cmp_ℚ from hi ≡ Less) ⊎ (from ≡ hi)
        → IsOptimalIn f (slice_index basis) a from
        → IsWalkEnd when f (is_below hi) from basis → (segments : List Segment) → AreSegmentsOf value p (record { basis = basis; lo = from; hi = hi } ∷ []) segments → Follows from basis a segments
    last_one from basis a size isb ends lower within stop end [] segs = absurd segs
    last_one from basis a size isb ends lower within stop end (s ∷ t ∷ rest) segs = absurd segs.1
    last_one from basis a size isb ends lower within stop end (s ∷ []) segs =
        let upper : from ≤ℚ hi = at within in
        let none : HasNoBreak f (slice_index basis) a from hi = end_reached q (slice_index basis) a from hi isb costs'
        (subst (λ a. (t : ℚ) (j r : ℕ) → ¬ IsWalkingStep f (slice_index basis) a (is_below hi) from t j r) (same_inverse q (slice_index basis) end.a a end.is_basis isb end.ends ends) end.holds) in
        record {
          covers = one_covers value p s from hi segs.0.lo segs.0.hi within;
          begins = low basis a size isb ends from hi s segs.0;
          optimal = (both_optimal basis a size isb ends from hi s segs.0 (costs_at from lower upper) costs' stop (optimal_to f (slice_index basis) a from hi hi stop none upper (≤ℚ_refl hi)), tt);
        }
      where
        at : (cmp_ℚ from hi ≡ Less) ⊎ (from ≡ hi) → from ≤ℚ hi
        at (inl e) = le_from_not from hi ((cmp_ℚ-Less from hi).0 e)
        at (inr e) = subst (λ z. from ≤ℚ z) e (≤ℚ_refl from)

    -- that the segments of the stays from a basis on are so
    abbrev AllFollow : ℚ → List ℕ → List Exchange → Type 0
    AllFollow from basis steps =
        (a : ℕ → ℕ → ℚ) (size : length basis ≡ p.columns) (isb : IsBasis q (slice_index basis) a) (ends : EndsAt q.columns a) → lo ≤ℚ from → from <ℚ hi → IsOptimalIn f (slice_index basis) a from
        → AreWalkingSteps when f (is_below hi) from basis steps → IsWalkEnd when f (is_below hi) (value_after when f (is_below hi) from steps) (basis_after basis steps)
        → (segments : List Segment) → AreSegmentsOf value p (filter proper (stays when hi from basis steps)) segments → Follows from basis a segments

    one_more : (from : ℚ) (basis : List ℕ) (x : Exchange) (steps : List Exchange) → AllFollow (when x.theta) (slice_set basis x.position x.row) steps → AllFollow from basis (x ∷ steps)
    one_more from basis x steps later a size isb ends lower within stop walk end segments segs = by (cmp_ℚ from t) refl
      where
        t : ℚ
        t = when x.theta

        at : ℕ → ℕ
        at = slice_index basis

        next : List ℕ
        next = slice_set basis x.position x.row

        step : IsWalkingStep f at a (is_below hi) from t x.position x.row
        step = subst (λ a. IsWalkingStep f at a (is_below hi) from t x.position x.row) (same_inverse q at walk.0.a a walk.0.is_basis isb walk.0.ends ends) walk.0.holds

        after : from ≤ℚ t
        after = step.break.after

        before : t <ℚ hi
        before = below_from t hi step.within

        ex : AreExchanged q.columns at (slice_index next) x.position x.row
        ex = subst (λ n. AreExchanged n at (slice_index next) x.position x.row) size (list_exchanged basis x.position x.row)

        b : ℕ → ℕ → ℚ
        b = exchanged q.columns a x.position (q.x x.row)

        isb' : IsBasis q (slice_index next) b
        isb' = next_basis q at (slice_index next) a x.position x.row step.direction isb step.break.position step.entering ex

        ends' : EndsAt q.columns b
        ends' = next_ends q at (slice_index next) a x.position x.row step.direction isb step.break.position step.entering ex ends

        size' : length next ≡ p.columns
        size' = length-set basis x.position x.row ∙ size

        stop_t : IsOptimalIn f at a t
        stop_t = optimal_to f at a from t t stop (none_before f at a from t x.position step.direction step.break) after (≤ℚ_refl t)

        lower_t : lo ≤ℚ t
        lower_t = ≤ℚ_trans lo from t lower after

        costs_t : HasCosts q t
        costs_t = costs_at t lower_t (le_from_not t hi before)

        stop' : IsOptimalIn f (slice_index next) b t
        stop' = optimal_stays f at (slice_index next) a b t x.position x.row step.direction isb isb' ex step.break.position step.entering step.break.crosses.meets costs_t stop_t

        same : (i : ℕ) → i < rows → dual_in f (slice_index next) b t i ≡ dual_in f at a t i
        same = duals_stay f at (slice_index next) a b t x.position x.row step.direction isb isb' ex step.break.position step.entering step.break.crosses.meets

        rest : (segments : List Segment) → AreSegmentsOf value p (filter proper (stays when hi t next steps)) segments → Follows t next b segments
        rest = later b size' isb' ends' lower_t before stop' walk.1 end

        stay : Stay
        stay = record { basis = basis; lo = from; hi = t }

        longer : (segments : List Segment) → cmp_ℚ from t ≡ Less → AreSegmentsOf value p (stay ∷ filter proper (stays when hi t next steps)) segments → Follows from basis a segments
        longer [] less segs = absurd segs
        longer (s ∷ segments) less segs =
            let tail : Follows t next b segments = rest segments segs.1 in
            record {
              covers = more_covers value p s segments from t hi segs.0.lo segs.0.hi less before tail.covers
                  (λ i li. high basis a size isb ends from t s segs.0 i li ∙ sym (same i li) ∙ sym (tail.begins i li));
              begins = low basis a size isb ends from t s segs.0;
              optimal = (both_optimal basis a size isb ends from t s segs.0 (costs_at from lower (le_from_not from hi within)) costs_t stop stop_t, tail.optimal);
            }

        by : (o : Ordering) → cmp_ℚ from t ≡ o → Follows from basis a segments
        by Less e = longer segments e (subst (λ z. AreSegmentsOf value p (cond z (stay ∷ filter proper (stays when hi t next steps)) (filter proper (stays when hi t next steps))) segments) (ap is_lt e) segs)
        by Greater e = absurd ((cmp_ℚ-Greater from t).0 e after)
        by Equal e =
            let here : from ≡ t = (cmp_ℚ-Equal from t).0 e in
            let tail : Follows t next b segments = rest segments (subst (λ z. AreSegmentsOf value p (cond z (stay ∷ filter proper (stays when hi t next steps)) (filter proper (stays when hi t next steps))) segments) (ap is_lt e) segs) in
            record {
              covers = subst (λ z. Covers rows z hi (segments_of value p segments)) (sym here) tail.covers;
              begins = λ i li. tail.begins i li ∙ same i li ∙ ap (λ z. dual_in f at a z i) (sym here);
              optimal = tail.optimal;
            }

    follows : (from : ℚ) (basis : List ℕ) (steps : List Exchange) → AllFollow from basis steps
    follows from basis [] a size isb ends lower within stop walk end segments segs =
        let less : cmp_ℚ from hi ≡ Less = (cmp_ℚ-Less from hi).1 within in
        last_one from basis a size isb ends lower (inl less) stop end segments
        (subst (λ t. AreSegmentsOf value p (cond t (record { basis = basis; lo = from; hi = hi } ∷ []) []) segments) (ap is_lt less) segs)
    follows from basis (x ∷ steps) a size isb ends lower within stop walk end segments segs =
        one_more from basis x steps (follows (when x.theta) (slice_set basis x.position x.row) steps) a size isb ends lower within stop walk end segments segs

    -- ---- the range

    pub walk_covers : (basis : List ℕ) (steps : List Exchange) (segments : List Segment) → lo ≤ℚ hi → IsOptimalBasis q lo basis
        → AreWalkingSteps when f (is_below hi) lo basis steps → IsWalkEnd when f (is_below hi) (value_after when f (is_below hi) lo steps) (basis_after basis steps)
        → AreSegmentsOf value p (filter (is_reported lo hi) (stays when hi lo basis steps)) segments
        → Covers rows lo hi (segments_of value p segments) × AreOptimalSegments value p segments
    walk_covers basis steps segments range o walk end segs = by (cmp_ℚ lo hi) refl steps walk end segs
      where
        stop : IsOptimalIn f (slice_index basis) o.a lo
        stop = optimal_from_solved (slice_index basis) o.a lo o.holds

        by : (c : Ordering) → cmp_ℚ lo hi ≡ c → (steps : List Exchange) → AreWalkingSteps when f (is_below hi) lo basis steps → IsWalkEnd when f (is_below hi) (value_after when f (is_below hi) lo steps) (basis_after basis steps)
            → AreSegmentsOf value p (filter (is_reported lo hi) (stays when hi lo basis steps)) segments → Covers rows lo hi (segments_of value p segments) × AreOptimalSegments value p segments
        by Greater e steps walk end segs = absurd ((cmp_ℚ-Greater lo hi).0 e range)
        by Less e steps walk end segs =
            let all : Follows lo basis o.a segments = follows lo basis steps o.a o.size o.is_basis o.ends (≤ℚ_refl lo) ((cmp_ℚ-Less lo hi).0 e) stop walk end segments
            (subst (λ (test : Stay → Bool). AreSegmentsOf value p (filter test (stays when hi lo basis steps)) segments) (λ i. λ s. if is_lt (e i) then is_lt (cmp_ℚ s.lo s.hi) else true) segs) in
            (all.covers, all.optimal)
        by Equal e (x ∷ steps) walk end segs =
            absurd (below_from (when x.theta) hi walk.0.holds.within (subst (λ z. z ≤ℚ when x.theta) ((cmp_ℚ-Equal lo hi).0 e) walk.0.holds.break.after))
        by Equal e [] walk end segs =
            let all : Follows lo basis o.a segments = last_one lo basis o.a o.size o.is_basis o.ends (≤ℚ_refl lo) (inr ((cmp_ℚ-Equal lo hi).0 e)) stop end segments
            (subst (λ (test : Stay → Bool). AreSegmentsOf value p (filter test (stays when hi lo basis [])) segments) (λ i. λ s. if is_lt (e i) then is_lt (cmp_ℚ s.lo s.hi) else true) segs) in
            (all.covers, all.optimal)
