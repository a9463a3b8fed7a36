-- A walk over quantiles as a loop: how it begins, goes on and is done.
use Rattle.std.specs.Prelude.{◌≡◌, ℕ, Bool, true, false, cond, List, [], ◌∷◌, ◌++◌, filter, length, slice_index, slice_set, if◌then◌else◌}
use Rattle.std.specs.Ordering.{is_lt}
use Rattle.std.specs.declared.cmp.Ordering.{Ordering}
use Rattle.std.specs.declared.cmp.Ordering.TheVariants.{Less, Equal, Greater}
use Rattle.std.proofs.Common.{refl, sym, ap, ap₂, subst, ◌∙◌}
use Rattle.std.proofs.lemmas.List.{length-set}
use Rattle.rational_laws.specs.Fraction.{Fraction, rational}
use Rattle.rational_laws.specs.Rational.{ℚ, ◌≤ℚ◌}
use Rattle.rational_laws.proofs.RationalLaws.{≤ℚ_refl, ≤ℚ_trans}
use Rattle.rational_laws.specs.Order.{cmp_ℚ}
use Rattle.rational_laws.proofs.OrderLaws.{cmp_ℚ-Less, cmp_ℚ-Equal, le_from_not}
use Rattle.loss_model.specs.declared.problem.Problem.{Problem}
use Rattle.loss_model.specs.declared.process.Exchange.{Exchange}
use Rattle.loss_model.specs.declared.process.Segment.{Segment}
use Rattle.loss_model.specs.Sample.{Sample}
use Rattle.loss_model.specs.Problem.{sample}
use Rattle.pivot_model.specs.Basis.{IsBasis}
use Rattle.pivot_model.specs.Duals.{HasCosts, ◌<ℚ◌}
use Rattle.pivot_model.specs.Steps.{HasNoNegativeSlope}
use Rattle.pivot_model.specs.Trails.{EndsAt, AtBasis, basis_after}
use Rattle.walk_model.specs.Families.{Family, over_quantiles, IsOptimalIn}
use Rattle.walk_model.specs.Walks.{AreExchanged, IsWalkingStep}
use Rattle.walk_model.specs.WalkTrails.{AreWalkingSteps, value_after, is_below}
use Rattle.walk_model.specs.Stays.{Stay, ended_stays, stays, is_reported, IsSegmentOf, AreSegmentsOf}
use Rattle.walk_model.specs.Underway.{IsUnderway}
use Rattle.walk_model.proofs.Slopes.{optimal_to, none_before, costs_between}
use Rattle.walk_model.proofs.Stays.{optimal_stays}
use Rattle.walk_model.proofs.Trails.{list_exchanged, below_from}
use Rattle.walk_model.proofs.Walked.{optimal_from_solved}
use Rattle.walk_model.proofs.Lines.{le_trans_lt}

module _ (when : Fraction → ℚ) (f : Family) (reach : ℚ → Bool) where
  pub steps_more : (from : ℚ) (basis : List ℕ) (steps : List Exchange) (x : Exchange) → AreWalkingSteps when f reach from basis steps
      → AtBasis f.sample (basis_after basis steps) (λ a. IsWalkingStep f (slice_index (basis_after basis steps)) a reach (value_after when f reach from steps) (when x.theta) x.position x.row)
      → AreWalkingSteps when f reach from basis (steps ++ x ∷ [])
  steps_more from basis [] x walk step = (step, tt)
  steps_more from basis (s ∷ steps) x walk step = (walk.0, steps_more (when s.theta) (slice_set basis s.position s.row) steps x walk.1 step)

  pub after_more : (basis : List ℕ) (steps : List Exchange) (x : Exchange) → basis_after basis (steps ++ x ∷ []) ≡ slice_set (basis_after basis steps) x.position x.row
  after_more basis [] x = refl
  after_more basis (s ∷ steps) x = after_more (slice_set basis s.position s.row) steps x

  pub reached_more : (from : ℚ) (steps : List Exchange) (x : Exchange) → value_after when f reach from (steps ++ x ∷ []) ≡ when x.theta
  reached_more from [] x = refl
  reached_more from (s ∷ steps) x = reached_more (when s.theta) steps x

  ended_more : (from : ℚ) (basis : List ℕ) (steps : List Exchange) (x : Exchange)
      → ended_stays when from basis (steps ++ x ∷ []) ≡ ended_stays when from basis steps ++ record { basis = basis_after basis steps; lo = value_after when f reach from steps; hi = when x.theta } ∷ []
  ended_more from basis [] x = refl
  ended_more from basis (s ∷ steps) x = ap (λ xs. record { basis = basis; lo = from; hi = when s.theta } ∷ xs) (ended_more (when s.theta) (slice_set basis s.position s.row) steps x)

  stays_are : (hi from : ℚ) (basis : List ℕ) (steps : List Exchange)
      → stays when hi from basis steps ≡ ended_stays when from basis steps ++ record { basis = basis_after basis steps; lo = value_after when f reach from steps; hi = hi } ∷ []
  stays_are hi from basis [] = refl
  stays_are hi from basis (s ∷ steps) = ap (λ xs. record { basis = basis; lo = from; hi = when s.theta } ∷ xs) (stays_are hi (when s.theta) (slice_set basis s.position s.row) steps)

filter_more : (test : Stay → Bool) (xs : List Stay) (x : Stay) → filter test (xs ++ x ∷ []) ≡ filter test xs ++ cond (test x) (x ∷ []) []
filter_more test [] x = refl
filter_more test (y ∷ xs) x = by (test y) (filter_more test xs x)
  where
    by : (t : Bool) → filter test (xs ++ x ∷ []) ≡ filter test xs ++ cond (test x) (x ∷ []) [] → cond t (y ∷ filter test (xs ++ x ∷ [])) (filter test (xs ++ x ∷ []))
        ≡ cond t (y ∷ filter test xs) (filter test xs) ++ cond (test x) (x ∷ []) []
    by true ih = ap (λ zs. y ∷ zs) ih
    by false ih = ih

append_none : (xs : List Stay) → xs ++ [] ≡ xs
append_none [] = refl
append_none (x ∷ xs) = ap (λ zs. x ∷ zs) (append_none xs)

module _ {F : Type 0} (value : F → Fraction) (p : Problem F) where
  segments_more : (stays : List Stay) (segments : List Segment) (x : Stay) (s : Segment) → AreSegmentsOf value p stays segments → IsSegmentOf value p x s → AreSegmentsOf value p (stays ++ x ∷ []) (segments ++ s ∷ [])
  segments_more [] [] x s h k = (k, tt)
  segments_more [] (t ∷ segments) x s h k = absurd h
  segments_more (y ∷ stays) [] x s h k = absurd h
  segments_more (y ∷ stays) (t ∷ segments) x s h k = (h.0, segments_more stays segments x s h.1 k)

  abbrev q : Sample
  q = sample value p

  abbrev when : Fraction → ℚ
  when x = rational x

  pub begins : (lo hi : ℚ) (basis : List ℕ) (a : ℕ → ℕ → ℚ) → lo ≤ℚ hi → length basis ≡ p.columns → IsBasis q (slice_index basis) a → EndsAt p.columns a
      → HasNoNegativeSlope q (slice_index basis) a lo → IsUnderway value p lo hi basis [] [] lo basis a
  begins lo hi basis a range size isb ends stop =
      record {
        walked = tt;
        leads = refl;
        reaches = refl;
        size = size;
        is_basis = isb;
        ends = ends;
        optimal = optimal_from_solved value p (slice_index basis) a lo stop;
        lower = ≤ℚ_refl lo;
        upper = range;
        segments_so_far = tt;
      }

  -- ---- a step

  module _ (lo hi : ℚ) (start : List ℕ) (steps : List Exchange) (segments : List Segment) (now : ℚ) (basis : List ℕ) (a b : ℕ → ℕ → ℚ) (x : Exchange)
      (costs : HasCosts q lo) (costs' : HasCosts q hi) (u : IsUnderway value p lo hi start steps segments now basis a)
      (step : IsWalkingStep (over_quantiles q) (slice_index basis) a (is_below hi) now (when x.theta) x.position x.row)
      (isb : IsBasis q (slice_index (slice_set basis x.position x.row)) b) (ends : EndsAt p.columns b) where
    abbrev t : ℚ
    t = when x.theta

    abbrev next : List ℕ
    next = slice_set basis x.position x.row

    abbrev stay : Stay
    stay = record { basis = basis; lo = now; hi = t }

    before : t <ℚ hi
    before = below_from t hi step.within

    optimal : IsOptimalIn (over_quantiles q) (slice_index basis) a t
    optimal = optimal_to (over_quantiles q) (slice_index basis) a now t t u.optimal (none_before (over_quantiles q) (slice_index basis) a now t x.position step.direction step.break) step.break.after (≤ℚ_refl t)

    lower : lo ≤ℚ t
    lower = ≤ℚ_trans lo now t u.lower step.break.after

    walked : AreWalkingSteps when (over_quantiles q) (is_below hi) lo start (steps ++ x ∷ [])
    walked =
        steps_more when (over_quantiles q) (is_below hi) lo start steps x u.walked
        (subst (λ basis. AtBasis q basis (λ a. IsWalkingStep (over_quantiles q) (slice_index basis) a (is_below hi) (value_after when (over_quantiles q) (is_below hi) lo steps) t x.position x.row)) (sym u.leads)
        (subst (λ from. AtBasis q basis (λ a. IsWalkingStep (over_quantiles q) (slice_index basis) a (is_below hi) from t x.position x.row)) (sym u.reaches)
        (record { size = u.size; a = a; is_basis = u.is_basis; ends = u.ends; holds = step })))

    ended : ended_stays when lo start (steps ++ x ∷ []) ≡ ended_stays when lo start steps ++ stay ∷ []
    ended =
        ended_more when (over_quantiles q) (is_below hi) lo start steps x
        ∙ ap₂ (λ b z. ended_stays when lo start steps ++ record { basis = b; lo = z; hi = t } ∷ []) u.leads u.reaches

    narrow : cmp_ℚ lo hi ≡ Less
    narrow = (cmp_ℚ-Less lo hi).1 (le_trans_lt lo t hi lower before)

    with_segments : (more : List Segment) → AreSegmentsOf value p (filter (is_reported lo hi) (ended_stays when lo start (steps ++ x ∷ []))) more → IsUnderway value p lo hi start (steps ++ x ∷ []) more t next b
    with_segments more segs =
        record {
          walked = walked;
          leads = after_more when (over_quantiles q) (is_below hi) start steps x ∙ ap (λ b. slice_set b x.position x.row) u.leads;
          reaches = reached_more when (over_quantiles q) (is_below hi) lo steps x;
          size = length-set basis x.position x.row ∙ u.size;
          is_basis = isb;
          ends = ends;
          optimal = optimal_stays (over_quantiles q) (slice_index basis) (slice_index next) a b t x.position x.row step.direction u.is_basis isb
              (subst (λ n. AreExchanged n (slice_index basis) (slice_index next) x.position x.row) u.size (list_exchanged basis x.position x.row))
              step.break.position step.entering step.break.crosses.meets (costs_between q lo hi t costs costs' lower (le_from_not t hi before)) optimal;
          lower = lower;
          upper = le_from_not t hi before;
          segments_so_far = segs;
        }

    tested : (r : Bool) → is_reported lo hi stay ≡ r → filter (is_reported lo hi) (ended_stays when lo start (steps ++ x ∷ [])) ≡ filter (is_reported lo hi) (ended_stays when lo start steps) ++ cond r (stay ∷ []) []
    tested r e =
        ap (filter (is_reported lo hi)) ended ∙ filter_more (is_reported lo hi) (ended_stays when lo start steps) stay
        ∙ ap (λ r. filter (is_reported lo hi) (ended_stays when lo start steps) ++ cond r (stay ∷ []) []) e

    reported : (o : Ordering) → cmp_ℚ now t ≡ o → is_reported lo hi stay ≡ is_lt o
    reported o e = ap (λ c. if is_lt c then is_lt (cmp_ℚ now t) else true) narrow ∙ ap is_lt e

    pub with_segment : (s : Segment) → now <ℚ t → IsSegmentOf value p stay s → IsUnderway value p lo hi start (steps ++ x ∷ []) (segments ++ s ∷ []) t next b
    with_segment s less seg =
        with_segments (segments ++ s ∷ [])
        (subst (λ xs. AreSegmentsOf value p xs (segments ++ s ∷ [])) (sym (tested true (reported Less ((cmp_ℚ-Less now t).1 less))))
        (segments_more (filter (is_reported lo hi) (ended_stays when lo start steps)) segments stay s u.segments_so_far seg))

    pub without_segment : now ≡ t → IsUnderway value p lo hi start (steps ++ x ∷ []) segments t next b
    without_segment same =
        with_segments segments
        (subst (λ xs. AreSegmentsOf value p xs segments) (sym (tested false (reported Equal ((cmp_ℚ-Equal now t).1 same)) ∙ append_none (filter (is_reported lo hi) (ended_stays when lo start steps)))) u.segments_so_far)

  -- ---- the end

  reached_below : (lo hi : ℚ) (from : ℚ) (basis : List ℕ) (steps : List Exchange) → from <ℚ hi → AreWalkingSteps when (over_quantiles q) (is_below hi) from basis steps → value_after when (over_quantiles q) (is_below hi) from steps <ℚ hi
  reached_below lo hi from basis [] h walk = h
  reached_below lo hi from basis (s ∷ steps) h walk = reached_below lo hi (when s.theta) (slice_set basis s.position s.row) steps (below_from (when s.theta) hi walk.0.holds.within) walk.1

  pub done : (lo hi : ℚ) (start : List ℕ) (steps : List Exchange) (segments : List Segment) (now : ℚ) (basis : List ℕ) (a : ℕ → ℕ → ℚ) (s : Segment)
      → IsUnderway value p lo hi start steps segments now basis a → IsSegmentOf value p (record { basis = basis; lo = now; hi = hi }) s
      → AreSegmentsOf value p (filter (is_reported lo hi) (stays when hi lo start steps)) (segments ++ s ∷ [])
  done lo hi start steps segments now basis a s u seg =
      subst (λ xs. AreSegmentsOf value p xs (segments ++ s ∷ [])) (sym all)
      (segments_more (filter (is_reported lo hi) (ended_stays when lo start steps)) segments stay s u.segments_so_far seg)
    where
      stay : Stay
      stay = record { basis = basis; lo = now; hi = hi }

      reported : (o : Ordering) → cmp_ℚ lo hi ≡ o → is_reported lo hi stay ≡ true
      reported Less e =
          ap (λ c. if is_lt c then is_lt (cmp_ℚ now hi) else true) e
          ∙ ap is_lt ((cmp_ℚ-Less now hi).1 (subst (λ z. z <ℚ hi) u.reaches (reached_below lo hi lo start steps ((cmp_ℚ-Less lo hi).0 e) u.walked)))
      reported Equal e = ap (λ c. if is_lt c then is_lt (cmp_ℚ now hi) else true) e
      reported Greater e = ap (λ c. if is_lt c then is_lt (cmp_ℚ now hi) else true) e

      all : filter (is_reported lo hi) (stays when hi lo start steps) ≡ filter (is_reported lo hi) (ended_stays when lo start steps) ++ stay ∷ []
      all =
          ap (filter (is_reported lo hi)) (stays_are when (over_quantiles q) (is_below hi) hi lo start steps
          ∙ ap₂ (λ b z. ended_stays when lo start steps ++ record { basis = b; lo = z; hi = hi } ∷ []) u.leads u.reaches)
          ∙ filter_more (is_reported lo hi) (ended_stays when lo start steps) stay
          ∙ ap (λ r. filter (is_reported lo hi) (ended_stays when lo start steps) ++ cond r (stay ∷ []) []) (reported (cmp_ℚ lo hi) refl)
