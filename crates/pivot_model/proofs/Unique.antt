-- A problem has one lawful trail.
use Rattle.std.specs.Prelude.{◌≡◌, ◌⊎◌, ℕ, ◌<◌, ◌≤◌, Bool, true, false, ◌==◌, List, [], ◌∷◌, length, map, slice_index, slice_set, Some, pos}
use Rattle.std.proofs.Common.{arith, refl, sym, ap, ap₂, subst, ◌∙◌, inl, inr}
use Rattle.std.proofs.lemmas.Bool.{cases_lt}
use borrow.Author.Tests.{eqb-true, eqb-false}
use Rattle.rational_laws.specs.Fraction.{rational}
use Rattle.rational_laws.specs.Solver.{number, ◌⊞◌, ◌⊟◌, v0, v1, v2}
use Rattle.rational_laws.specs.Rational.{ℚ, ◌+ℚ◌, whole, ◌≤ℚ◌}
use Rattle.rational_laws.proofs.RationalLaws.{ring_ℚ, ≤ℚ_trans}
use Rattle.rational_laws.proofs.RationalSumLaws.{≤ℚ_add2}
use Rattle.rational_laws.proofs.OrderLaws.{le_from_not}
use Rattle.rational_laws.proofs.MatrixLaws.{inverse-unique}
use Rattle.loss_model.specs.declared.process.Exchange.{Exchange}
use Rattle.loss_model.specs.declared.process.Trail.{Trail}
use Rattle.loss_model.specs.Sample.{Sample, up_cost, down_cost}
use Rattle.loss_model.proofs.Starts.{one_start}
use Rattle.pivot_model.specs.declared.direction.Direction.{Direction}
use Rattle.pivot_model.specs.declared.direction.Direction.TheVariants.{Upward, Downward}
use Rattle.basis_model.specs.Basis.{IsBasis, dual_value}
use Rattle.pivot_model.specs.Duals.{HasCosts}
use Rattle.pivot_model.specs.Steps.{slope, HasNoNegativeSlope, is_before, passing, slope_before, IsLeaving, IsEntering, IsSolvingStep}
use Rattle.pivot_model.specs.Laws.{step_of, IsSameTrail}
use Rattle.pivot_model.specs.Trails.{EndsAt, basis_after, AreSolvingSteps, IsSolvingTrail, IsOptimalBasis, HasSolvingStep, ReachesLimit}
use Rattle.pivot_model.proofs.Passing.{mover_order, before_later}

-- a basis has one inverse
pub same_inverse : (p : Sample) (at : ℕ → ℕ) (a b : ℕ → ℕ → ℚ) → IsBasis p at a → IsBasis p at b → EndsAt p.columns a → EndsAt p.columns b → a ≡ b
same_inverse p at a b u v e f = λ t. λ k j. entry k j t
  where
    outside : (k j : ℕ) → ¬ ((k < p.columns) × (j < p.columns)) → a k j ≡ b k j
    outside k j h = e k j h ∙ sym (f k j h)

    entry : (k j : ℕ) → a k j ≡ b k j
    entry k j = by (cases_lt k p.columns) (cases_lt j p.columns)
      where
        by : (k < p.columns) ⊎ (p.columns ≤ k) → (j < p.columns) ⊎ (p.columns ≤ j) → a k j ≡ b k j
        by (inl lk) (inl lj) = inverse-unique p.columns (λ j k. p.x (at j) k) a b u.inverse v.inverse k j lk lj
        by (inl lk) (inr past) = outside k j (λ within. omega (arith, within.1))
        by (inr past) other = outside k j (λ within. omega (arith, within.0))

module _ (p : Sample) (at : ℕ → ℕ) (a : ℕ → ℕ → ℚ) (theta : ℚ) where
  stop_has_no_step : (j r : ℕ) → HasNoNegativeSlope p at a theta → ¬ IsSolvingStep p at a theta j r
  stop_has_no_step j r stop s = s.leaving.negative (stop j s.direction s.leaving.position)

  same_position : (j k : ℕ) (d e : Direction) → IsLeaving p at a theta j d → IsLeaving p at a theta k e → j ≡ k
  same_position j k d e u v = by (cases_lt j k) (cases_lt k j)
    where
      by : (j < k) ⊎ (k ≤ j) → (k < j) ⊎ (j ≤ k) → j ≡ k
      by (inl less) o = absurd (v.first j d less (u.least k e v.position))
      by (inr past) (inl less) = absurd (u.first k e less (v.least j d u.position))
      by (inr past) (inr rest) = omega arith

  module _ (costs : HasCosts p theta) (basis : IsBasis p at a) where
    -- both slopes of a position are not negative at once, as their sum is one of costs
    one_negative : (j : ℕ) → j < p.columns → ¬ (whole (pos 0) ≤ℚ slope p at a theta j Upward) → ¬ (whole (pos 0) ≤ℚ slope p at a theta j Downward) → ⊥
    one_negative j lj up down =
        costs.some (at j) (basis.distinct.within j lj)
        (subst (λ z. z ≤ℚ whole (pos 0)) (ring_ℚ (up_cost p theta (at j) ∷ down_cost p theta (at j) ∷ dual_value p at a theta j ∷ []) ((v0 ⊟ v2) ⊞ (v1 ⊞ v2)) (v0 ⊞ v1) refl)
        (subst (λ z. (slope p at a theta j Upward +ℚ slope p at a theta j Downward) ≤ℚ z) (ring_ℚ [] (number (pos 0) ⊞ number (pos 0)) (number (pos 0)) refl)
        (≤ℚ_add2 (slope p at a theta j Upward) (whole (pos 0)) (slope p at a theta j Downward) (whole (pos 0))
        (le_from_not (slope p at a theta j Upward) (whole (pos 0)) up) (le_from_not (slope p at a theta j Downward) (whole (pos 0)) down))))

    same_direction : (j : ℕ) (d e : Direction) → IsLeaving p at a theta j d → IsLeaving p at a theta j e → d ≡ e
    same_direction j Upward Upward u v = refl
    same_direction j Downward Downward u v = refl
    same_direction j Upward Downward u v = absurd (one_negative j u.position u.negative v.negative)
    same_direction j Downward Upward u v = absurd (one_negative j u.position v.negative u.negative)

    -- a row before another turns the slope first
    not_before : (j r s : ℕ) (d : Direction) → IsEntering p at a theta j d r → IsEntering p at a theta j d s → is_before p at a j r s ≡ true → ⊥
    not_before j r s d u v earlier =
        v.still (≤ℚ_trans (whole (pos 0)) (slope_before p at a theta j d r +ℚ passing p at a theta j r) (slope_before p at a theta j d s) u.turned
        (before_later p at a j theta d costs r s u.row u.mover earlier))

    same_row : (j r s : ℕ) (d : Direction) → IsEntering p at a theta j d r → IsEntering p at a theta j d s → r ≡ s
    same_row j r s d u v = by (r == s) refl
      where
        one : (is_before p at a j r s ≡ true) ⊎ (is_before p at a j s r ≡ true) → ⊥
        one (inl h) = not_before j r s d u v h
        one (inr h) = not_before j s r d v u h

        by : (t : Bool) → (r == s) ≡ t → r ≡ s
        by true e = eqb-true r s e
        by false e = absurd (one (mover_order p at a j basis d r s u.row u.mover (eqb-false r s e)))

    same_step : (j r k s : ℕ) → IsSolvingStep p at a theta j r → IsSolvingStep p at a theta k s → (j ≡ k) × (r ≡ s)
    same_step j r k s u v =
        let e : j ≡ k = same_position j k u.direction v.direction u.leaving v.leaving in
        let leaving : IsLeaving p at a theta j v.direction = subst (λ k. IsLeaving p at a theta k v.direction) (sym e) v.leaving in
        let entering : IsEntering p at a theta j v.direction s = subst (λ k. IsEntering p at a theta k v.direction s) (sym e) v.entering in
        (e, same_row j r s u.direction u.entering (subst (λ d. IsEntering p at a theta j d s) (sym (same_direction j u.direction v.direction u.leaving leaving)) entering))

pub one_step : (p : Sample) (at : ℕ → ℕ) (a b : ℕ → ℕ → ℚ) (theta : ℚ) (j r k s : ℕ) → IsBasis p at a → IsBasis p at b → EndsAt p.columns a → EndsAt p.columns b → HasCosts p theta → IsSolvingStep p at a theta j r
    → IsSolvingStep p at b theta k s → (j ≡ k) × (r ≡ s)
one_step p at a b theta j r k s u v e f costs step other =
    same_step p at a theta costs u j r k s step (subst (λ a. IsSolvingStep p at a theta k s) (sym (same_inverse p at a b u v e f)) other)

pub no_step : (p : Sample) (at : ℕ → ℕ) (a b : ℕ → ℕ → ℚ) (theta : ℚ) (j r : ℕ) → IsBasis p at a → IsBasis p at b → EndsAt p.columns a → EndsAt p.columns b → HasNoNegativeSlope p at a theta → ¬ IsSolvingStep p at b theta j r
no_step p at a b theta j r u v e f stop step =
    stop_has_no_step p at a theta j r stop (subst (λ a. IsSolvingStep p at a theta j r) (sym (same_inverse p at a b u v e f)) step)

-- ---- trails

pub same_items : (xs ys : List ℕ) → map Some xs ≡ map Some ys → xs ≡ ys
same_items [] [] h = refl
same_items [] (y ∷ ys) h = absurd (cc h)
same_items (x ∷ xs) [] h = absurd (cc h)
same_items (x ∷ xs) (y ∷ ys) h = let head : x ≡ y = cc h in let tail : map Some xs ≡ map Some ys = cc h in ap₂ (λ x xs. x ∷ xs) head (same_items xs ys tail)

module _ (p : Sample) (theta : ℚ) (costs : HasCosts p theta) where
  -- steps that have come to an optimal basis are not the first of longer ones
  ended : (basis : List ℕ) (steps other : List Exchange) → AreSolvingSteps p theta basis steps → AreSolvingSteps p theta basis other
      → length steps ≤ length other → IsOptimalBasis p theta (basis_after basis steps) → HasSolvingStep p theta (basis_after basis other) → ⊥
  ended basis [] [] u v l stop more =
      no_step p (slice_index basis) stop.a more.a theta more.holds.0 more.holds.1 stop.is_basis more.is_basis stop.ends more.ends stop.holds more.holds.2
  ended basis [] (t ∷ other) u v l stop more =
      no_step p (slice_index basis) stop.a v.1.a theta t.position t.row stop.is_basis v.1.is_basis stop.ends v.1.ends stop.holds v.1.holds
  ended basis (s ∷ steps) [] u v l stop more = absurd (omega arith)
  ended basis (s ∷ steps) (t ∷ other) u v l stop more =
      let same : (s.position ≡ t.position) × (s.row ≡ t.row) = one_step p (slice_index basis) u.1.a v.1.a theta s.position s.row t.position t.row u.1.is_basis v.1.is_basis u.1.ends v.1.ends costs u.1.holds v.1.holds in
      let next : slice_set basis s.position s.row ≡ slice_set basis t.position t.row = ap₂ (λ j r. slice_set basis j r) same.0 same.1 in
      let rest : length steps ≤ length other = omega arith in
      ended (slice_set basis s.position s.row) steps other u.2
      (subst (λ b. AreSolvingSteps p theta b other) (sym next) v.2) rest stop
      (subst (λ b. HasSolvingStep p theta (basis_after b other)) (sym next) more)

  pub one_trail : (trail other : Trail) (basis : List ℕ) (limit : ℕ) → IsSolvingTrail p theta trail basis → IsOptimalBasis p theta basis → length trail.steps ≤ limit → ¬ ReachesLimit p theta limit other
  one_trail trail other basis limit u stop short r =
      let v = r.lawful in
      let first : u.first ≡ v.first = same_items u.first v.first (one_start p p.rows (map Some u.first) (map Some v.first) u.greedy v.greedy) in
      ended u.first trail.steps other.steps u.lawful
      (subst (λ b. AreSolvingSteps p theta b other.steps) (sym first) v.lawful)
      (subst (λ n. length trail.steps ≤ n) (sym r.count) short)
      (subst (IsOptimalBasis p theta) (sym u.leads) stop)
      (subst (λ b. HasSolvingStep p theta (basis_after b other.steps)) (sym first) (subst (HasSolvingStep p theta) (sym v.leads) r.more))

-- ---- trails that have ended

-- steps of the same numbers lead to one basis
same_after : (basis : List ℕ) (steps other : List Exchange) → map step_of steps ≡ map step_of other → basis_after basis steps ≡ basis_after basis other
same_after basis [] [] h = refl
same_after basis [] (t ∷ other) h = absurd (cc h)
same_after basis (s ∷ steps) [] h = absurd (cc h)
same_after basis (s ∷ steps) (t ∷ other) h =
    let step : step_of s ≡ step_of t = cc h in
    let tail : map step_of steps ≡ map step_of other = cc h in
    ap (λ x. basis_after (slice_set basis x.1 x.2) steps) step ∙ same_after (slice_set basis t.position t.row) steps other tail

module _ (p : Sample) (theta : ℚ) (costs : HasCosts p theta) where
  same_exchange : (s t : Exchange) → rational s.theta ≡ theta → rational t.theta ≡ theta → s.position ≡ t.position → s.row ≡ t.row → step_of s ≡ step_of t
  same_exchange s t u v position row =
      let at : rational s.theta ≡ rational t.theta = u ∙ sym v in
      λ i. (at i, position i, row i)

  same_steps : (basis : List ℕ) (steps other : List Exchange) → AreSolvingSteps p theta basis steps → AreSolvingSteps p theta basis other
      → IsOptimalBasis p theta (basis_after basis steps) → IsOptimalBasis p theta (basis_after basis other) → map step_of steps ≡ map step_of other
  same_steps basis [] [] u v stop last = refl
  same_steps basis [] (t ∷ other) u v stop last =
      absurd (no_step p (slice_index basis) stop.a v.1.a theta t.position t.row stop.is_basis v.1.is_basis stop.ends v.1.ends stop.holds v.1.holds)
  same_steps basis (s ∷ steps) [] u v stop last =
      absurd (no_step p (slice_index basis) last.a u.1.a theta s.position s.row last.is_basis u.1.is_basis last.ends u.1.ends last.holds u.1.holds)
  same_steps basis (s ∷ steps) (t ∷ other) u v stop last =
      let step : (s.position ≡ t.position) × (s.row ≡ t.row) = one_step p (slice_index basis) u.1.a v.1.a theta s.position s.row t.position t.row u.1.is_basis v.1.is_basis u.1.ends v.1.ends costs u.1.holds v.1.holds in
      let next : slice_set basis s.position s.row ≡ slice_set basis t.position t.row = ap₂ (λ j r. slice_set basis j r) step.0 step.1 in
      ap₂ (λ s steps. s ∷ steps) (same_exchange s t u.0 v.0 step.0 step.1)
      (same_steps (slice_set basis s.position s.row) steps other u.2
      (subst (λ b. AreSolvingSteps p theta b other) (sym next) v.2) stop
      (subst (λ b. IsOptimalBasis p theta (basis_after b other)) (sym next) last))

  pub one_ended : (trail other : Trail) (basis last : List ℕ) → IsSolvingTrail p theta trail basis → IsOptimalBasis p theta basis → IsSolvingTrail p theta other last → IsOptimalBasis p theta last → IsSameTrail trail other
      × (basis ≡ last)
  one_ended trail other basis last u stop v end =
      let first : u.first ≡ v.first = same_items u.first v.first (one_start p p.rows (map Some u.first) (map Some v.first) u.greedy v.greedy) in
      let steps : map step_of trail.steps ≡ map step_of other.steps = same_steps u.first trail.steps other.steps u.lawful
      (subst (λ b. AreSolvingSteps p theta b other.steps) (sym first) v.lawful)
      (subst (IsOptimalBasis p theta) (sym u.leads) stop)
      (subst (λ b. IsOptimalBasis p theta (basis_after b other.steps)) (sym first) (subst (IsOptimalBasis p theta) (sym v.leads) end)) in
      let start : trail.start ≡ other.start = u.begins ∙ ap (map Some) first ∙ sym v.begins in
      let rise : trail.rise ≡ other.rise = u.rise ∙ sym v.rise in
      let fall : trail.fall ≡ other.fall = u.fall ∙ sym v.fall in (
        record { start = start; steps = steps; rise = ap (map step_of) rise; fall = ap (map step_of) fall },
        sym u.leads ∙ ap (λ b. basis_after b trail.steps) first ∙ same_after v.first trail.steps other.steps steps ∙ v.leads,
      )
