-- A process, and an interval, has one lawful trail.
use Rattle.std.specs.Prelude.{◌≡◌, ◌≢◌, ◌⊎◌, ℕ, ◌+◌, ◌<◌, ◌≤◌, Bool, true, false, ◌==◌, List, [], ◌∷◌, length, map, slice_index, slice_set, Some, pos}
use Rattle.std.specs.Ordering.{is_lt}
use Rattle.std.proofs.Common.{arith, refl, sym, ap, ap₂, subst, ◌∙◌, inl, inr}
use Rattle.std.proofs.lemmas.Bool.{cases_lt}
use Rattle.std.proofs.lemmas.List.{length-append, get_or-set_same, get_or-set_other}
use borrow.Author.Tests.{eqb-true, eqb-false}
use Rattle.rational_laws.specs.Fraction.{Fraction, rational}
use Rattle.rational_laws.specs.Rational.{ℚ, whole, ◌≤ℚ◌}
use Rattle.rational_laws.proofs.RationalLaws.{≤ℚ_refl, ≤ℚ_trans}
use Rattle.rational_laws.specs.Order.{cmp_ℚ}
use Rattle.rational_laws.proofs.OrderLaws.{cmp_ℚ-Less, le_from_not}
use Rattle.rational_laws.proofs.Comparisons.{is_less}
use Rattle.rational_laws.proofs.TermLaws.{if-same, if-other}
use Rattle.loss_model.specs.declared.process.Exchange.{Exchange}
use Rattle.loss_model.specs.declared.process.Trail.{Trail}
use Rattle.loss_model.specs.Sample.{Sample}
use Rattle.loss_model.proofs.Starts.{one_start}
use Rattle.pivot_model.specs.Duals.{HasCosts, ◌<ℚ◌}
use Rattle.pivot_model.specs.Responses.{exchanged_rows}
use Rattle.pivot_model.specs.Trails.{basis_after, AreSolvingSteps, IsOptimalBasis}
use Rattle.pivot_model.proofs.Unique.{same_inverse, one_step, no_step, one_trail, same_items}
use Rattle.walk_model.specs.Families.{Family, theta_of, over_quantiles, rising_value, falling_value}
use Rattle.walk_model.specs.Walks.{AreExchanged, IsWalkingStep}
use Rattle.walk_model.specs.WalkTrails.{AreWalkingSteps, value_after, HasWalkingStep, IsWalkEnd, is_below, is_within, IsProcessTrail, ReachesProcessLimit}
use Rattle.walk_model.specs.WalkTrails.{negated_theta, theta_value, IsIntervalTrail, HasRisen, HasFallen, HasTestedStep, ReachesIntervalLimit}
use Rattle.walk_model.proofs.Slopes.{costs_between}
use Rattle.walk_model.proofs.Unique.{one_walking_step}

-- ---- lists of rows by position

pub list_exchanged : (basis : List ℕ) (j r : ℕ) → AreExchanged (length basis) (slice_index basis) (slice_index (slice_set basis j r)) j r
list_exchanged basis j r k lk = by (k == j) refl
  where
    by : (t : Bool) → (k == j) ≡ t → slice_index (slice_set basis j r) k ≡ exchanged_rows (slice_index basis) j r k
    by true e =
        let here : k ≡ j = eqb-true k j e in
        let within : j < length basis = omega (arith, here) in
        ap (slice_index (slice_set basis j r)) here ∙ get_or-set_same basis j r 0 within ∙ sym (if-same k j r (slice_index basis k) here)
    by false e =
        let other : k ≢ j = eqb-false k j e in
        get_or-set_other basis j k r 0 other ∙ sym (if-other k j r (slice_index basis k) other)

-- ---- walks

module _ (when : Fraction → ℚ) (f : Family) (reach : ℚ → Bool) (start : ℚ)
    (costs : (t : ℚ) → start ≤ℚ t → reach t ≡ true → HasCosts f.sample (theta_of f t)) where
  -- a walk that is at its end is not the first part of a longer one
  ended : (from : ℚ) (basis : List ℕ) (steps other : List Exchange) → start ≤ℚ from → AreWalkingSteps when f reach from basis steps → AreWalkingSteps when f reach from basis other
      → length steps ≤ length other → IsWalkEnd when f reach (value_after when f reach from steps) (basis_after basis steps)
      → HasWalkingStep when f reach (value_after when f reach from other) (basis_after basis other) → ⊥
  ended from basis [] [] lf u v l stop more =
      stop.holds more.holds.0 more.holds.1 more.holds.2
      (subst (λ a. IsWalkingStep f (slice_index basis) a reach from more.holds.0 more.holds.1 more.holds.2) (same_inverse f.sample (slice_index basis) more.a stop.a more.is_basis stop.is_basis more.ends stop.ends) more.holds.3)
  ended from basis [] (t ∷ other) lf u v l stop more =
      stop.holds (when t.theta) t.position t.row
      (subst (λ a. IsWalkingStep f (slice_index basis) a reach from (when t.theta) t.position t.row) (same_inverse f.sample (slice_index basis) v.0.a stop.a v.0.is_basis stop.is_basis v.0.ends stop.ends) v.0.holds)
  ended from basis (s ∷ steps) [] lf u v l stop more = absurd (omega arith)
  ended from basis (s ∷ steps) (t ∷ other) lf u v l stop more =
      let after : start ≤ℚ when s.theta = ≤ℚ_trans start from (when s.theta) lf u.0.holds.break.after in
      let same : (when s.theta ≡ when t.theta) × (s.position ≡ t.position) × (s.row ≡ t.row) = one_walking_step f (slice_index basis) u.0.a v.0.a reach from (when s.theta)
      (when t.theta) s.position s.row t.position t.row u.0.is_basis v.0.is_basis u.0.ends v.0.ends (costs (when s.theta) after u.0.holds.within) u.0.holds v.0.holds in
      let next : slice_set basis s.position s.row ≡ slice_set basis t.position t.row = ap₂ (λ j r. slice_set basis j r) same.1 same.2 in
      let rest : length steps ≤ length other = omega arith in
      ended (when s.theta) (slice_set basis s.position s.row) steps other after u.1
      (subst (λ z. AreWalkingSteps when f reach z (slice_set basis s.position s.row) other) (sym same.0) (subst (λ b. AreWalkingSteps when f reach (when t.theta) b other) (sym next) v.1)) rest stop
      (subst (λ z. HasWalkingStep when f reach (value_after when f reach z other) (basis_after (slice_set basis s.position s.row) other)) (sym same.0)
      (subst (λ b. HasWalkingStep when f reach (value_after when f reach (when t.theta) other) (basis_after b other)) (sym next) more))

  pub shorter : (basis : List ℕ) (steps other : List Exchange) → AreWalkingSteps when f reach start basis steps → AreWalkingSteps when f reach start basis other
      → IsWalkEnd when f reach (value_after when f reach start steps) (basis_after basis steps)
      → HasWalkingStep when f reach (value_after when f reach start other) (basis_after basis other) → length other < length steps
  shorter basis steps other u v stop more = by (cases_lt (length other) (length steps))
    where
      by : (length other < length steps) ⊎ (length steps ≤ length other) → length other < length steps
      by (inl h) = h
      by (inr h) = absurd (ended start basis steps other (≤ℚ_refl start) u v h stop more)

  -- two walks that are at their ends have as many steps
  same_length : (from : ℚ) (basis : List ℕ) (steps other : List Exchange) → start ≤ℚ from → AreWalkingSteps when f reach from basis steps → AreWalkingSteps when f reach from basis other
      → IsWalkEnd when f reach (value_after when f reach from steps) (basis_after basis steps)
      → IsWalkEnd when f reach (value_after when f reach from other) (basis_after basis other) → length steps ≡ length other
  same_length from basis [] [] lf u v stop stop' = refl
  same_length from basis [] (t ∷ other) lf u v stop stop' =
      absurd (stop.holds (when t.theta) t.position t.row
      (subst (λ a. IsWalkingStep f (slice_index basis) a reach from (when t.theta) t.position t.row) (same_inverse f.sample (slice_index basis) v.0.a stop.a v.0.is_basis stop.is_basis v.0.ends stop.ends) v.0.holds))
  same_length from basis (s ∷ steps) [] lf u v stop stop' =
      absurd (stop'.holds (when s.theta) s.position s.row
      (subst (λ a. IsWalkingStep f (slice_index basis) a reach from (when s.theta) s.position s.row) (same_inverse f.sample (slice_index basis) u.0.a stop'.a u.0.is_basis stop'.is_basis u.0.ends stop'.ends) u.0.holds))
  same_length from basis (s ∷ steps) (t ∷ other) lf u v stop stop' =
      let after : start ≤ℚ when s.theta = ≤ℚ_trans start from (when s.theta) lf u.0.holds.break.after in
      let same : (when s.theta ≡ when t.theta) × (s.position ≡ t.position) × (s.row ≡ t.row) = one_walking_step f (slice_index basis) u.0.a v.0.a reach from (when s.theta)
      (when t.theta) s.position s.row t.position t.row u.0.is_basis v.0.is_basis u.0.ends v.0.ends (costs (when s.theta) after u.0.holds.within) u.0.holds v.0.holds in
      let next : slice_set basis s.position s.row ≡ slice_set basis t.position t.row = ap₂ (λ j r. slice_set basis j r) same.1 same.2 in
      let rest : length steps ≡ length other = same_length (when s.theta) (slice_set basis s.position s.row) steps other after u.1
      (subst (λ z. AreWalkingSteps when f reach z (slice_set basis s.position s.row) other) (sym same.0) (subst (λ b. AreWalkingSteps when f reach (when t.theta) b other) (sym next) v.1)) stop
      (subst (λ z. IsWalkEnd when f reach (value_after when f reach z other) (basis_after (slice_set basis s.position s.row) other)) (sym same.0)
      (subst (λ b. IsWalkEnd when f reach (value_after when f reach (when t.theta) other) (basis_after b other)) (sym next) stop')) in
      omega (arith, rest)

-- ---- solving steps

module _ (p : Sample) (theta : ℚ) (costs : HasCosts p theta) where
  -- two trails to optimal bases have as many steps, and lead to one basis
  solved_same : (basis : List ℕ) (steps other : List Exchange) → AreSolvingSteps p theta basis steps → AreSolvingSteps p theta basis other
      → IsOptimalBasis p theta (basis_after basis steps) → IsOptimalBasis p theta (basis_after basis other)
      → (length steps ≡ length other) × (basis_after basis steps ≡ basis_after basis other)
  solved_same basis [] [] u v stop stop' = (refl, refl)
  solved_same basis [] (t ∷ other) u v stop stop' =
      absurd (no_step p (slice_index basis) stop.a v.1.a theta t.position t.row stop.is_basis v.1.is_basis stop.ends v.1.ends stop.holds v.1.holds)
  solved_same basis (s ∷ steps) [] u v stop stop' =
      absurd (no_step p (slice_index basis) stop'.a u.1.a theta s.position s.row stop'.is_basis u.1.is_basis stop'.ends u.1.ends stop'.holds u.1.holds)
  solved_same basis (s ∷ steps) (t ∷ other) u v stop stop' =
      let same : (s.position ≡ t.position) × (s.row ≡ t.row) = one_step p (slice_index basis) u.1.a v.1.a theta s.position s.row t.position t.row u.1.is_basis v.1.is_basis u.1.ends v.1.ends costs u.1.holds v.1.holds in
      let next : slice_set basis s.position s.row ≡ slice_set basis t.position t.row = ap₂ (λ j r. slice_set basis j r) same.0 same.1 in
      let rest : (length steps ≡ length other) × (basis_after (slice_set basis s.position s.row) steps ≡ basis_after (slice_set basis s.position s.row) other) =
      solved_same (slice_set basis s.position s.row) steps other u.2 (subst (λ b. AreSolvingSteps p theta b other) (sym next) v.2) stop
      (subst (λ b. IsOptimalBasis p theta (basis_after b other)) (sym next) stop') in
      (omega (arith, rest.0), rest.1 ∙ ap (λ b. basis_after b other) next)

-- ---- processes

pub below_from : (x y : ℚ) → is_lt (cmp_ℚ x y) ≡ true → x <ℚ y
below_from x y h = (cmp_ℚ-Less x y).0 (is_less (cmp_ℚ x y) h)

module _ (p : Sample) (lo hi : ℚ) (costs : HasCosts p lo) (costs' : HasCosts p hi) where
  abbrev when : Fraction → ℚ
  when x = rational x

  walk_costs : (t : ℚ) → lo ≤ℚ t → is_below hi t ≡ true → HasCosts p t
  walk_costs t lower h = costs_between p lo hi t costs costs' lower (le_from_not t hi (below_from t hi h))

  pub one_process : (now : ℚ) (trail other : Trail) (basis : List ℕ) (limit : ℕ) → IsProcessTrail p lo hi trail basis now
      → IsWalkEnd when (over_quantiles p) (is_below hi) now basis → length trail.steps ≤ limit → ¬ ReachesProcessLimit p lo hi limit other
  one_process now trail other basis limit u stop short (inl solving) =
      one_trail p lo costs (record { start = trail.start; steps = u.solving; rise = []; fall = [] }) other (basis_after u.first u.solving) limit
      (record { first = u.first; begins = u.begins; greedy = u.greedy; lawful = u.solved; leads = refl; rise = refl; fall = refl }) u.optimal
      (let e : length trail.steps ≡ length u.solving + length u.walking = ap length u.all ∙ length-append u.solving u.walking in omega (arith, e, short)) solving
  one_process now trail other basis limit u stop short (inr r) =
      let v : IsProcessTrail p lo hi other r.basis r.now = r.lawful in
      let first : u.first ≡ v.first = same_items u.first v.first (one_start p p.rows (map Some u.first) (map Some v.first) u.greedy v.greedy) in
      let solved : AreSolvingSteps p lo u.first v.solving = subst (λ b. AreSolvingSteps p lo b v.solving) (sym first) v.solved in
      let optimal : IsOptimalBasis p lo (basis_after u.first v.solving) = subst (λ b. IsOptimalBasis p lo (basis_after b v.solving)) (sym first) v.optimal in
      let same : (length u.solving ≡ length v.solving) × (basis_after u.first u.solving ≡ basis_after u.first v.solving) = solved_same p lo costs u.first u.solving v.solving u.solved solved u.optimal optimal in
      let base : basis_after u.first u.solving ≡ basis_after v.first v.solving = same.1 ∙ ap (λ b. basis_after b v.solving) first in
      let walked : AreWalkingSteps when (over_quantiles p) (is_below hi) lo (basis_after u.first u.solving) v.walking = subst (λ b. AreWalkingSteps when (over_quantiles p) (is_below hi) lo b v.walking) (sym base) v.walked in
      let ends : IsWalkEnd when (over_quantiles p) (is_below hi) (value_after when (over_quantiles p) (is_below hi) lo u.walking) (basis_after (basis_after u.first u.solving) u.walking) =
      subst (λ z. IsWalkEnd when (over_quantiles p) (is_below hi) z (basis_after (basis_after u.first u.solving) u.walking)) (sym u.reaches)
      (subst (λ b. IsWalkEnd when (over_quantiles p) (is_below hi) now b) (sym u.leads) stop) in
      let more : HasWalkingStep when (over_quantiles p) (is_below hi) (value_after when (over_quantiles p) (is_below hi) lo v.walking) (basis_after (basis_after u.first u.solving) v.walking) =
      subst (λ b. HasWalkingStep when (over_quantiles p) (is_below hi) (value_after when (over_quantiles p) (is_below hi) lo v.walking) (basis_after b v.walking)) (sym base)
      (subst (λ z. HasWalkingStep when (over_quantiles p) (is_below hi) z (basis_after (basis_after v.first v.solving) v.walking)) (sym v.reaches)
      (subst (λ b. HasWalkingStep when (over_quantiles p) (is_below hi) r.now b) (sym v.leads) r.more)) in
      let less : length v.walking < length u.walking = shorter when (over_quantiles p) (is_below hi) lo walk_costs (basis_after u.first u.solving) u.walking v.walking u.walked walked ends more in
      let e : length trail.steps ≡ length u.solving + length u.walking = ap length u.all ∙ length-append u.solving u.walking in
      let e' : length other.steps ≡ length v.solving + length v.walking = ap length v.all ∙ length-append v.solving v.walking in
      let count : length other.steps ≡ limit = r.count in
      let solvings : length u.solving ≡ length v.solving = same.0 in
      omega (arith, less, e, e', short, count, solvings)

-- ---- intervals

module _ (p : Sample) (tau : ℚ) (c : ℕ) (bound : ℚ) (costs : HasCosts p tau) where
  pub one_interval : (trail other : Trail) (basis : List ℕ) (limit : ℕ) → IsIntervalTrail p tau c bound trail basis
      → HasRisen p tau c bound trail basis → HasFallen p tau c bound trail basis
      → length trail.steps + length trail.rise + length trail.fall ≤ limit → ¬ ReachesIntervalLimit p tau c bound limit other
  one_interval trail other basis limit u risen fallen short (inl solving) =
      one_trail p tau costs (record { start = trail.start; steps = trail.steps; rise = []; fall = [] }) other basis limit
      (record { first = u.first; begins = u.begins; greedy = u.greedy; lawful = u.solved; leads = u.leads; rise = refl; fall = refl }) u.optimal
      (omega (arith, short)) solving
  one_interval trail other basis limit u risen fallen short (inr r) = by r.more
    where
      v : IsIntervalTrail p tau c bound other r.basis
      v = r.lawful

      first : u.first ≡ v.first
      first = same_items u.first v.first (one_start p p.rows (map Some u.first) (map Some v.first) u.greedy v.greedy)

      solved : (length trail.steps ≡ length other.steps) × (basis_after u.first trail.steps ≡ basis_after u.first other.steps)
      solved =
          solved_same p tau costs u.first trail.steps other.steps u.solved
          (subst (λ b. AreSolvingSteps p tau b other.steps) (sym first) v.solved)
          (subst (IsOptimalBasis p tau) (sym u.leads) u.optimal)
          (subst (λ b. IsOptimalBasis p tau (basis_after b other.steps)) (sym first) (subst (IsOptimalBasis p tau) (sym v.leads) v.optimal))

      base : r.basis ≡ basis
      base = sym v.leads ∙ ap (λ b. basis_after b other.steps) (sym first) ∙ sym solved.1 ∙ u.leads

      rose : AreWalkingSteps (negated_theta) (rising_value p tau c) (is_within bound) (whole (pos 0)) basis other.rise
      rose = subst (λ b. AreWalkingSteps (negated_theta) (rising_value p tau c) (is_within bound) (whole (pos 0)) b other.rise) base v.rose

      fell : AreWalkingSteps (theta_value) (falling_value p tau c) (is_within bound) (whole (pos 0)) basis other.fall
      fell = subst (λ b. AreWalkingSteps (theta_value) (falling_value p tau c) (is_within bound) (whole (pos 0)) b other.fall) base v.fell

      count : length other.steps + length other.rise + length other.fall ≡ limit
      count = r.count

      steps : length trail.steps ≡ length other.steps
      steps = solved.0

      by : HasTestedStep p tau c bound other r.basis → ⊥
      by (inl (none, more)) =
          let less : length other.rise < length trail.rise = shorter (negated_theta) (rising_value p tau c) (is_within bound) (whole (pos 0)) (λ t lower h. costs) basis trail.rise other.rise u.rose rose risen
          (subst (λ b. HasWalkingStep (negated_theta) (rising_value p tau c) (is_within bound) (value_after (negated_theta) (rising_value p tau c) (is_within bound) (whole (pos 0)) other.rise) (basis_after b other.rise)) base
          more) in
          let empty : length other.fall ≡ 0 = ap length none in
          omega (arith, less, empty, short, count, steps)
      by (inr (risen', more)) =
          let rises : length trail.rise ≡ length other.rise = same_length (negated_theta) (rising_value p tau c) (is_within bound) (whole (pos 0)) (λ t lower h. costs) (whole (pos 0)) basis trail.rise other.rise
          (≤ℚ_refl (whole (pos 0))) u.rose rose risen
          (subst (λ b. HasRisen p tau c bound other b) base risen') in
          let less : length other.fall < length trail.fall = shorter (theta_value) (falling_value p tau c) (is_within bound) (whole (pos 0)) (λ t lower h. costs) basis trail.fall other.fall u.fell fell fallen
          (subst (λ b. HasWalkingStep (theta_value) (falling_value p tau c) (is_within bound) (value_after (theta_value) (falling_value p tau c) (is_within bound) (whole (pos 0)) other.fall) (basis_after b other.fall)) base
          more) in
          omega (arith, less, rises, short, count, steps)
