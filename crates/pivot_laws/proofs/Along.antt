-- What the steps of lawful trails improve, step by step.
use Rattle.std.specs.Prelude.{◌≡◌, ℕ, ◌<◌, Bool, true, List, [], ◌∷◌, slice_index, slice_set, pos}
use Rattle.std.proofs.Common.{sym, subst, ◌∙◌}
use Rattle.std.proofs.lemmas.List.{length-set}
use Rattle.rational_laws.specs.Fraction.{Fraction, rational}
use Rattle.rational_laws.specs.Rational.{ℚ, whole}
use Rattle.rational_laws.specs.Exchange.{exchanged}
use Rattle.loss_model.specs.declared.process.Exchange.{Exchange}
use Rattle.loss_model.specs.declared.process.Trail.{Trail}
use Rattle.loss_model.specs.Sample.{Sample}
use Rattle.basis_model.specs.Basis.{IsBasis}
use Rattle.pivot_model.specs.declared.direction.Direction.{Direction}
use Rattle.pivot_model.specs.Duals.{HasCosts}
use Rattle.pivot_model.specs.Steps.{moves, IsSolvingStep}
use Rattle.pivot_model.specs.Trails.{AtBasis, basis_after, AreSolvingSteps, IsSolvingTrail}
use Rattle.walk_model.specs.Families.{Family, over_quantiles, rising_value, falling_value}
use Rattle.walk_model.specs.Walks.{AreExchanged, IsWalkingStep}
use Rattle.walk_model.specs.WalkTrails.{theta_value, negated_theta, AreWalkingSteps, is_below, is_within, IsProcessTrail, IsIntervalTrail}
use Rattle.walk_model.proofs.Improved.{loss_stays, change_falls, coefficient_moves}
use Rattle.walk_model.proofs.NextRows.{next_basis, next_ends}
use Rattle.walk_model.proofs.Trails.{list_exchanged}
use Rattle.pivot_laws.specs.ImprovingTrails.{Improvement, Along, LowersLoss, LowersChange, RaisesCoefficient, LowersCoefficient}
use Rattle.pivot_laws.proofs.Solving.{loss_falls}

-- where a row that moves takes a position there is a basis again
module _ (p : Sample) (S : (ℕ → ℕ → ℚ) → Type 0) (Q : (ℕ → ℕ → ℚ) → (ℕ → ℕ → ℚ) → Type 0) (basis : List ℕ) (j r : ℕ) where
  abbrev next : List ℕ
  next = slice_set basis j r

  -- a row that moves enters
  abbrev pub Enters : (ℕ → ℕ → ℚ) → Type 0
  Enters a = (d : Direction) × (j < p.columns) × (r < p.rows) × (moves p (slice_index basis) a j d r ≡ true)

  pub stepped : AtBasis p basis S → ((a : ℕ → ℕ → ℚ) → S a → Enters a)
      → ((a b : ℕ → ℕ → ℚ) → IsBasis p (slice_index basis) a → IsBasis p (slice_index next) b → AreExchanged p.columns (slice_index basis) (slice_index next) j r → S a → Q a b)
      → AtBasis p basis (λ a. AtBasis p next (λ b. Q a b))
  stepped h leads gives =
      let into : Enters h.a = leads h.a h.holds in
      let ex : AreExchanged p.columns (slice_index basis) (slice_index next) j r = subst (λ n. AreExchanged n (slice_index basis) (slice_index next) j r) h.size (list_exchanged basis j r) in
      let made : ℕ → ℕ → ℚ = exchanged p.columns h.a j (p.x r) in
      let after : IsBasis p (slice_index next) made = next_basis p (slice_index basis) (slice_index next) h.a j r into.0 h.is_basis into.1 into.2 into.3 ex in
      record {
        size = h.size;
        a = h.a;
        is_basis = h.is_basis;
        ends = h.ends;
        holds = record {
          size = length-set basis j r ∙ h.size;
          a = made;
          is_basis = after;
          ends = next_ends p (slice_index basis) (slice_index next) h.a j r into.0 h.is_basis into.1 into.2 into.3 ex h.ends;
          holds = gives h.a made h.is_basis after ex h.holds;
        };
      }

module _ (p : Sample) where
  -- ---- solving steps

  module _ (theta : ℚ) (costs : HasCosts p theta) where
    pub solved : (Q : (ℕ → ℕ → ℚ) → (ℕ → ℕ → ℚ) → Type 0) (basis : List ℕ) (j r : ℕ) → AtBasis p basis (λ a. IsSolvingStep p (slice_index basis) a theta j r)
        → ((a b : ℕ → ℕ → ℚ) → LowersLoss p theta (slice_index basis) a (slice_index (slice_set basis j r)) b → Q a b)
        → AtBasis p basis (λ a. AtBasis p (slice_set basis j r) (λ b. Q a b))
    solved Q basis j r h gives =
        stepped p (λ a. IsSolvingStep p (slice_index basis) a theta j r) Q basis j r h
        (λ a step. (step.direction, step.leaving.position, step.entering.row, step.entering.mover))
        (λ a b u v ex step. gives a b (loss_falls p (slice_index basis) (slice_index (slice_set basis j r)) a b theta j r step.direction u v ex step.leaving.position step.entering costs))

    -- what follows from it holds of each step
    pub solving_along : (P : Improvement) → ((x : ℚ) (at : ℕ → ℕ) (a : ℕ → ℕ → ℚ) (next : ℕ → ℕ) (b : ℕ → ℕ → ℚ) → x ≡ theta → LowersLoss p theta at a next b → P x at a next b)
        → (basis : List ℕ) (steps : List Exchange) → AreSolvingSteps p theta basis steps → Along p P basis steps
    solving_along P follows basis [] h = tt
    solving_along P follows basis (s ∷ steps) h = (
      solved (λ a b. P (rational s.theta) (slice_index basis) a (slice_index (slice_set basis s.position s.row)) b) basis s.position s.row h.1
          (λ a b less. follows (rational s.theta) (slice_index basis) a (slice_index (slice_set basis s.position s.row)) b h.0 less),
      solving_along P follows (slice_set basis s.position s.row) steps h.2,
    )

    pub loss_along : (basis : List ℕ) (steps : List Exchange) → AreSolvingSteps p theta basis steps → Along p (LowersLoss p) basis steps
    loss_along = solving_along (LowersLoss p) (λ x at a next b e less. subst (λ t. LowersLoss p t at a next b) (sym e) less)

  -- ---- walking steps

  module _ (when : Fraction → ℚ) (f : Family) (reach : ℚ → Bool) where
    pub walked : (Q : (ℕ → ℕ → ℚ) → (ℕ → ℕ → ℚ) → Type 0) (from t : ℚ) (basis : List ℕ) (j r : ℕ) → AtBasis f.sample basis (λ a. IsWalkingStep f (slice_index basis) a reach from t j r)
        → ((a b : ℕ → ℕ → ℚ) → IsBasis f.sample (slice_index basis) a → IsBasis f.sample (slice_index (slice_set basis j r)) b → AreExchanged f.sample.columns (slice_index basis) (slice_index (slice_set basis j r)) j r
        → IsWalkingStep f (slice_index basis) a reach from t j r → Q a b)
        → AtBasis f.sample basis (λ a. AtBasis f.sample (slice_set basis j r) (λ b. Q a b))
    walked Q from t basis j r h gives =
        stepped f.sample (λ a. IsWalkingStep f (slice_index basis) a reach from t j r) Q basis j r h
        (λ a step. (step.direction, step.break.position, step.entering.row, step.entering.mover)) gives

    walking_along : (P : Improvement) → ((x : Fraction) (at next : ℕ → ℕ) (a b : ℕ → ℕ → ℚ) (from : ℚ) (j r : ℕ) → IsBasis f.sample at a → IsBasis f.sample next b → AreExchanged f.sample.columns at next j r
        → IsWalkingStep f at a reach from (when x) j r → P (rational x) at a next b)
        → (from : ℚ) (basis : List ℕ) (steps : List Exchange) → AreWalkingSteps when f reach from basis steps → Along f.sample P basis steps
    walking_along P improves from basis [] h = tt
    walking_along P improves from basis (s ∷ steps) h = (
      walked (λ a b. P (rational s.theta) (slice_index basis) a (slice_index (slice_set basis s.position s.row)) b) from (when s.theta) basis s.position s.row h.0
          (λ a b u v ex step. improves s.theta (slice_index basis) (slice_index (slice_set basis s.position s.row)) a b from s.position s.row u v ex step),
      walking_along P improves (when s.theta) (slice_set basis s.position s.row) steps h.1,
    )

  module _ (reach : ℚ → Bool) where
    pub over_step : (from t : ℚ) (at next : ℕ → ℕ) (a b : ℕ → ℕ → ℚ) (j r : ℕ) → IsBasis p at a → IsBasis p next b → AreExchanged p.columns at next j r
        → IsWalkingStep (over_quantiles p) at a reach from t j r → LowersChange p t at a next b
    over_step from t at next a b j r u v ex step = (
      loss_stays p at next a b j r step.direction u v ex step.break.position step.entering t step.break.crosses.meets,
      change_falls p at next a b j r step.direction u v ex step.break.position step.entering t step.break.crosses,
    )

    pub quantiles_along : (from : ℚ) (basis : List ℕ) (steps : List Exchange) → AreWalkingSteps theta_value (over_quantiles p) reach from basis steps → Along p (LowersChange p) basis steps
    quantiles_along =
        walking_along theta_value (over_quantiles p) reach (LowersChange p)
        (λ x at next a b from j r u v ex step. over_step from (rational x) at next a b j r u v ex step)

    module _ (tau : ℚ) (c : ℕ) (lc : c < p.columns) where
      pub rise_step : (from t : ℚ) (at next : ℕ → ℕ) (a b : ℕ → ℕ → ℚ) (j r : ℕ) → IsBasis p at a → IsBasis p next b → AreExchanged p.columns at next j r
          → IsWalkingStep (rising_value p tau c) at a reach from t j r → RaisesCoefficient p c t at a next b
      rise_step from t at next a b j r u v ex step =
          (coefficient_moves p at next a b j r step.direction u v ex step.break.position step.entering c lc tau t).0 step.break.crosses

      pub fall_step : (from t : ℚ) (at next : ℕ → ℕ) (a b : ℕ → ℕ → ℚ) (j r : ℕ) → IsBasis p at a → IsBasis p next b → AreExchanged p.columns at next j r
          → IsWalkingStep (falling_value p tau c) at a reach from t j r → LowersCoefficient p c t at a next b
      fall_step from t at next a b j r u v ex step =
          (coefficient_moves p at next a b j r step.direction u v ex step.break.position step.entering c lc tau t).1 step.break.crosses

      pub rising_along : (from : ℚ) (basis : List ℕ) (steps : List Exchange) → AreWalkingSteps negated_theta (rising_value p tau c) reach from basis steps → Along p (RaisesCoefficient p c) basis steps
      rising_along =
          walking_along negated_theta (rising_value p tau c) reach (RaisesCoefficient p c)
          (λ x at next a b from j r u v ex step. rise_step from (negated_theta x) at next a b j r u v ex step)

      pub falling_along : (from : ℚ) (basis : List ℕ) (steps : List Exchange) → AreWalkingSteps theta_value (falling_value p tau c) reach from basis steps → Along p (LowersCoefficient p c) basis steps
      falling_along =
          walking_along theta_value (falling_value p tau c) reach (LowersCoefficient p c)
          (λ x at next a b from j r u v ex step. fall_step from (theta_value x) at next a b j r u v ex step)

  -- ---- the trails

  pub solve_improves : (theta : ℚ) (trail : Trail) (basis : List ℕ) → HasCosts p theta → (u : IsSolvingTrail p theta trail basis) → Along p (LowersLoss p) u.first trail.steps
  solve_improves theta trail basis costs u = loss_along theta costs u.first trail.steps u.lawful

  pub process_improves : (lo hi now : ℚ) (trail : Trail) (basis : List ℕ) → HasCosts p lo → (u : IsProcessTrail p lo hi trail basis now)
      → Along p (LowersLoss p) u.first u.solving × Along p (LowersChange p) (basis_after u.first u.solving) u.walking
  process_improves lo hi now trail basis costs u =
      (loss_along lo costs u.first u.solving u.solved, quantiles_along (is_below hi) lo (basis_after u.first u.solving) u.walking u.walked)

  pub interval_improves : (tau : ℚ) (c : ℕ) (bound : ℚ) (trail : Trail) (basis : List ℕ) → HasCosts p tau → c < p.columns → (u : IsIntervalTrail p tau c bound trail basis)
      → Along p (LowersLoss p) u.first trail.steps × Along p (RaisesCoefficient p c) basis trail.rise × Along p (LowersCoefficient p c) basis trail.fall
  interval_improves tau c bound trail basis costs lc u = (
    loss_along tau costs u.first trail.steps u.solved,
    rising_along (is_within bound) tau c lc (whole (pos 0)) basis trail.rise u.rose,
    falling_along (is_within bound) tau c lc (whole (pos 0)) basis trail.fall u.fell,
  )
