-- No basis comes twice in a walk: what a step improves depends on the rows of the basis alone.
use Rattle.std.specs.Prelude.{◌≡◌, ℕ, suc, ◌<◌, Bool, List, [], ◌∷◌, length, slice_index, slice_set}
use Rattle.std.specs.declared.cmp.Ordering.TheVariants.{Less}
use Rattle.std.proofs.Common.{refl, sym, ap, subst, ◌∙◌}
use Rattle.std.proofs.lemmas.List.{length-set}
use Rattle.rational_laws.specs.Fraction.{Fraction}
use Rattle.rational_laws.specs.Solver.{negated, ◌⊟◌, v0, v1}
use Rattle.rational_laws.specs.Rational.{ℚ, neg_ℚ}
use Rattle.rational_laws.proofs.RationalLaws.{ring_ℚ}
use Rattle.rational_laws.specs.Selections.{is_among}
use Rattle.rational_laws.specs.Exchange.{exchanged}
use Rattle.loss_model.specs.declared.process.Exchange.{Exchange}
use Rattle.loss_model.specs.Sample.{Sample}
use Rattle.pivot_model.specs.Lexicographic.{lex_cmp}
use Rattle.pivot_model.proofs.LexicographicLaws.{lex_cmp-Equal, less-trans}
use Rattle.pivot_model.specs.Basis.{IsBasis}
use Rattle.pivot_model.specs.Trails.{EndsAt, basis_after}
use Rattle.pivot_model.proofs.Unique.{same_inverse}
use Rattle.walk_model.specs.Families.{Family, over_quantiles, rising_value, falling_value}
use Rattle.walk_model.specs.Walks.{AreExchanged, IsWalkingStep}
use Rattle.walk_model.specs.WalkTrails.{AreWalkingSteps}
use Rattle.pivot_model.specs.PerturbedLoss.{change_list, perturbed_coefficient}
use Rattle.walk_model.proofs.Lists.{cmp_by, lex_cmp-by}
use Rattle.walk_model.proofs.Improved.{change_falls, coefficient_moves}
use Rattle.walk_model.proofs.Alike.{sum_same, coefficient_same}
use Rattle.walk_model.proofs.NextBasis.{next_basis, next_ends}
use Rattle.walk_model.proofs.Trails.{list_exchanged}

-- ---- walks

-- a list over all rows of a problem, at a basis
module _ (when : Fraction → ℚ) (f : Family) (reach : ℚ → Bool) (measure : (ℕ → ℕ) → (ℕ → ℕ → ℚ) → ℕ → ℚ)
    (lowers : (at next : ℕ → ℕ) (a b : ℕ → ℕ → ℚ) (from t : ℚ) (j r : ℕ) → IsBasis f.sample at a → IsBasis f.sample next b → AreExchanged f.sample.columns at next j r
    → IsWalkingStep f at a reach from t j r → lex_cmp (suc f.sample.rows) (measure next b) (measure at a) ≡ Less) where
  -- the measure after a walk with a step is less than before
  moved_on : (from : ℚ) (basis : List ℕ) (x : Exchange) (steps : List Exchange) (a b : ℕ → ℕ → ℚ) → length basis ≡ f.sample.columns
      → IsBasis f.sample (slice_index basis) a → EndsAt f.sample.columns a
      → IsBasis f.sample (slice_index (basis_after basis (x ∷ steps))) b → EndsAt f.sample.columns b
      → AreWalkingSteps when f reach from basis (x ∷ steps)
      → lex_cmp (suc f.sample.rows) (measure (slice_index (basis_after basis (x ∷ steps))) b) (measure (slice_index basis) a) ≡ Less
  moved_on from basis x [] a b size u e v g walk =
      lowers (slice_index basis) (slice_index (slice_set basis x.position x.row)) a b from (when x.theta) x.position x.row u v
      (subst (λ n. AreExchanged n (slice_index basis) (slice_index (slice_set basis x.position x.row)) x.position x.row) size (list_exchanged basis x.position x.row))
      (subst (λ a. IsWalkingStep f (slice_index basis) a reach from (when x.theta) x.position x.row) (same_inverse f.sample (slice_index basis) walk.0.a a walk.0.is_basis u walk.0.ends e) walk.0.holds)
  moved_on from basis x (y ∷ steps) a b size u e v g walk =
      let next : List ℕ = slice_set basis x.position x.row in
      let step : IsWalkingStep f (slice_index basis) a reach from (when x.theta) x.position x.row =
      subst (λ a. IsWalkingStep f (slice_index basis) a reach from (when x.theta) x.position x.row) (same_inverse f.sample (slice_index basis) walk.0.a a walk.0.is_basis u walk.0.ends e) walk.0.holds in
      let ex : AreExchanged f.sample.columns (slice_index basis) (slice_index next) x.position x.row = subst (λ n. AreExchanged n (slice_index basis) (slice_index next) x.position x.row) size (list_exchanged basis x.position x.row) in
      let made : ℕ → ℕ → ℚ = exchanged f.sample.columns a x.position (f.sample.x x.row) in
      let isb : IsBasis f.sample (slice_index next) made = next_basis f.sample (slice_index basis) (slice_index next) a x.position x.row step.direction u step.break.position step.entering ex in
      let ends : EndsAt f.sample.columns made = next_ends f.sample (slice_index basis) (slice_index next) a x.position x.row step.direction u step.break.position step.entering ex e in
      less-trans (suc f.sample.rows) (measure (slice_index (basis_after next (y ∷ steps))) b) (measure (slice_index next) made) (measure (slice_index basis) a)
      (moved_on (when x.theta) next y steps made b (length-set basis x.position x.row ∙ size) isb ends v g walk.1)
      (lowers (slice_index basis) (slice_index next) a made from (when x.theta) x.position x.row u isb ex step)

  none_twice : ((at next : ℕ → ℕ) (a b : ℕ → ℕ → ℚ) → IsBasis f.sample at a → IsBasis f.sample next b → ((i : ℕ) → is_among next f.sample.columns i ≡ is_among at f.sample.columns i) → (m : ℕ) → measure next b m ≡ measure at a m)
      → (from : ℚ) (basis : List ℕ) (x : Exchange) (steps : List Exchange) (a b : ℕ → ℕ → ℚ) → length basis ≡ f.sample.columns
      → IsBasis f.sample (slice_index basis) a → EndsAt f.sample.columns a
      → IsBasis f.sample (slice_index (basis_after basis (x ∷ steps))) b → EndsAt f.sample.columns b
      → AreWalkingSteps when f reach from basis (x ∷ steps)
      → ¬ ((i : ℕ) → is_among (slice_index (basis_after basis (x ∷ steps))) f.sample.columns i ≡ is_among (slice_index basis) f.sample.columns i)
  none_twice alike from basis x steps a b size u e v g walk same =
      absurd (cc (sym (lex_cmp-Equal (suc f.sample.rows) (measure (slice_index (basis_after basis (x ∷ steps))) b) (measure (slice_index basis) a)
      (λ m lm. alike (slice_index basis) (slice_index (basis_after basis (x ∷ steps))) a b u v same m))
      ∙ moved_on from basis x steps a b size u e v g walk))

module _ (when : Fraction → ℚ) (p : Sample) (reach : ℚ → Bool) where
  pub none_twice_over_quantiles : (from : ℚ) (basis : List ℕ) (x : Exchange) (steps : List Exchange) (a b : ℕ → ℕ → ℚ) → length basis ≡ p.columns
      → IsBasis p (slice_index basis) a → EndsAt p.columns a → IsBasis p (slice_index (basis_after basis (x ∷ steps))) b → EndsAt p.columns b
      → AreWalkingSteps when (over_quantiles p) reach from basis (x ∷ steps)
      → ¬ ((i : ℕ) → is_among (slice_index (basis_after basis (x ∷ steps))) p.columns i ≡ is_among (slice_index basis) p.columns i)
  none_twice_over_quantiles =
      none_twice when (over_quantiles p) reach (change_list p)
      (λ at next a b from t j r u v ex step. change_falls p at next a b j r step.direction u v ex step.break.position step.entering t step.break.crosses)
      (λ at next a b u v same. sum_same p at next a b u v same p.up1 p.down1)

  module _ (tau : ℚ) (c : ℕ) (lc : c < p.columns) where
    pub none_twice_falling : (from : ℚ) (basis : List ℕ) (x : Exchange) (steps : List Exchange) (a b : ℕ → ℕ → ℚ) → length basis ≡ p.columns
        → IsBasis p (slice_index basis) a → EndsAt p.columns a → IsBasis p (slice_index (basis_after basis (x ∷ steps))) b → EndsAt p.columns b
        → AreWalkingSteps when (falling_value p tau c) reach from basis (x ∷ steps)
        → ¬ ((i : ℕ) → is_among (slice_index (basis_after basis (x ∷ steps))) p.columns i ≡ is_among (slice_index basis) p.columns i)
    none_twice_falling =
        none_twice when (falling_value p tau c) reach (λ at a. perturbed_coefficient p at a c)
        (λ at next a b from t j r u v ex step. (coefficient_moves p at next a b j r step.direction u v ex step.break.position step.entering c lc tau t).1 step.break.crosses)
        (λ at next a b u v same. coefficient_same p at next a b u v same c lc)

    -- the negated coefficient, for the walk in which it rises
    abbrev negated_coefficient : (ℕ → ℕ) → (ℕ → ℕ → ℚ) → ℕ → ℚ
    negated_coefficient at a m = neg_ℚ (perturbed_coefficient p at a c m)

    pub none_twice_rising : (from : ℚ) (basis : List ℕ) (x : Exchange) (steps : List Exchange) (a b : ℕ → ℕ → ℚ) → length basis ≡ p.columns
        → IsBasis p (slice_index basis) a → EndsAt p.columns a → IsBasis p (slice_index (basis_after basis (x ∷ steps))) b → EndsAt p.columns b
        → AreWalkingSteps when (rising_value p tau c) reach from basis (x ∷ steps)
        → ¬ ((i : ℕ) → is_among (slice_index (basis_after basis (x ∷ steps))) p.columns i ≡ is_among (slice_index basis) p.columns i)
    none_twice_rising =
        none_twice when (rising_value p tau c) reach negated_coefficient
        (λ at next a b from t j r u v ex step.
        lex_cmp-by (suc p.rows) (negated_coefficient next b) (negated_coefficient at a) (perturbed_coefficient p at a c) (perturbed_coefficient p next b c)
        (λ m. cmp_by (negated_coefficient next b m) (negated_coefficient at a m) (perturbed_coefficient p at a c m) (perturbed_coefficient p next b c m)
        (ring_ℚ (perturbed_coefficient p at a c m ∷ perturbed_coefficient p next b c m ∷ []) (negated v0 ⊟ negated v1) (v1 ⊟ v0) refl))
        ∙ (coefficient_moves p at next a b j r step.direction u v ex step.break.position step.entering c lc tau t).0 step.break.crosses)
        (λ at next a b u v same m. ap neg_ℚ (coefficient_same p at next a b u v same c lc m))
