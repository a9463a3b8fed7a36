-- Why an interval stops, by the part that stopped.
use Rattle.std.specs.Prelude.{◌<◌, ℕ}
use Rattle.std.proofs.Common.{refl, inl, inr}
use Rattle.rational_laws.specs.Fraction.{Fraction}
use Rattle.rational_laws.specs.Rational.{ℚ}
use Rattle.loss_model.specs.declared.problem.Problem.{Problem}
use Rattle.loss_model.specs.declared.stop.Stop.{Stop}
use Rattle.loss_model.specs.declared.stop.Stop.TheVariants.{OutOfMemory, PivotLimit, Overflow, Dependent}
use Rattle.loss_model.specs.Problem.{sample}
use Rattle.basis_inverse.specs.Square.{Square, inverse_entry}
use Rattle.rank_model.specs.Gram.{projection_of}
use Rattle.rank_model.specs.Restricted.{squared_length, rank_bound}
use Rattle.rank_model.proofs.Grams.{projects}
use Rattle.br_pivot.specs.Solves.{IsSolveStop}
use Rattle.rank_inversion.specs.Grams.{IsGramInverse}
use Rattle.rank_inversion.specs.GramStops.{IsGramStop, IsTestStop}
use Rattle.rank_inversion.specs.Stops.{IsBound, IsWalkStop, IsIntervalStop}

module _ {F : Type 0} (value : F → Fraction) (p : Problem F) (j : ℕ) (tau crit : ℚ) where
  -- by the inverse of the Gram matrix there is a bound
  pub bound_there : (s : Square F) → IsGramInverse value p s → j < p.columns → (bound : ℚ) × IsBound value p j tau crit bound
  bound_there s h lj = (
    rank_bound tau crit (squared_length (sample value p) j (projection_of (inverse_entry value s) j)),
    (projection_of (inverse_entry value s) j, (projects (sample value p) j (inverse_entry value s) lj h.inverse).0, refl),
  )

  module _ (range limit : ℕ) where
    -- an interval stops for what stops the inverse of the Gram matrix
    pub by_gram : (stop : Stop F) → IsGramStop value range p stop → IsIntervalStop value range p j tau crit limit stop
    by_gram OutOfMemory h = tt
    by_gram (PivotLimit shown trail) h = absurd h
    by_gram (Overflow trail s) (inl h) = inl h
    by_gram (Overflow trail s) (inr h) = inr (inr (inl h))
    by_gram (Dependent combination) h = h

    -- the test of its column
    pub by_test : (stop : Stop F) → IsTestStop value range p j tau crit stop → IsIntervalStop value range p j tau crit limit stop
    by_test OutOfMemory h = tt
    by_test (PivotLimit shown trail) h = absurd h
    by_test (Overflow trail s) h = inr (inl h)
    by_test (Dependent combination) h = absurd h

    -- the solve at its quantile
    pub by_solve : (bound : ℚ) → IsBound value p j tau crit bound → (stop : Stop F) → IsSolveStop value range p tau limit stop → IsIntervalStop value range p j tau crit limit stop
    by_solve bound is OutOfMemory h = tt
    by_solve bound is (PivotLimit shown trail) h = (h.0, (bound, is, inl h.1))
    by_solve bound is (Overflow trail s) (inl h) = inr (inr (inl h))
    by_solve bound is (Overflow trail s) (inr h) = inr (inr (inr (inl h)))
    by_solve bound is (Dependent combination) h = h

    -- or one of its walks
    pub by_walks : (stop : Stop F) → IsWalkStop value range p j tau crit limit stop → IsIntervalStop value range p j tau crit limit stop
    by_walks OutOfMemory h = tt
    by_walks (PivotLimit shown trail) h = h
    by_walks (Overflow trail s) h = inr (inr (inr (inr h)))
    by_walks (Dependent combination) h = absurd h
