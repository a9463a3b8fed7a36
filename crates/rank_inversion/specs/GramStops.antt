-- Stated. Why a column isn't tested: the trail before the solve, and the operation that overflows there.
use Rattle.std.specs.Prelude.{◌≡◌, ◌⊎◌, ℕ, List, [], ◌∷◌, map, Some, pos}
use Rattle.rational_laws.specs.Fraction.{Fraction}
use Rattle.rational_laws.specs.Rational.{ℚ, ◌-ℚ◌, ◌*ℚ◌, inverse, whole}
use Rattle.rational_laws.specs.Matrices.{AreInverse}
use Rattle.loss_model.specs.declared.problem.Problem.{Problem}
use Rattle.loss_model.specs.declared.process.Trail.{Trail}
use Rattle.loss_model.specs.declared.spill.Quantity.TheVariants.{Statistic}
use Rattle.loss_model.specs.declared.spill.Spill.{Spill}
use Rattle.loss_model.specs.declared.stop.Stop.{Stop}
use Rattle.loss_model.specs.declared.stop.Stop.TheVariants.{OutOfMemory, PivotLimit, Overflow, Dependent}
use Rattle.loss_model.specs.Problem.{sample}
use Rattle.loss_model.specs.Greedy.{IsGreedyBasis}
use Rattle.loss_model.specs.Spill.{IsAmong, multiplication, subtraction, site_of}
use Rattle.loss_model.specs.StartStop.{IsStartSpill, IsDependent}
use Rattle.rank_model.specs.Gram.{gram, IsGramOf}
pub use Rattle.gram_matrix.specs.Grams.{IsEmptyTrail, IsGramSpillAfter}
use Rattle.rank_inversion.specs.Grams.{IsGramInverse, IsProjectingSpill}
use Rattle.rank_inversion.specs.declared.gram.GramInverse.{GramInverse}

module _ {F : Type 0} (value : F → Fraction) (p : Problem F) where
  -- these are the rows of the greedy start of a problem whose rows are those of the Gram matrix
  abbrev pub IsGramBasis : List ℕ → Type 0
  IsGramBasis basis = (g : Problem F) × IsGramOf (sample value p) (sample value g) × IsGreedyBasis (sample value g) basis

  -- the inverse is that of the Gram matrix, by this start
  pub record IsInverted (g : GramInverse F) : Type 0 where
    pub start : IsGramBasis g.basis.rows
    pub inverse : IsGramInverse value p g.inverse

  -- the trail is that start, without a step
  pub record IsGramTrail (trail : Trail) : Type 0 where
    pub basis : List ℕ
    pub begins : trail.start ≡ map Some basis
    pub start : IsGramBasis basis
    pub steps : trail.steps ≡ []
    pub rise : trail.rise ≡ []
    pub fall : trail.fall ≡ []

module _ {F : Type 0} (value : F → Fraction) (range : ℕ) (p : Problem F) where
  -- why no inverse of the Gram matrix is made: an operation that overflows, there or, where the columns are
  -- dependent, in the start of the problem
  abbrev pub IsGramStop : Stop F → Type 0
  IsGramStop OutOfMemory = Unit {0}
  IsGramStop (PivotLimit limit trail) = ⊥
  IsGramStop (Overflow trail s) = IsGramSpillAfter value range p trail s ⊎ IsStartSpill value range p trail s
  IsGramStop (Dependent combination) = IsDependent value p combination

-- the bound on the squared statistic, by its operations: the critical value times tau, 1 - tau, the
-- product of both, and that times the squared length q
abbrev pub IsBoundSpill : {F : Type 0} → (F → Fraction) → ℕ → ℚ → ℚ → ℚ → Spill F → Type 0
IsBoundSpill value range tau crit q s =
    IsAmong value range (site_of Statistic 1 0 0) 1
    (multiplication crit tau ∷ subtraction (whole (pos 1)) tau ∷ multiplication (crit *ℚ tau) (whole (pos 1) -ℚ tau)
    ∷ multiplication ((crit *ℚ tau) *ℚ (whole (pos 1) -ℚ tau)) q ∷ []) s

module _ {F : Type 0} (value : F → Fraction) (range : ℕ) (p : Problem F) (j : ℕ) (tau crit : ℚ) where
  -- an operation of the projection of column j, or of the bound
  abbrev pub IsTestSpill : Spill F → Type 0
  IsTestSpill s =
      (a : ℕ → ℕ → ℚ) × AreInverse p.columns (gram (sample value p)) a
      × (IsProjectingSpill value range p.columns a j s ⊎ IsBoundSpill value range tau crit (inverse (a j j)) s)

  -- with the start of the Gram rows
  pub record IsTestSpillAfter (trail : Trail) (s : Spill F) : Type 0 where
    pub start : IsGramTrail value p trail
    pub here : IsTestSpill s

  -- why column j isn't tested
  abbrev pub IsTestStop : Stop F → Type 0
  IsTestStop OutOfMemory = Unit {0}
  IsTestStop (Overflow trail s) = IsTestSpillAfter trail s
  IsTestStop _ = ⊥
