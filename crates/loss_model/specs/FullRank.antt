-- Stated. Full rank: the columns of a problem are independent.
use Rattle.std.specs.Prelude.{◌≡◌, ◌≢◌, ℕ, ◌<◌, pos}
use Rattle.rational_laws.specs.Rational.{ℚ, whole}
use Rattle.loss_model.specs.Sample.{Sample, fitted}

-- no factors of the columns but zeros give 0 in every row
abbrev pub HasFullRank : Sample → Type 0
HasFullRank p =
    (b : ℕ → ℚ) → ((i : ℕ) → i < p.rows → fitted p b i ≡ whole (pos 0)) → (k : ℕ) → k < p.columns → b k ≡ whole (pos 0)

-- the factors b, which are not all 0, give 0 in every row
pub record IsDependence (p : Sample) (b : ℕ → ℚ) : Type 0 where
  pub column : ℕ
  pub within : column < p.columns
  pub some : b column ≢ whole (pos 0)
  pub zero : (i : ℕ) → i < p.rows → fitted p b i ≡ whole (pos 0)

-- a dependence shows that the rank is not full
abbrev pub DependenceRefutes : Type 0
DependenceRefutes = (p : Sample) (b : ℕ → ℚ) → IsDependence p b → ¬ HasFullRank p
