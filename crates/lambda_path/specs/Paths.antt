-- Stated. The path in lambda: the check loss at one quantile (Koenker 2005, chapter 1), plus lambda times the sum of the
-- absolute coefficients from column `first` on (the lasso penalty of Koenker 2005, section 4.9), as a problem whose costs
-- depend on lambda.
use Rattle.std.specs.Prelude.{◌≡◌, ℕ, ◌+◌, ◌-◌, ◌<◌, pos}
use Rattle.rational_laws.specs.Rational.{ℚ, ◌+ℚ◌, ◌-ℚ◌, ◌*ℚ◌, whole}
use Rattle.rational_laws.specs.RationalSums.{sum_ℚ, positive_ℚ, negative_ℚ}
use Rattle.rational_laws.specs.Terms.{delta}
use Rattle.loss_model.specs.Sample.{Sample, residual}
use Rattle.loss_model.specs.Spill.{abs_ℚ}

-- the check loss of a residual at tau: tau times it above the fit, and 1 - tau times it below
abbrev pub check_loss : ℚ → ℚ → ℚ
check_loss tau r = (tau *ℚ positive_ℚ r) +ℚ ((whole (pos 1) -ℚ tau) *ℚ negative_ℚ r)

-- the weights times the check losses of the rows, added
abbrev pub data_loss : Sample → ℚ → (ℕ → ℚ) → ℚ
data_loss p tau b = sum_ℚ p.rows (λ i. p.up1 i *ℚ check_loss tau (residual p b i))

-- the sum of the absolute coefficients from column `first` on
abbrev pub absolute_sum : Sample → ℕ → (ℕ → ℚ) → ℚ
absolute_sum p first b = sum_ℚ (p.columns - first) (λ m. abs_ℚ (b (first + m)))

-- what the coefficients lose at lambda
abbrev pub path_loss : Sample → ℕ → ℚ → ℚ → (ℕ → ℚ) → ℚ
path_loss p first tau lambda b = data_loss p tau b +ℚ (lambda *ℚ absolute_sum p first b)

-- the rows of q are those of p, which cost their weights times tau above the fit and their weights times 1 - tau below it,
-- and then one for each column from the first on, whose coefficient costs lambda on both sides
pub record IsPathOf (p : Sample) (first : ℕ) (tau : ℚ) (q : Sample) : Type 0 where
  pub columns : q.columns ≡ p.columns
  pub rows : q.rows ≡ p.rows + (p.columns - first)
  pub data_x : (i k : ℕ) → i < p.rows → k < p.columns → q.x i k ≡ p.x i k
  pub data_y : (i : ℕ) → i < p.rows → q.y i ≡ p.y i
  pub data_up0 : (i : ℕ) → i < p.rows → q.up0 i ≡ p.up1 i *ℚ tau
  pub data_up1 : (i : ℕ) → i < p.rows → q.up1 i ≡ whole (pos 0)
  pub data_down0 : (i : ℕ) → i < p.rows → q.down0 i ≡ p.up1 i *ℚ (whole (pos 1) -ℚ tau)
  pub data_down1 : (i : ℕ) → i < p.rows → q.down1 i ≡ whole (pos 0)
  pub penalty_x : (m k : ℕ) → m < p.columns - first → k < p.columns → q.x (p.rows + m) k ≡ delta (first + m) k
  pub penalty_y : (m : ℕ) → m < p.columns - first → q.y (p.rows + m) ≡ whole (pos 0)
  pub penalty_up0 : (m : ℕ) → m < p.columns - first → q.up0 (p.rows + m) ≡ whole (pos 0)
  pub penalty_up1 : (m : ℕ) → m < p.columns - first → q.up1 (p.rows + m) ≡ whole (pos 1)
  pub penalty_down0 : (m : ℕ) → m < p.columns - first → q.down0 (p.rows + m) ≡ whole (pos 0)
  pub penalty_down1 : (m : ℕ) → m < p.columns - first → q.down1 (p.rows + m) ≡ whole (pos 1)
