-- Stated. Dual values of a quantile regression as a linear program (Koenker 2005, chapter 6), and the
-- rankscores that they give (Gutenbrunner and Jurečková 1992).
use Rattle.std.specs.Prelude.{◌≡◌, ℕ, ◌+◌, ◌<◌, pos}
use Rattle.std.specs.declared.cmp.Ordering.TheVariants.{Less}
use Rattle.rational_laws.specs.Rational.{ℚ, ◌+ℚ◌, ◌-ℚ◌, ◌*ℚ◌, neg_ℚ, inverse, whole, ◌≤ℚ◌}
use Rattle.rational_laws.specs.RationalSums.{sum_ℚ}
use Rattle.rational_laws.specs.Order.{cmp_ℚ}
use Rattle.loss_model.specs.Sample.{Sample, up_cost, down_cost, loss}

-- the values e are within the costs, and orthogonal to every column
pub record IsFeasible (p : Sample) (theta : ℚ) (e : ℕ → ℚ) : Type 0 where
  pub lower : (i : ℕ) → i < p.rows → neg_ℚ (down_cost p theta i) ≤ℚ e i
  pub upper : (i : ℕ) → i < p.rows → e i ≤ℚ up_cost p theta i
  pub balanced : (k : ℕ) → k < p.columns → sum_ℚ p.rows (λ i. e i *ℚ p.x i k) ≡ whole (pos 0)

-- the sum of response times dual value, which bounds every loss from below
abbrev pub dual_objective : Sample → (ℕ → ℚ) → ℚ
dual_objective p e = sum_ℚ p.rows (λ i. p.y i *ℚ e i)

-- e is feasible, and its objective is what the coefficients b lose
pub record IsDual (p : Sample) (theta : ℚ) (b e : ℕ → ℚ) : Type 0 where
  pub feasible : IsFeasible p theta e
  pub equal : loss p theta b ≡ dual_objective p e

-- (m*a + n*b) / (m + n)
abbrev pub mix : ℕ → ℕ → ℚ → ℚ → ℚ
mix m n a b = ((whole (pos m) *ℚ a) +ℚ (whole (pos n) *ℚ b)) *ℚ inverse (whole (pos (m + n)))

-- row i is an observation of weight up1 i, and no penalty
pub record IsDataRow (p : Sample) (i : ℕ) : Type 0 where
  pub weighted : cmp_ℚ (whole (pos 0)) (p.up1 i) ≡ Less
  pub up0 : p.up0 i ≡ whole (pos 0)
  pub down0 : p.down0 i ≡ p.up1 i
  pub down1 : p.down1 i ≡ neg_ℚ (p.up1 i)

-- the rankscore of a data row: its dual value over its weight, plus 1, minus the quantile
abbrev pub rankscore : Sample → ℚ → (ℕ → ℚ) → ℕ → ℚ
rankscore p theta e i = ((e i *ℚ inverse (p.up1 i)) +ℚ whole (pos 1)) -ℚ theta
