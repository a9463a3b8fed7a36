-- Stated. A linear quantile regression in fractions, and its check loss (Koenker 2005, chapter 1).
use Rattle.std.specs.Prelude.{ℕ}
use Rattle.rational_laws.specs.Rational.{ℚ, ◌+ℚ◌, ◌-ℚ◌, ◌*ℚ◌, ◌≤ℚ◌}
use Rattle.rational_laws.specs.RationalSums.{sum_ℚ, positive_ℚ, negative_ℚ}

-- row i has the entries x i k and the response y i; at theta a unit of its residual costs
-- up0 i + up1 i * theta where it is positive, and down0 i + down1 i * theta where it is negative
pub record Sample : Type 0 where
  pub rows : ℕ
  pub columns : ℕ
  pub x : ℕ → ℕ → ℚ
  pub y : ℕ → ℚ
  pub up0 : ℕ → ℚ
  pub up1 : ℕ → ℚ
  pub down0 : ℕ → ℚ
  pub down1 : ℕ → ℚ

-- the cost of a unit of positive residual at theta
abbrev pub up_cost : Sample → ℚ → ℕ → ℚ
up_cost p theta i = p.up0 i +ℚ (p.up1 i *ℚ theta)

-- the cost of a unit of negative residual at theta
abbrev pub down_cost : Sample → ℚ → ℕ → ℚ
down_cost p theta i = p.down0 i +ℚ (p.down1 i *ℚ theta)

-- what the coefficients b predict for row i
abbrev pub fitted : Sample → (ℕ → ℚ) → ℕ → ℚ
fitted p b i = sum_ℚ p.columns (λ k. p.x i k *ℚ b k)

-- the response of row i minus what is predicted for it
abbrev pub residual : Sample → (ℕ → ℚ) → ℕ → ℚ
residual p b i = p.y i -ℚ fitted p b i

-- the check loss of row i, with its weight and penalty in its costs
abbrev pub row_loss : Sample → ℚ → (ℕ → ℚ) → ℕ → ℚ
row_loss p theta b i =
    let r = residual p b i in
    (up_cost p theta i *ℚ positive_ℚ r) +ℚ (down_cost p theta i *ℚ negative_ℚ r)

-- the check loss of the coefficients: the sum over all rows
abbrev pub loss : Sample → ℚ → (ℕ → ℚ) → ℚ
loss p theta b = sum_ℚ p.rows (row_loss p theta b)

-- b is a regression quantile at theta: no coefficients lose less
abbrev pub Minimises : Sample → ℚ → (ℕ → ℚ) → Type 0
Minimises p theta b = (other : ℕ → ℚ) → loss p theta b ≤ℚ loss p theta other
