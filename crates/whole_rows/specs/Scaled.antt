-- Inner. A problem whose columns, responses and costs are multiplied by factors, one for each column and one each
-- for all responses and all costs.
use Rattle.std.specs.Prelude.{◌≡◌, ℕ, ◌<◌}
use Rattle.rational_laws.specs.Rational.{ℚ, ◌*ℚ◌}
use Rattle.loss_model.specs.Sample.{Sample}

-- q is p with column k times s k, the responses times ly, and the costs times lc
pub record IsScaled (p q : Sample) (s : ℕ → ℚ) (ly lc : ℚ) : Type 0 where
  pub rows : q.rows ≡ p.rows
  pub columns : q.columns ≡ p.columns
  pub x : (i k : ℕ) → i < p.rows → k < p.columns → q.x i k ≡ s k *ℚ p.x i k
  pub y : (i : ℕ) → i < p.rows → q.y i ≡ ly *ℚ p.y i
  pub up0 : (i : ℕ) → i < p.rows → q.up0 i ≡ lc *ℚ p.up0 i
  pub up1 : (i : ℕ) → i < p.rows → q.up1 i ≡ lc *ℚ p.up1 i
  pub down0 : (i : ℕ) → i < p.rows → q.down0 i ≡ lc *ℚ p.down0 i
  pub down1 : (i : ℕ) → i < p.rows → q.down1 i ≡ lc *ℚ p.down1 i

-- the inverse of the rows, from that of the scaled ones
abbrev pub unscaled : (ℕ → ℚ) → (ℕ → ℕ → ℚ) → ℕ → ℕ → ℚ
unscaled s a k j = s k *ℚ a k j
