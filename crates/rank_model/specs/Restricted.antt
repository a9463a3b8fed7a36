-- Stated. The inversion of a rank test (Koenker 2005, section 3.5; Gutenbrunner, Jurečková, Koenker and
-- Portnoy 1993): a value xi of coefficient j is tested by the dual values of the fit of the other columns
-- to the responses y - x_j * xi, which is the restricted problem. tau is the quantile, crit the critical
-- value, and the weight of row i is up1 i.
use Rattle.std.specs.Prelude.{◌≡◌, ◌≢◌, ℕ, ◌<◌, pos}
use Rattle.rational_laws.specs.Rational.{ℚ, ◌-ℚ◌, ◌*ℚ◌, neg_ℚ, whole, ◌≤ℚ◌}
use Rattle.rational_laws.specs.RationalSums.{sum_ℚ}
use Rattle.loss_model.specs.Sample.{Sample, up_cost, down_cost, fitted}

-- what the values e weigh in column k
abbrev pub column_sum : Sample → (ℕ → ℚ) → ℕ → ℚ
column_sum p e k = sum_ℚ p.rows (λ i. e i *ℚ p.x i k)

-- the values e are within the costs, and orthogonal to every column but j
pub record IsFeasibleWithout (p : Sample) (j : ℕ) (theta : ℚ) (e : ℕ → ℚ) : Type 0 where
  pub lower : (i : ℕ) → i < p.rows → neg_ℚ (down_cost p theta i) ≤ℚ e i
  pub upper : (i : ℕ) → i < p.rows → e i ≤ℚ up_cost p theta i
  pub balanced : (k : ℕ) → k < p.columns → k ≢ j → column_sum p e k ≡ whole (pos 0)

-- the sum that is maximised: the values times the responses that are left where coefficient j is xi
abbrev pub restricted_objective : Sample → ℕ → ℚ → (ℕ → ℚ) → ℚ
restricted_objective p j xi e = sum_ℚ p.rows (λ i. (p.y i -ℚ (p.x i j *ℚ xi)) *ℚ e i)

-- the values e are feasible, and no feasible ones have a greater sum
pub record IsOptimalAt (p : Sample) (j : ℕ) (theta xi : ℚ) (e : ℕ → ℚ) : Type 0 where
  pub feasible : IsFeasibleWithout p j theta e
  pub greatest : (f : ℕ → ℚ) → IsFeasibleWithout p j theta f → restricted_objective p j xi f ≤ℚ restricted_objective p j xi e

-- the rank score statistic of column j, before it is scaled: what the values weigh there
abbrev pub rank_statistic : Sample → ℕ → (ℕ → ℚ) → ℚ
rank_statistic p j e = column_sum p e j

-- what the other columns leave of column j, by the factors c, each row by its weight
abbrev pub projected : Sample → ℕ → (ℕ → ℚ) → ℕ → ℚ
projected p j c i = p.up1 i *ℚ (p.x i j -ℚ fitted p c i)

-- the factors c project column j on the others: what they leave is orthogonal to the other weighted columns
pub record IsProjection (p : Sample) (j : ℕ) (c : ℕ → ℚ) : Type 0 where
  pub own : c j ≡ whole (pos 0)
  pub orthogonal : (k : ℕ) → k < p.columns → k ≢ j → sum_ℚ p.rows (λ i. projected p j c i *ℚ (p.up1 i *ℚ p.x i k)) ≡ whole (pos 0)

-- the squared length of what they leave
abbrev pub squared_length : Sample → ℕ → (ℕ → ℚ) → ℚ
squared_length p j c = sum_ℚ p.rows (λ i. projected p j c i *ℚ projected p j c i)

-- the greatest square of the statistic that is within the critical value, where the squared length is q
abbrev pub rank_bound : ℚ → ℚ → ℚ → ℚ
rank_bound tau crit q = ((crit *ℚ tau) *ℚ (whole (pos 1) -ℚ tau)) *ℚ q

-- the tested value xi is within the critical value: some values that are optimal there have a statistic
-- whose square is within the bound, by a projection
pub record Holds (p : Sample) (j : ℕ) (tau crit xi : ℚ) : Type 0 where
  pub c : ℕ → ℚ
  pub projection : IsProjection p j c
  pub e : ℕ → ℚ
  pub optimal : IsOptimalAt p j tau xi e
  pub within : (rank_statistic p j e *ℚ rank_statistic p j e) ≤ℚ rank_bound tau crit (squared_length p j c)
