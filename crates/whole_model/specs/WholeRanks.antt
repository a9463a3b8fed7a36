-- Law. The inversion of a rank test in whole numbers (Koenker 2005, section 3.5), on a problem in units of
-- 1/Q. A list e over g stands for the values e/(Q*g), a vector c over d for the fractions c/d. Nothing here
-- is a number of ℚ.
use Rattle.std.specs.Prelude.{◌≡◌, ◌≢◌, ℕ, ◌<◌, ◌≤◌, ℤ, pos, ◌-ℤ◌, ◌*ℤ◌, ◌≤ℤ◌, neg_ℤ}
use Rattle.rational_laws.specs.Fraction.{Fraction}
use Rattle.rational_laws.specs.IntegerSums.{sum_to}
use Rattle.whole_model.specs.Scaled.{Scaled, up_cost, down_cost}

-- the values e/(Q*g) are within the costs, and orthogonal to every column but j
pub record IsFeasibleWithout (p : Scaled) (j : ℕ) (theta : Fraction) (e : ℕ → ℤ) (g : ℕ) : Type 0 where
  pub lower : (i : ℕ) → i < p.rows → neg_ℤ (down_cost p theta i *ℤ pos g) ≤ℤ (pos theta.den *ℤ e i)
  pub upper : (i : ℕ) → i < p.rows → (pos theta.den *ℤ e i) ≤ℤ (up_cost p theta i *ℤ pos g)
  pub balanced : (k : ℕ) → k < p.columns → k ≢ j → sum_to p.rows (λ i. e i *ℤ p.x i k) ≡ pos 0

-- the sum that is maximised at the tested value u/v: the responses that are left times the values
abbrev pub restricted_objective : Scaled → ℕ → Fraction → (ℕ → ℤ) → ℤ
restricted_objective p j xi e = sum_to p.rows (λ i. ((p.y i *ℤ pos xi.den) -ℤ (p.x i j *ℤ xi.num)) *ℤ e i)

-- the values e/(Q*g) are feasible, and no feasible ones have a greater sum
pub record IsOptimalAt (p : Scaled) (j : ℕ) (theta xi : Fraction) (e : ℕ → ℤ) (g : ℕ) : Type 0 where
  pub feasible : IsFeasibleWithout p j theta e g
  pub greatest : (f : ℕ → ℤ) (h : ℕ) → 1 ≤ h → IsFeasibleWithout p j theta f h
      → (restricted_objective p j xi f *ℤ pos g) ≤ℤ (restricted_objective p j xi e *ℤ pos h)

-- the rank score statistic of column j
abbrev pub rank_statistic : Scaled → ℕ → (ℕ → ℤ) → ℤ
rank_statistic p j e = sum_to p.rows (λ i. p.x i j *ℤ e i)

-- what the other columns leave of column j, by the factors c/d, each row by its weight
abbrev pub projected : Scaled → ℕ → (ℕ → ℤ) → ℕ → ℕ → ℤ
projected p j c d i = p.up1 i *ℤ ((p.x i j *ℤ pos d) -ℤ sum_to p.columns (λ k. c k *ℤ p.x i k))

-- what they leave is orthogonal to the other weighted columns
pub record IsProjection (p : Scaled) (j : ℕ) (c : ℕ → ℤ) (d : ℕ) : Type 0 where
  pub own : c j ≡ pos 0
  pub orthogonal : (k : ℕ) → k < p.columns → k ≢ j → sum_to p.rows (λ i. projected p j c d i *ℤ (p.up1 i *ℤ p.x i k)) ≡ pos 0

-- its squared length
abbrev pub squared_length : Scaled → ℕ → (ℕ → ℤ) → ℕ → ℤ
squared_length p j c d = sum_to p.rows (λ i. projected p j c d i *ℤ projected p j c d i)

-- with tau = s/t and crit = m/n, the squared statistic times n*t*t*d*d is at most m*s*(t - s) times the
-- squared length times g*g
abbrev pub IsWithin : Fraction → Fraction → ℤ → ℤ → ℕ → ℕ → Type 0
IsWithin tau crit statistic length d g =
    ((statistic *ℤ statistic) *ℤ (pos crit.den *ℤ ((pos tau.den *ℤ pos tau.den) *ℤ (pos d *ℤ pos d))))
    ≤ℤ ((crit.num *ℤ (tau.num *ℤ (pos tau.den -ℤ tau.num))) *ℤ (length *ℤ (pos g *ℤ pos g)))

-- the tested value xi is within the critical value: some values that are optimal there have a statistic
-- within the bound, by a projection
pub record Holds (p : Scaled) (j : ℕ) (tau crit xi : Fraction) : Type 0 where
  pub c : ℕ → ℤ
  pub d : ℕ
  pub d_positive : 1 ≤ d
  pub projection : IsProjection p j c d
  pub e : ℕ → ℤ
  pub g : ℕ
  pub g_positive : 1 ≤ g
  pub optimal : IsOptimalAt p j tau xi e g
  pub within : IsWithin tau crit (rank_statistic p j e) (squared_length p j c d) d g
