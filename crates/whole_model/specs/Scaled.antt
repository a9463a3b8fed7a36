-- Law. The same regression in whole numbers: every value of a problem times the product Q of all its
-- denominators. Nothing here is a fraction, so that it can be read with no knowledge of ℚ.
use Rattle.std.specs.Prelude.{◌≡◌, ℕ, ◌<◌, ◌≤◌, ◌+◌, ◌*◌, List, [], ◌∷◌, ◌++◌, length, map, slice_get, ℤ, pos, ◌+ℤ◌, ◌-ℤ◌, ◌*ℤ◌, ◌≤ℤ◌, neg_ℤ}
use Rattle.std.specs.Option.{option_map_or}
use Rattle.rational_laws.specs.Fraction.{Fraction, common, over}
use Rattle.rational_laws.specs.IntegerSums.{sum_to, positive_part, negative_part}
use Rattle.loss_model.specs.declared.problem.Row.{Row}
use Rattle.loss_model.specs.declared.problem.Problem.{Problem}

-- row i has the entries x i k, the response y i, and its four parts of costs
pub record Scaled : Type 0 where
  pub rows : ℕ
  pub columns : ℕ
  pub x : ℕ → ℕ → ℤ
  pub y : ℕ → ℤ
  pub up0 : ℕ → ℤ
  pub up1 : ℕ → ℤ
  pub down0 : ℕ → ℤ
  pub down1 : ℕ → ℤ

-- every value of a row
abbrev pub row_values : {F : Type 0} → (F → Fraction) → Row F → List Fraction
row_values value r = map value (r.y ∷ r.up0 ∷ r.up1 ∷ r.down0 ∷ r.down1 ∷ r.x)

-- every value of the rows
abbrev pub values : {F : Type 0} → (F → Fraction) → List (Row F) → List Fraction
values value [] = []
values value (r ∷ rows) = row_values value r ++ values value rows

-- Q, the product of all denominators
abbrev pub unit : {F : Type 0} → (F → Fraction) → Problem F → ℕ
unit value p = common (values value p.rows)

-- item i of a list in units of 1/q, or 0 beyond its end
abbrev pub over_at : {F : Type 0} → (F → Fraction) → ℕ → List F → ℕ → ℤ
over_at value q xs i = option_map_or (λ x. over q (value x)) (slice_get xs i) (pos 0)

-- a number of row i, or 0 beyond the last row
abbrev pub of_row : {F : Type 0} → List (Row F) → (Row F → ℤ) → ℕ → ℤ
of_row rows number i = option_map_or number (slice_get rows i) (pos 0)

-- the problem in units of 1/q
abbrev pub scaled_by : {F : Type 0} → (F → Fraction) → ℕ → Problem F → Scaled
scaled_by value q p =
    record {
      rows = length p.rows;
      columns = p.columns;
      x = λ i k. of_row p.rows (λ r. over_at value q r.x k) i;
      y = of_row p.rows (λ r. over q (value r.y));
      up0 = of_row p.rows (λ r. over q (value r.up0));
      up1 = of_row p.rows (λ r. over q (value r.up1));
      down0 = of_row p.rows (λ r. over q (value r.down0));
      down1 = of_row p.rows (λ r. over q (value r.down1));
    }

-- the problem in units of 1/Q
abbrev pub scaled : {F : Type 0} → (F → Fraction) → Problem F → Scaled
scaled value p = scaled_by value (unit value p) p

-- the costs at the parameter s/t, times t
abbrev pub up_cost : Scaled → Fraction → ℕ → ℤ
up_cost p theta i = (p.up0 i *ℤ pos theta.den) +ℤ (p.up1 i *ℤ theta.num)

-- and below the fit
abbrev pub down_cost : Scaled → Fraction → ℕ → ℤ
down_cost p theta i = (p.down0 i *ℤ pos theta.den) +ℤ (p.down1 i *ℤ theta.num)

-- the residual of row i at the coefficients c/d, times d
abbrev pub residual : Scaled → (ℕ → ℤ) → ℕ → ℕ → ℤ
residual p c d i = (p.y i *ℤ pos d) -ℤ sum_to p.columns (λ k. p.x i k *ℤ c k)

-- the loss of row i, times t and d
abbrev pub row_loss : Scaled → Fraction → (ℕ → ℤ) → ℕ → ℕ → ℤ
row_loss p theta c d i =
    let r = residual p c d i in
    (up_cost p theta i *ℤ positive_part r) +ℤ (down_cost p theta i *ℤ negative_part r)

-- the loss of the coefficients, times t and d
abbrev pub loss : Scaled → Fraction → (ℕ → ℤ) → ℕ → ℤ
loss p theta c d = sum_to p.rows (row_loss p theta c d)

-- c/d loses no more than any other vector
abbrev pub Minimises : Scaled → Fraction → (ℕ → ℤ) → ℕ → Type 0
Minimises p theta c d =
    (c' : ℕ → ℤ) (d' : ℕ) → 1 ≤ d' → (loss p theta c d *ℤ pos d') ≤ℤ (loss p theta c' d' *ℤ pos d)

-- full rank: no whole numbers but zeros have the sum 0 with every row
abbrev pub HasFullRank : Scaled → Type 0
HasFullRank p =
    (c : ℕ → ℤ) → ((i : ℕ) → i < p.rows → sum_to p.columns (λ k. p.x i k *ℤ c k) ≡ pos 0) → (k : ℕ) → k < p.columns → c k ≡ pos 0

-- the values e/(Q*g) are within the costs, and orthogonal to every column
pub record IsFeasible (p : Scaled) (theta : Fraction) (e : ℕ → ℤ) (g : ℕ) : Type 0 where
  pub lower : (i : ℕ) → i < p.rows → neg_ℤ (down_cost p theta i *ℤ pos g) ≤ℤ (pos theta.den *ℤ e i)
  pub upper : (i : ℕ) → i < p.rows → (pos theta.den *ℤ e i) ≤ℤ (up_cost p theta i *ℤ pos g)
  pub balanced : (k : ℕ) → k < p.columns → sum_to p.rows (λ i. e i *ℤ p.x i k) ≡ pos 0

-- they are feasible, and of equal cost with c/d
pub record IsDual (p : Scaled) (theta : Fraction) (c : ℕ → ℤ) (d : ℕ) (e : ℕ → ℤ) (g : ℕ) : Type 0 where
  pub feasible : IsFeasible p theta e g
  pub equal : loss p theta c d *ℤ pos g ≡ (pos theta.den *ℤ pos d) *ℤ sum_to p.rows (λ i. p.y i *ℤ e i)

-- the parameter (m*lo + n*hi) / (m + n)
abbrev pub between : ℕ → ℕ → Fraction → Fraction → Fraction
between m n lo hi =
    record {
      num = (pos m *ℤ (lo.num *ℤ pos hi.den)) +ℤ (pos n *ℤ (hi.num *ℤ pos lo.den));
      den = (m + n) * (lo.den * hi.den);
    }

-- the same mix of the values e/(Q*g) and f/(Q*h), in units of 1/(Q*(m + n)*g*h)
abbrev pub mixed : ℕ → ℕ → (ℕ → ℤ) → ℕ → (ℕ → ℤ) → ℕ → ℕ → ℤ
mixed m n e g f h i = (pos m *ℤ (e i *ℤ pos h)) +ℤ (pos n *ℤ (f i *ℤ pos g))
