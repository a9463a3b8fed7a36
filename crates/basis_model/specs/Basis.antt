-- Stated. What stands at a basis: the rows `at j` at its positions j, and the inverse a of their entries,
-- whose entry `a k j` is that of column k at position j (Koenker and d'Orey 1987, AS 229).
use Rattle.std.specs.Prelude.{ℕ, if◌then◌else◌, pos}
use Rattle.rational_laws.specs.Rational.{ℚ, ◌+ℚ◌, ◌*ℚ◌, neg_ℚ, whole}
use Rattle.rational_laws.specs.RationalSums.{sum_ℚ}
use Rattle.loss_model.specs.Matrices.{AreInverse, coordinate}
use Rattle.loss_model.specs.Selections.{is_among, AreDistinct}
use Rattle.loss_model.specs.declared.vertex.Side.{Side}
use Rattle.loss_model.specs.declared.vertex.Side.TheVariants.{Up, Down, Basic}
use Rattle.loss_model.specs.Sample.{Sample, residual}
use Rattle.basis_model.specs.Perturbed.{Nonbasic, perturbed_side}
use Rattle.basis_model.specs.declared.part.Part.{Part}
use Rattle.basis_model.specs.declared.part.Part.TheVariants.{Constant, Linear}

-- the rows at the positions are different rows of the problem, and a is the inverse of their entries
pub record IsBasis (p : Sample) (at : ℕ → ℕ) (a : ℕ → ℕ → ℚ) : Type 0 where
  pub distinct : AreDistinct at p.columns p.rows
  pub inverse : AreInverse p.columns (λ j k. p.x (at j) k) a

-- the coordinate of row i at position j
abbrev pub coord : Sample → (ℕ → ℕ → ℚ) → ℕ → ℕ → ℚ
coord p a i j = coordinate p.columns a (p.x i) j

-- the coefficients, which fit the rows of the basis exactly
abbrev pub coefficient : Sample → (ℕ → ℕ) → (ℕ → ℕ → ℚ) → ℕ → ℚ
coefficient p at a k = sum_ℚ p.columns (λ j. a k j *ℚ p.y (at j))

-- row i as it stands at the basis, if it is outside
abbrev pub outside_row : Sample → (ℕ → ℕ) → (ℕ → ℕ → ℚ) → ℕ → Nonbasic
outside_row p at a i =
    record { row = i; residual = residual p (coefficient p at a) i; coord = coord p a i }

-- the side of row i: that of its perturbed residual, where it is outside the basis
abbrev pub side_at : Sample → (ℕ → ℕ) → (ℕ → ℕ → ℚ) → ℕ → Side
side_at p at a i =
    if is_among at p.columns i then Basic else perturbed_side p.rows p.columns at (outside_row p at a i)

-- a part of the dual value of row i on a side, which for a row of the basis is not counted
abbrev pub bound_part : Sample → Part → ℕ → Side → ℚ
bound_part p Constant i Up = p.up0 i
bound_part p Constant i Down = neg_ℚ (p.down0 i)
bound_part p Constant i Basic = whole (pos 0)
bound_part p Linear i Up = p.up1 i
bound_part p Linear i Down = neg_ℚ (p.down1 i)
bound_part p Linear i Basic = whole (pos 0)

-- what the rows outside the basis, on these sides, weigh in column k
abbrev pub nonbasic_total : Sample → (ℕ → Side) → Part → ℕ → ℚ
nonbasic_total p side part k = sum_ℚ p.rows (λ i. p.x i k *ℚ bound_part p part i (side i))

-- a part of the dual value of the row at position j, which balances these totals of the columns
abbrev pub balancing : ℕ → (ℕ → ℕ → ℚ) → (ℕ → ℚ) → ℕ → ℚ
balancing n a totals j = sum_ℚ n (λ k. neg_ℚ (totals k) *ℚ a k j)

-- the same with the totals of the rows outside the basis, on their perturbed sides
abbrev pub basic_dual : Sample → (ℕ → ℕ) → (ℕ → ℕ → ℚ) → Part → ℕ → ℚ
basic_dual p at a part j = balancing p.columns a (nonbasic_total p (side_at p at a) part) j

-- the dual value of the row at position j at theta
abbrev pub dual_value : Sample → (ℕ → ℕ) → (ℕ → ℕ → ℚ) → ℚ → ℕ → ℚ
dual_value p at a theta j = basic_dual p at a Constant j +ℚ (basic_dual p at a Linear j *ℚ theta)
