-- Inner. A basis of rows in whole numbers, and what stands there.
use Rattle.std.specs.Prelude.{◌≡◌, ◌≢◌, ℕ, ℤ, ◌<◌, ◌≤◌, ◌^◌, List, [], ◌∷◌, All, IfSome, length, pos, slice_index, unsigned_abs}
use Rattle.rational_laws.specs.Rational.{ℚ}
use Rattle.rational_laws.specs.Selections.{AreDistinct}
use Rattle.loss_model.specs.declared.vertex.Side.{Side}
use Rattle.loss_model.specs.declared.vertex.Side.TheVariants.{Basic}
use Rattle.loss_model.specs.Sample.{Sample, residual}
use Rattle.loss_model.specs.Sides.{side_in}
use Rattle.basis_model.specs.declared.part.Part.TheVariants.{Constant, Linear}
use Rattle.basis_model.specs.Basis.{coefficient, side_at, basic_dual}
use Rattle.whole_inverse.specs.Shares.{share, share_at}
use Rattle.whole_inverse.specs.Squares.{WholeSquare, IsWholeSquare}
use Rattle.whole_solution.specs.declared.basis.WholeBasis.{WholeBasis}
use Rattle.whole_solution.specs.declared.solution.WholeSolution.{WholeSolution}
use Rattle.whole_solution.specs.declared.solution.DualNumbers.{DualNumbers}
use Rattle.whole_solution.specs.declared.solution.Joint.{Joint}
use Rattle.whole_solution.specs.declared.solution.Nearby.{Nearby}
use Rattle.whole_solution.specs.declared.solution.Sided.{Sided}
use Rattle.whole_solution.specs.Weighing.{AreWeights}
use Rattle.whole_solution.specs.Far.{AreOthersFar, IsNear}

-- different rows, one to each position of an inverse of this size, of which each has as many entries, within the limit
pub record IsWholeBasis (b : WholeBasis ℤ WholeSquare) : Type 0 where
  pub size : length b.basis.now.rows ≡ length b.inverse.now.columns
  pub shape : IsWholeSquare b.inverse.now
  pub few : length b.rows.now < 2 ^ 32
  pub wide : All (λ r. length r.x ≡ length b.inverse.now.columns) b.rows.now
  pub small : All (λ r. All (λ e. unsigned_abs e ≤ b.limit) r.x) b.rows.now
  pub distinct : AreDistinct (slice_index b.basis.now.rows) (length b.inverse.now.columns) (length b.rows.now)

-- the weights are those of the rows on the sides that stand beside them, and rows that aren't near were far on these
pub record HasWeights (p : Sample) (s : WholeSolution) : Type 0 where
  pub size : length s.sides ≡ p.rows
  pub near : IsNear p (side_in s.sides) s.near
  pub weights : AreWeights p (side_in s.sides) s.weights

-- past a joint all rows but both of its own are on the sides on which they were, and the one that left was in the basis
pub record IsPast (p : Sample) (at : ℕ → ℕ) (a : ℕ → ℕ → ℚ) (old : ℕ → Side) (j : Joint) : Type 0 where
  pub entered : j.entered < p.rows
  pub left : j.left < p.rows
  pub basic : old j.left ≡ Basic
  pub others : (i : ℕ) → i < p.rows → i ≢ j.entered → i ≢ j.left → side_at p at a i ≡ old i

-- both rows of a joint
abbrev pub both_of : Joint → List ℕ
both_of j = j.entered ∷ j.left ∷ []

-- the numerators over d are those of the residuals of all rows
pub record AreResiduals (p : Sample) (at : ℕ → ℕ) (a : ℕ → ℕ → ℚ) (d : ℤ) (residuals : List ℤ) : Type 0 where
  pub size : length residuals ≡ p.rows
  pub each : (i : ℕ) → i < p.rows → share_at d residuals i ≡ residual p (coefficient p at a) i

-- rows that aren't near are far on these sides, and the numerators over d, where they stand there, are those of the residuals of all rows
pub record IsNearby (p : Sample) (at : ℕ → ℕ) (a : ℕ → ℕ → ℚ) (d : ℤ) (side : ℕ → Side) (n : Nearby) : Type 0 where
  pub near : IsNear p side n.near
  pub far : AreOthersFar p side n.near (share (pos n.near.reach) n.near.determinant) (coefficient p at a)
  pub residuals : IfSome n.residuals (AreResiduals p at a d)

-- the numerators over d are those of the coefficients, and of the residuals where these stand there, the sides are those of the
-- rows, the weights are theirs on these, and rows that aren't near are far
pub record IsSided (p : Sample) (at : ℕ → ℕ) (a : ℕ → ℕ → ℚ) (d : ℤ) (s : Sided) : Type 0 where
  pub columns : length s.coef ≡ p.columns
  pub coef : (k : ℕ) → k < p.columns → share_at d s.coef k ≡ coefficient p at a k
  pub all_sides : length s.sides ≡ p.rows
  pub sides : (i : ℕ) → i < p.rows → side_in s.sides i ≡ side_at p at a i
  pub near : IsNear p (side_in s.sides) s.near
  pub far : AreOthersFar p (side_in s.sides) s.near (share (pos s.near.reach) s.near.determinant) (coefficient p at a)
  pub weights : AreWeights p (side_in s.sides) s.weights
  pub residuals : IfSome s.residuals (AreResiduals p at a d)

-- the numbers are those of both parts of the basic dual values
pub record AreDualNumbers (p : Sample) (at : ℕ → ℕ) (a : ℕ → ℕ → ℚ) (d : ℤ) (s : DualNumbers) : Type 0 where
  pub constants : length s.constant ≡ p.columns
  pub constant : (j : ℕ) → j < p.columns → share_at d s.constant j ≡ basic_dual p at a Constant j
  pub linears : length s.linear ≡ p.columns
  pub linear : (j : ℕ) → j < p.columns → share_at d s.linear j ≡ basic_dual p at a Linear j

-- the same, and those of both parts of the basic dual values
pub record IsWholeSolution (p : Sample) (at : ℕ → ℕ) (a : ℕ → ℕ → ℚ) (d : ℤ) (s : WholeSolution) : Type 0 where
  pub columns : length s.coef ≡ p.columns
  pub coef : (k : ℕ) → k < p.columns → share_at d s.coef k ≡ coefficient p at a k
  pub all_sides : length s.sides ≡ p.rows
  pub sides : (i : ℕ) → i < p.rows → side_in s.sides i ≡ side_at p at a i
  pub near : IsNear p (side_in s.sides) s.near
  pub far : AreOthersFar p (side_in s.sides) s.near (share (pos s.near.reach) s.near.determinant) (coefficient p at a)
  pub weights : AreWeights p (side_in s.sides) s.weights
  pub residuals : IfSome s.residuals (AreResiduals p at a d)
  pub constants : length s.constant ≡ p.columns
  pub constant : (j : ℕ) → j < p.columns → share_at d s.constant j ≡ basic_dual p at a Constant j
  pub linears : length s.linear ≡ p.columns
  pub linear : (j : ℕ) → j < p.columns → share_at d s.linear j ≡ basic_dual p at a Linear j
