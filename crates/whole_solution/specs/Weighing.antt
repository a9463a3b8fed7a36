-- Inner. What all rows weigh on their sides by their bounds, and how that changes as rows change sides.
use Rattle.std.specs.Prelude.{◌≡◌, ℕ, ℤ, ◌<◌, length, pos}
use Rattle.rational_laws.specs.Rational.{ℚ, ◌+ℚ◌, ◌-ℚ◌, ◌*ℚ◌, neg_ℚ, whole}
use Rattle.rational_laws.specs.RationalSums.{sum_ℚ}
use Rattle.loss_model.specs.declared.vertex.Side.{Side}
use Rattle.loss_model.specs.declared.vertex.Side.TheVariants.{Up, Down, Basic}
use Rattle.loss_model.specs.Sample.{Sample}
use Rattle.basis_model.specs.declared.part.Part.{Part}
use Rattle.basis_model.specs.declared.part.Part.TheVariants.{Constant, Linear}
use Rattle.basis_model.specs.Basis.{bound_part}
use Rattle.rational_laws.specs.WholeLists.{whole_at}
use Rattle.whole_rows.specs.declared.rows.WholeRow.{WholeRow}
use Rattle.whole_solution.specs.declared.totals.Totals.{Totals}
use Rattle.whole_solution.specs.declared.totals.Weights.{Weights}

-- a part of the bound of this row on a side
abbrev pub bound_of : WholeRow ℤ → Part → Side → ℚ
bound_of r Constant Up = whole r.up0
bound_of r Constant Down = neg_ℚ (whole r.down0)
bound_of r Constant Basic = whole (pos 0)
bound_of r Linear Up = whole r.up1
bound_of r Linear Down = neg_ℚ (whole r.down1)
bound_of r Linear Basic = whole (pos 0)

-- what the first n rows, of which f has a number each, weigh on these sides by a part of their bounds
abbrev pub weighed : Sample → (ℕ → Side) → Part → (ℕ → ℚ) → ℕ → ℚ
weighed p side part f n = sum_ℚ n (λ i. f i *ℚ bound_part p part i (side i))

-- what all rows weigh in each column and in the responses
pub record AreTotals (p : Sample) (side : ℕ → Side) (part : Part) (t : Totals ℤ) : Type 0 where
  pub size : length t.columns ≡ p.columns
  pub columns : (k : ℕ) → k < p.columns → whole_at t.columns k ≡ weighed p side part (λ i. p.x i k) p.rows
  pub response : whole t.response ≡ weighed p side part p.y p.rows

-- by both parts
pub record AreWeights (p : Sample) (side : ℕ → Side) (w : Weights ℤ) : Type 0 where
  pub constant : AreTotals p side Constant w.constant
  pub linear : AreTotals p side Linear w.linear

-- the totals are those before, and the numbers of a row times a weight
pub record AreRaised (r : WholeRow ℤ) (w : ℚ) (before after : Totals ℤ) : Type 0 where
  pub size : length after.columns ≡ length before.columns
  pub columns : (k : ℕ) → k < length before.columns → whole_at after.columns k ≡ whole_at before.columns k +ℚ (whole_at r.x k *ℚ w)
  pub response : whole after.response ≡ whole before.response +ℚ (whole r.y *ℚ w)

-- the weights after a row has changed sides
pub record AreTurned (r : WholeRow ℤ) (from to : Side) (before after : Weights ℤ) : Type 0 where
  pub constant : AreRaised r (bound_of r Constant to -ℚ bound_of r Constant from) before.constant after.constant
  pub linear : AreRaised r (bound_of r Linear to -ℚ bound_of r Linear from) before.linear after.linear
