-- Stated. The dual values of a vertex: those of a basis, by the side on which each row lies (Koenker 2005, chapter 6).
use Rattle.std.specs.Prelude.{◌≡◌, ◌↔◌, ℕ, ◌<◌, List, length, slice_get, Contains, Some, ◌==◌, pos}
use Rattle.std.specs.Option.{option_map_or}
use Rattle.std.specs.List.{position_or_len}
use Rattle.std.specs.List.Sorted.{IsStrictlyIncreasing}
use Rattle.rational_laws.specs.Rational.{ℚ, neg_ℚ, whole, ◌≤ℚ◌}
use Rattle.rational_laws.specs.Fraction.{Fraction}
use Rattle.loss_model.specs.declared.problem.Problem.{Problem}
use Rattle.loss_model.specs.declared.vertex.Side.{Side}
use Rattle.loss_model.specs.declared.vertex.Side.TheVariants.{Up, Down, Basic}
use Rattle.loss_model.specs.declared.vertex.Vertex.{Vertex}
use Rattle.loss_model.specs.Sample.{Sample, up_cost, down_cost}
use Rattle.loss_model.specs.Problem.{number_at, sample}

-- the up cost, the negated down cost, or the basic value of row i
abbrev pub value_of_side : Sample → ℚ → (ℕ → ℚ) → ℕ → Side → ℚ
value_of_side p theta basic i Up = up_cost p theta i
value_of_side p theta basic i Down = neg_ℚ (down_cost p theta i)
value_of_side p theta basic i Basic = basic i

-- where the residual of a row on a side lies
abbrev pub IsOn : Side → ℚ → Type 0
IsOn Up r = whole (pos 0) ≤ℚ r
IsOn Down r = r ≤ℚ whole (pos 0)
IsOn Basic r = r ≡ whole (pos 0)

-- the value of row i in a list that goes by the rows of the basis
abbrev pub basic_value : Vertex → List Fraction → ℕ → ℚ
basic_value v basic i = number_at basic (position_or_len (λ r. r == i) v.basis.rows)

-- the dual value of row i at theta, where the basic rows, ascending, have the values of the list
abbrev pub dual_value : {F : Type 0} → (F → Fraction) → Problem F → Vertex → List Fraction → ℚ → ℕ → ℚ
dual_value value p v basic theta i =
    let of = value_of_side (sample value p) theta (basic_value v basic) i in
    option_map_or of (slice_get v.sides i) (whole (pos 0))

-- an ascending basis of as many rows as there are columns, a coefficient for each column, and a side
-- for each row, which is Basic at exactly the rows of the basis
pub record IsVertexOf {F : Type 0} (p : Problem F) (v : Vertex) : Type 0 where
  pub ascending : IsStrictlyIncreasing v.basis.rows
  pub size : length v.basis.rows ≡ p.columns
  pub coef : length v.coef ≡ p.columns
  pub sides : length v.sides ≡ length p.rows
  pub basic : (i : ℕ) → i < length p.rows → (slice_get v.sides i ≡ Some Basic) ↔ Contains v.basis.rows i
