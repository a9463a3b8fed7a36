-- Inner. The line along which a position leaves, and the rows that move on it.
use Rattle.std.specs.Prelude.{◌≡◌, ◌≢◌, ℕ, ◌<◌, Bool, true, List, length, slice_get, slice_index, Some}
use Rattle.std.specs.Option.{option_map_or}
use Rattle.rational_laws.specs.Fraction.{Fraction, rational}
use Rattle.rational_laws.specs.Rational.{ℚ}
use Rattle.loss_model.specs.declared.spill.Spill.{Spill}
use Rattle.loss_model.specs.Sample.{Sample, residual}
use Rattle.loss_model.specs.Problem.{value_at, sample}
use Rattle.loss_model.specs.Spill.{abs_ℚ}
use Rattle.basis_model.specs.Perturbed.{ratio}
use Rattle.basis_inverse.specs.Square.{inverse_entry}
use Rattle.basis_model.specs.Basis.{coord, coefficient, outside_row, side_at}
use Rattle.lex_rule.specs.declared.less.Ratio.{Ratio}
use Rattle.lex_rule.specs.Compared.{of_ratio, IsRatioAt}
use Rattle.loss_model.specs.Sides.{side_in}
use Rattle.loss_model.specs.declared.vertex.Side.{Side}
use Rattle.pivot_model.specs.declared.direction.Direction.{Direction}
use Rattle.pivot_model.specs.Steps.{moves, is_before}
use Rattle.loss_model.specs.Quantities.{IsCoordinatesSpill}
use Rattle.basis_model.specs.RatioSpill.{IsRatioEntrySpill, IsRatioSpill}
use Rattle.fraction_tableau.specs.declared.line.Line.{Line}
use Rattle.fraction_tableau.specs.declared.line.Mover.{Mover}
use Rattle.fraction_tableau.specs.Kept.{IsKept}

-- the row of item k of a list
abbrev pub row_at : {F : Type 0} → List (Mover F) → ℕ → ℕ
row_at xs k = option_map_or (λ m. m.row) (slice_get xs k) 0

-- where position j leaves in direction d, an operation by which the rows that move are ordered overflows: of the
-- coordinates of a row, at the first entry of a ratio, or where the ratios of two rows are compared
pub data IsOrderSpill {F : Type 0} (value : F → Fraction) (range : ℕ) (p : Sample) (at : ℕ → ℕ) (a : ℕ → ℕ → ℚ) (j : ℕ) (d : Direction)
    (s : Spill F) : Type 0 where
  at_coordinates : (i : ℕ) → i < p.rows → IsCoordinatesSpill value range p.columns a (p.x i) i s → IsOrderSpill value range p at a j d s
  at_ratio : (r : ℕ) → r < p.rows → moves p at a j d r ≡ true → IsRatioEntrySpill value range p.columns at j (outside_row p at a r) 0 s
      → IsOrderSpill value range p at a j d s
  at_tie : (r i : ℕ) → r ≢ i → r < p.rows → i < p.rows → moves p at a j d r ≡ true → moves p at a j d i ≡ true
      → IsRatioSpill value range p.rows p.columns at j (outside_row p at a r) (outside_row p at a i) s → IsOrderSpill value range p at a j d s

module _ {F : Type 0} (value : F → Fraction) where
  -- the problem of a line as a sample
  abbrev pub model : Line F → Sample
  model l = sample value l.tableau.now.problem

  -- the rows of its basis
  abbrev pub at_of : Line F → ℕ → ℕ
  at_of l = slice_index l.tableau.now.rows

  -- the inverse of these
  abbrev pub inverse_of : Line F → ℕ → ℕ → ℚ
  inverse_of l = inverse_entry value l.tableau.now.square

  -- the residuals are those of the basis, which has this position
  pub record IsLine (l : Line F) : Type 0 where
    pub kept : IsKept value l.tableau.now
    pub size : length l.residuals.now ≡ length l.tableau.now.problem.rows
    pub residuals : (i : ℕ) → i < length l.tableau.now.problem.rows
        → value_at value l.residuals.now i ≡ residual (model l) (coefficient (model l) (at_of l) (inverse_of l)) i
    pub position : l.position < l.tableau.now.problem.columns

  -- row i moves towards 0 on the line
  unfoldable pub is_moving : Line F → ℕ → Bool
  is_moving l i = moves (model l) (at_of l) (inverse_of l) l.position l.direction i

  -- the perturbed ratio of row i is less than that of row r
  unfoldable pub comes_before : Line F → ℕ → ℕ → Bool
  comes_before l i r = is_before (model l) (at_of l) (inverse_of l) l.position i r

  -- an operation by which the rows that move on the line are ordered overflows
  unfoldable pub IsLineSpill : ℕ → Line F → Spill F → Type 0
  IsLineSpill range l s = IsOrderSpill value range (model l) (at_of l) (inverse_of l) l.position l.direction s

  -- a row that moves, with the first entry of its ratio and the size of its coordinate
  pub record IsMover (l : Line F) (m : Mover F) : Type 0 where
    pub row : m.row < length l.tableau.now.problem.rows
    pub moves : is_moving l m.row ≡ true
    pub ratio_is : rational (value m.ratio) ≡ ratio (model l).rows (model l).columns (at_of l) l.position
        (outside_row (model l) (at_of l) (inverse_of l) m.row) 0
    pub size_is : rational (value m.size) ≡ abs_ℚ (coord (model l) (inverse_of l) m.row l.position)

  -- row i moves, and has these coordinates
  pub record IsMovingRow (l : Line F) (i : ℕ) (coords : List F) : Type 0 where
    pub row : i < length l.tableau.now.problem.rows
    pub moves : is_moving l i ≡ true
    pub size : length coords ≡ l.tableau.now.problem.columns
    pub each : (j : ℕ) → j < l.tableau.now.problem.columns → value_at value coords j ≡ coord (model l) (inverse_of l) i j

  -- the row as its ratio is compared by all its entries
  pub record IsRatioOf (l : Line F) (i : ℕ) (u : Ratio F) : Type 0 where
    pub same : of_ratio value u ≡ outside_row (model l) (at_of l) (inverse_of l) i
    pub at : IsRatioAt value l.tableau.now.rows l.position u

  -- side i is that of row i
  abbrev pub side_is : Line F → ℕ → Side → Type 0
  side_is l i s = s ≡ side_at (model l) (at_of l) (inverse_of l) i

  -- c is the coordinate of row i at the position
  abbrev pub coord_is : Line F → ℕ → F → Type 0
  coord_is l i c = rational (value c) ≡ coord (model l) (inverse_of l) i l.position

  -- the list has the side of each row
  pub record HasSides (l : Line F) (sides : List Side) : Type 0 where
    pub size : length sides ≡ length l.tableau.now.problem.rows
    pub each : (i : ℕ) → i < length l.tableau.now.problem.rows → side_in sides i ≡ side_at (model l) (at_of l) (inverse_of l) i

  -- the list has the coordinate of each row at the position
  pub record HasCoordinates (l : Line F) (coords : List F) : Type 0 where
    pub size : length coords ≡ length l.tableau.now.problem.rows
    pub each : (i : ℕ) → i < length l.tableau.now.problem.rows → value_at value coords i ≡ coord (model l) (inverse_of l) i l.position

  -- the list has those of the first n rows that move, ascending
  pub record AreMoversBelow (l : Line F) (n : ℕ) (xs : List (Mover F)) : Type 0 where
    pub each : (k : ℕ) (m : Mover F) → slice_get xs k ≡ Some m → IsMover l m
    pub all : (i : ℕ) → i < n → is_moving l i ≡ true → (k : ℕ) × (k < length xs) × (row_at xs k ≡ i)
    pub below : (k : ℕ) → k < length xs → row_at xs k < n
    pub apart : (j k : ℕ) → j < k → k < length xs → row_at xs j ≢ row_at xs k

  -- the list has the rows that move, and no other, each once
  pub record AreMovers (l : Line F) (xs : List (Mover F)) : Type 0 where
    pub each : (k : ℕ) (m : Mover F) → slice_get xs k ≡ Some m → IsMover l m
    pub all : (i : ℕ) → i < length l.tableau.now.problem.rows → is_moving l i ≡ true → (k : ℕ) × (k < length xs) × (row_at xs k ≡ i)
    pub apart : (j k : ℕ) → j < k → k < length xs → row_at xs j ≢ row_at xs k
