-- Inner. The line along which a position leaves a station, and the numbers of all rows on it.
use Rattle.std.specs.Prelude.{◌≡◌, ℕ, ℤ, ◌<◌, length}
use Rattle.loss_model.specs.Sample.{residual}
use Rattle.basis_model.specs.Basis.{coord, coefficient}
use Rattle.pivot_model.specs.declared.direction.Direction.{Direction}
use Rattle.whole_inverse.specs.Shares.{share_at}
use Rattle.whole_inverse.specs.Squares.{WholeSquare}
use Rattle.whole_steps.specs.declared.line.Line.{Line}
use Rattle.whole_steps.specs.Lines.{IsLine}
use Rattle.whole_steps.specs.declared.station.Station.{Station}
use Rattle.whole_steps.specs.declared.entering.RowNumbers.{RowNumbers}
use Rattle.whole_steps.specs.Stations.{model, at_of, inverse_at, over_of}

-- the line along which position j leaves in this direction
pub record IsLineOf (s : Station) (j : ℕ) (d : Direction) (l : Line ℤ WholeSquare) : Type 0 where
  pub line : IsLine l
  pub basis : l.basis.now ≡ s.basis.now
  pub sides : l.sides.now ≡ s.solution.now.sides
  pub position : l.position ≡ j
  pub direction : l.direction ≡ d

-- the numerators of the residuals of all rows, and of their coordinates at position j
pub record AreRowNumbers (s : Station) (j : ℕ) (n : RowNumbers) : Type 0 where
  pub size : length n.residuals ≡ length s.basis.now.rows.now
  pub residuals :
      (i : ℕ) → i < length s.basis.now.rows.now
      → share_at (over_of s) n.residuals i ≡ residual (model s) (coefficient (model s) (at_of s) (inverse_at s)) i
  pub all_coords : length n.coords ≡ length s.basis.now.rows.now
  pub coords : (i : ℕ) → i < length s.basis.now.rows.now → share_at (over_of s) n.coords i ≡ coord (model s) (inverse_at s) i j
