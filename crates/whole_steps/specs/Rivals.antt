-- Inner. The rows that may come before a mover.
use Rattle.std.specs.Prelude.{◌≡◌, ℕ, ℤ, ◌<◌, Bool, List, true, false, get_or, length}
use Rattle.whole_inverse.specs.Squares.{WholeSquare}
use Rattle.whole_steps.specs.Lines.{IsMover, is_moving, comes_before}
use Rattle.whole_steps.specs.declared.line.Line.{Line}
use Rattle.whole_steps.specs.declared.rivals.Rivals.{Rivals}

-- every row that moves and isn't marked comes after row r
pub record AreMarked (l : Line ℤ WholeSquare) (r : ℕ) (marks : List Bool) : Type 0 where
  pub size : length marks ≡ length l.basis.now.rows.now
  pub others : (i : ℕ) → i < length marks → get_or marks i false ≡ false → is_moving l i ≡ true → comes_before l r i ≡ true

-- the rows that may come before the mover are marked
pub record IsRivals (l : Line ℤ WholeSquare) (s : Rivals) : Type 0 where
  pub mover : IsMover l s.mover
  pub marks : AreMarked l s.mover.row s.marks
