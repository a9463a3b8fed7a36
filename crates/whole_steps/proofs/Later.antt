-- Rows that are passed over.
use Rattle.std.specs.Prelude.{◌≡◌, ◌*◌, ◌<◌, ℕ, ℤ, Bool, true, false, IsTrue}
use mathlib.Core.Bool.{not, ◌||◌}
use Rattle.std.specs.Cmp.{nat_cmp_is}
use Rattle.std.specs.declared.cmp.Ordering.TheVariants.{Less}
use Rattle.std.proofs.Common.{refl, sym}
use Rattle.whole_inverse.specs.Squares.{WholeSquare}
use Rattle.whole_steps.specs.declared.line.Line.{Line}
use Rattle.whole_steps.specs.declared.line.Mover.{Mover}
use Rattle.whole_steps.specs.Lines.{IsLine, IsMover, comes_before}
use Rattle.whole_steps.proofs.Ties.{first_decides}

-- a mover whose sizes make a greater quotient than another one's comes after it
pub later : (l : Line ℤ WholeSquare) → IsLine l → (m n : Mover ℕ) → IsMover l m → IsMover l n → m.residual * n.coord < n.residual * m.coord → comes_before l m.row n.row ≡ true
later l line m n h g p = sym (first_decides l line m n Less h g (nat_cmp_is (m.residual * n.coord) (n.residual * m.coord) Less p) refl)

-- of two answers of which one is that it doesn't hold
pub either : (a b : Bool) → IsTrue (not a || b) → a ≡ true → IsTrue b
either true b t e = t
either false b t e = absurd (cc e)
