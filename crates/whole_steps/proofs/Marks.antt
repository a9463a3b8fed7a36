-- Rows that may come before a mover.
use Rattle.std.specs.Prelude.{◌≡◌, ℕ, ℤ, ◌<◌, Bool, true, false, ◌&&◌, List, get_or, length, IsTrue}
use Rattle.std.proofs.Common.{refl, sym, ap₂, ◌∙◌}
use Rattle.pivot_model.proofs.Passing.{not_before_itself}
use Rattle.whole_inverse.specs.Squares.{WholeSquare}
use Rattle.whole_steps.specs.declared.line.Line.{Line}
use Rattle.whole_steps.specs.Lines.{model, at_of, inverse_at, IsLine, is_moving, comes_before}
use Rattle.whole_steps.specs.Rivals.{AreMarked}
use Rattle.whole_steps.proofs.FirstLaws.{no, trans}

module _ (l : Line ℤ WholeSquare) (line : IsLine l) where
  not_itself : (i : ℕ) → comes_before l i i ≡ false
  unfolding comes_before
  not_itself i = not_before_itself (model l) (at_of l) (inverse_at l) l.position i

  -- a row that isn't marked isn't passed before row r
  pub unmarked_left : (r i : ℕ) (marks : List Bool) → AreMarked l r marks → i < length marks → get_or marks i false ≡ false → (is_moving l i && comes_before l i r) ≡ false
  unmarked_left r i marks h li unmarked = by (is_moving l i) (comes_before l i r) refl refl
    where
      by : (m b : Bool) → is_moving l i ≡ m → comes_before l i r ≡ b → (is_moving l i && comes_before l i r) ≡ false
      by false b em eb = ap₂ (λ x y. x && y) em eb
      by true false em eb = ap₂ (λ x y. x && y) em eb
      by true true em eb = absurd (no (sym (trans l line i r i eb (h.others i li unmarked em)) ∙ not_itself i))

  -- the rows that may come before row r are marked where those that may come before a later one are
  pub marked_before : (target r : ℕ) (marks : List Bool) (before : Bool) → before ≡ comes_before l target r → AreMarked l r marks → IsTrue before → AreMarked l target marks
  marked_before target r marks true e h t =
      record { size = h.size; others = λ i li unmarked moving. trans l line target r i (sym e) (h.others i li unmarked moving) }
  marked_before target r marks false e h t = absurd (no (sym t))
