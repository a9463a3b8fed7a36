-- Inner. Two perturbed ratios whose first entries agree, entry by entry.
use Rattle.std.specs.Prelude.{◌≡◌, ℕ, ℤ, suc, ◌<◌, ◌≤◌, true, length, Option, Some, None, pos}
use Rattle.rational_laws.specs.Rational.{ℚ, neg_ℚ}
use Rattle.loss_model.specs.declared.vertex.Side.{Side}
use Rattle.loss_model.specs.declared.vertex.Side.TheVariants.{Up, Down, Basic}
use Rattle.loss_model.specs.Spill.{abs_ℚ}
use Rattle.basis_model.specs.Perturbed.{perturbed_side}
use Rattle.basis_model.specs.Basis.{coord, outside_row}
use Rattle.whole_inverse.specs.Shares.{share}
use Rattle.whole_inverse.specs.Squares.{WholeSquare}
use Rattle.whole_steps.specs.declared.line.Line.{Line}
use Rattle.whole_steps.specs.declared.tie.Tied.{Tied}
use Rattle.whole_steps.specs.declared.tie.Entry.{Entry}
use Rattle.whole_steps.specs.Lines.{model, at_of, inverse_at, over_of, ratio_of, is_moving}

-- the negated coordinate, which is negated again below the fit
abbrev pub entry_on : Side → ℚ → ℚ
entry_on Up x = neg_ℚ x
entry_on Down x = x
entry_on Basic x = neg_ℚ x

-- the row moves, and these are its side and the size of its coordinate at the position
pub record IsTied (l : Line ℤ WholeSquare) (t : Tied) : Type 0 where
  pub row : t.row < length l.basis.now.rows.now
  pub moves : is_moving l t.row ≡ true
  pub side : t.side ≡ perturbed_side (model l).rows (model l).columns (at_of l) (outside_row (model l) (at_of l) (inverse_at l) t.row)
  pub some : 1 ≤ t.size
  pub size : share (pos t.size) (over_of l) ≡ abs_ℚ (coord (model l) (inverse_at l) t.row l.position)

-- the entry of the ratio of row i at the row that position k holds
pub record IsEntryAt (l : Line ℤ WholeSquare) (i k : ℕ) (e : Entry) : Type 0 where
  pub some : 1 ≤ e.under
  pub is : share e.over (pos e.under) ≡ ratio_of l i (suc (at_of l k))

-- no position of n holds a row from `from` on and before `to`
abbrev pub HoldsNone : ℕ → (ℕ → ℕ) → ℕ → ℕ → Type 0
HoldsNone n at from to = (j : ℕ) → j < n → from ≤ at j → at j < to → ⊥

-- position k holds the least such row
pub record IsLeastHeld (n : ℕ) (at : ℕ → ℕ) (from to k : ℕ) : Type 0 where
  pub within : k < n
  pub above : from ≤ at k
  pub below : at k < to
  pub least : HoldsNone n at from (at k)

abbrev pub IsNextHeld : ℕ → (ℕ → ℕ) → ℕ → ℕ → Option ℕ → Type 0
IsNextHeld n at from to None = HoldsNone n at from to
IsNextHeld n at from to (Some k) = IsLeastHeld n at from to k
