use Rattle.std.proofs.Common.{◌≡◌, ℕ, ◌<◌, length}
use Rattle.std.specs.Prelude.{true, false, get_or}
use Rattle.whole_steps.specs.Lines.{is_moving, comes_before}
use Rattle.whole_steps.proofs.rivals.FullLine+i64+WholeInverse+i128.marks.Given as goal

abbrev pub invariant-loop-row : goal.invariant-loop-row
invariant-loop-row l = record {
  size : length l.made ≡ l.row;
  others : (i : ℕ) → i < l.row → get_or l.made i false ≡ false → is_moving l.self.line i ≡ true → comes_before l.self.line l.mover.row i ≡ true;
}
