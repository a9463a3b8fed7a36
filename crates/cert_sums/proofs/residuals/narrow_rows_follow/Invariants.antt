use Rattle.std.proofs.Common.{◌≡◌, ℕ, ◌<◌}
use Rattle.std.specs.Prelude.{slice_get, Some}
use Rattle.wide_int.specs.Numbers.{total}
use Rattle.cert_sums.specs.Duals.{side_in}
use Rattle.cert_sums.specs.Residuals.{IsWholeOn}
use Rattle.cert_sums.specs.declared.table.WholeRow.{WholeRow}
use Rattle.cert_sums.proofs.residuals.narrow_rows_follow.Given as goal

abbrev pub invariant-loop-i : goal.invariant-loop-i
invariant-loop-i l = (i : ℕ) (w : WholeRow) → i < l.i → slice_get l.rows i ≡ Some w → IsWholeOn (side_in l.vertex i) (total w.narrow l.numbers)
