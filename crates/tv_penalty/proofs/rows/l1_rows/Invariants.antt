use Rattle.std.proofs.Common.{◌≡◌, ◌-◌, map}
use Rattle.std.specs.List.{range_with_len}
use Rattle.frac_core.specs.Values.{exact}
use Rattle.tv_penalty.specs.Smoothings.{exact_penalty, unit_row}
use Rattle.tv_penalty.proofs.rows.l1_rows.Given as goal

abbrev pub invariant-loop-column : goal.invariant-loop-column
invariant-loop-column l =
    map exact_penalty l.rows.items ≡ map (unit_row l.columns (exact l.lambda)) (range_with_len l.first (l.column - l.first))
