use Rattle.wide_int.proofs.Totals.{IsSummed}
use Rattle.cert_sums.proofs.long_rows.long_row_product.Given as goal

-- what is added and what is left make the whole sum
abbrev pub invariant-loop-i : goal.invariant-loop-i
invariant-loop-i l = IsSummed l.fn.row l.fn.column l.i l.sum
