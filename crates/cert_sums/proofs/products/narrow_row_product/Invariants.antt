-- What is added and what is left make the whole sum, and the sizes of what is left have room.
use Rattle.wide_int.proofs.Totals.{IsSummed, HasRoom}
use Rattle.cert_sums.proofs.products.narrow_row_product.Given as goal

abbrev pub invariant-loop-i : goal.invariant-loop-i
invariant-loop-i l = IsSummed l.fn.row l.fn.column l.i l.sum × HasRoom l.fn.column l.fn.limit l.i l.sum
