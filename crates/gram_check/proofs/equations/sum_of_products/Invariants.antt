-- What is added and what is left make the sum.
use Rattle.wide_int.proofs.Totals.{IsSummed}
use Rattle.gram_check.proofs.equations.sum_of_products.Given as goal

abbrev pub invariant-loop-i : goal.invariant-loop-i
invariant-loop-i l = IsSummed l.row l.numerators l.i l.sum
