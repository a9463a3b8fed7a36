use Rattle.fraction_tableau.specs.Lines.{row_at, comes_before}
use Rattle.fraction_tableau.proofs.LeastItem.{IsLeastOf}
use Rattle.fraction_tableau.proofs.least_ratio.first_mover.Given as goal

abbrev pub invariant-loop-k : goal.invariant-loop-k
invariant-loop-k g l = IsLeastOf (comes_before g.F.Exact.value l.line) (row_at l.movers) l.k l.least
