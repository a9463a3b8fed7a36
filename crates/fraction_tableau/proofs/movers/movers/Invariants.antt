use Rattle.fraction_tableau.specs.Lines.{AreMoversBelow}
use Rattle.fraction_tableau.proofs.movers.movers.Given as goal

abbrev pub invariant-loop-row : goal.invariant-loop-row
invariant-loop-row g l = AreMoversBelow g.F.Exact.value l.line l.row l.found.items
