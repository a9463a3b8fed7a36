use Rattle.std.proofs.Common.{◌≡◌, pos}
use Rattle.rational_laws.specs.Fraction.{rational}
use Rattle.rational_laws.specs.Rational.{whole, ◌≤ℚ◌}
use Rattle.fraction_tableau.proofs.Passed.{IsPassing, slope_after}
use Rattle.fraction_tableau.proofs.search.entering.Given as goal

abbrev pub invariant-loop-end : goal.invariant-loop-end
invariant-loop-end g l = record {
  passing : IsPassing g.F.Exact.value l.line l.heap l.end;
  slope : rational (g.F.Exact.value l.slope) ≡ slope_after g.F.Exact.value l.line l.heap l.end;
  negative : ¬ (whole (pos 0) ≤ℚ rational (g.F.Exact.value l.slope));
}

abbrev pub decreases-loop-end : goal.decreases-loop-end
decreases-loop-end g l = l.end
