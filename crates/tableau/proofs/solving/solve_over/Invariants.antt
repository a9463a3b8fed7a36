use Rattle.std.proofs.Common.{◌≡◌, length}
use Rattle.rational_laws.specs.Fraction.{rational}
use Rattle.tableau.specs.Bodies.{place_of}
use Rattle.tableau.specs.Solving.{IsUnderway}
use Rattle.tableau.proofs.solving.solve_over.Given as goal

abbrev pub invariant-loop : goal.invariant-loop
invariant-loop g l = record {
  underway : IsUnderway g.F.Exact.value (rational (g.F.Exact.value l.theta)) l.solve;
  same : (place_of g.F.Exact.value l.solve.tableau).task ≡ (place_of g.F.Exact.value l.fn.from.tableau).task;
  counted : length l.solve.trail.steps ≡ l.counter;
}
