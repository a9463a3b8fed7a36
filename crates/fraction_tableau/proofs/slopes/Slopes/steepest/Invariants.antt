use Rattle.rational_laws.specs.Fraction.{rational}
use Rattle.tableau_model.specs.Slopes.{IsLeast}
use Rattle.fraction_tableau.specs.Slopes.{model, rows_of, inverse_of}
use Rattle.fraction_tableau.proofs.slopes.Slopes.steepest.Given as goal

abbrev pub invariant-loop-position : goal.invariant-loop-position
invariant-loop-position g l =
    let value = g.F.Exact.value in
    IsLeast value (model value l.self) (rows_of value l.self) (inverse_of value l.self) (rational (value l.self.theta)) l.position l.least
