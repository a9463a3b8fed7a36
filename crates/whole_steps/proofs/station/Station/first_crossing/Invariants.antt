use Rattle.tableau_model.specs.Crossings.{IsFirstOf}
use Rattle.whole_steps.specs.Crossings.{quotient_value, HasDivisor, falls_at, quotient_at}
use Rattle.whole_steps.proofs.station.Station.first_crossing.Given as goal

abbrev pub invariant-loop-position : goal.invariant-loop-position
invariant-loop-position l = record {
  first : IsFirstOf quotient_value (falls_at l.self) (quotient_at l.self) l.position l.least;
  divisor : HasDivisor l.least;
}
