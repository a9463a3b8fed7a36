-- Inner. The interval of a solve and of both walks from it.
use Rattle.std.specs.Prelude.{List, Some}
use Rattle.rational_laws.specs.Fraction.{Fraction}
use Rattle.loss_model.specs.declared.interval.Interval.{Interval}
use Rattle.loss_model.specs.declared.process.Exchange.{Exchange}
use Rattle.loss_model.specs.declared.process.Trail.{Trail}
use Rattle.rank_tableau.specs.declared.walking.Arrival.{Arrival}
use Rattle.rank_inversion.specs.declared.column_test.Asked.{Asked}

-- the trail of the solve, with the steps of both walks
abbrev pub with_walks : Trail → List Exchange → List Exchange → Trail
with_walks solve rise fall = record { start = solve.start; steps = solve.steps; rise = rise; fall = fall }

-- the interval of both walks, which lists these factors of its projection
abbrev pub joined : {F : Type 0} → (F → Fraction) → Trail → Asked F → List Fraction → Arrival → Arrival → Interval
joined value solve asked factors rise fall =
    record {
      column = asked.column;
      tau = value asked.tau;
      crit = value asked.crit;
      low = fall.end;
      high = rise.end;
      projection = Some factors;
      trail = with_walks solve rise.steps fall.steps;
    }
