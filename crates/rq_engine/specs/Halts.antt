-- Inner. The halts of the solver: want of memory is its own.
use Rattle.frac_core.specs.declared.frac128.Frac128.{Frac128}
use Rattle.loss_model.specs.declared.stop.Stop.{Stop}
use Rattle.loss_model.specs.declared.stop.Stop.TheVariants as stops
use Rattle.report_text.specs.declared.report.Refusal.TheVariants.{Dependent}
use Rattle.report_text.specs.declared.report.Place.{Place}
use Rattle.report_text.specs.declared.report.Place.TheVariants.{Interval}
use Rattle.report_text.specs.declared.report.Halt.{Halt}
use Rattle.report_text.specs.declared.report.Halt.TheVariants.{Refused, OutOfMemory, PivotLimit, Overflow}
use Rattle.rank_inversion.specs.declared.asks.IntervalStop.{IntervalStop}

-- the halt of a stop of the solver at a place
abbrev pub stop_halt : Place → Stop Frac128 → Halt
stop_halt place stops.OutOfMemory = OutOfMemory
stop_halt place (stops.PivotLimit limit trail) = PivotLimit place limit trail
stop_halt place (stops.Overflow trail spill) = Overflow place trail spill
stop_halt place (stops.Dependent combination) = Refused (Dependent combination)

-- that of an interval, at its column and its quantile
abbrev pub interval_halt : IntervalStop Frac128 → Halt
interval_halt stopped = stop_halt (Interval stopped.asked.column stopped.asked.tau) stopped.stop
