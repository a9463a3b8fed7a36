-- Inner. The halt of a path problem that can't be made: apart from what is stated of paths, since no contract above speaks of it.
use Rattle.lambda_path.specs.declared.fault.PathFault.{PathFault}
use Rattle.lambda_path.specs.declared.fault.PathFault.TheVariants as faults
use Rattle.rq_program.specs.declared.fault.ProgramFault.TheVariants.{TooManyRows}
use Rattle.report_text.specs.declared.report.Refusal.TheVariants.{Program}
use Rattle.report_text.specs.declared.report.Place.TheVariants as places
use Rattle.report_text.specs.declared.report.Halt.{Halt}
use Rattle.report_text.specs.declared.report.Halt.TheVariants.{Refused, OutOfMemory, Overflow}
use Rattle.rq_engine.specs.Stops.{no_trail}

-- want of memory, too many rows, or an operation of a cost that overflows
abbrev pub path_halt : PathFault → Halt
path_halt faults.OutOfMemory = OutOfMemory
path_halt faults.TooManyRows = Refused (Program TooManyRows)
path_halt (faults.Overflow spill) = Overflow places.Path no_trail spill
