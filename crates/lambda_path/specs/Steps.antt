-- Inner. Why data rows aren't made: one of these operations overflows, and it is the first.
use Rattle.std.specs.Prelude.{List, ⊤}
use Rattle.tv_penalty.specs.Operations.{SitedOperation, OverflowsFirst}
use Rattle.lambda_path.specs.declared.fault.PathFault.{PathFault}
use Rattle.lambda_path.specs.declared.fault.PathFault.TheVariants.{OutOfMemory, TooManyRows, Overflow}

-- the rows have been counted before; want of memory has no cause
abbrev pub IsCostFault : List SitedOperation → PathFault → Type 0
IsCostFault operations OutOfMemory = ⊤
IsCostFault operations TooManyRows = ⊥
IsCostFault operations (Overflow spill) = OverflowsFirst operations spill
