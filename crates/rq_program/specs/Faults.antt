-- Stated. Why a design has no problem: it is too large.
use Rattle.std.specs.Prelude.{ℕ, ◌+◌, ◌<◌, ◌≤◌, length, ⊤}
use Rattle.frac_core.specs.Limits.{most_rows, most_columns}
use Rattle.design_matrix.specs.declared.design.Design.{Design}
use Rattle.tv_penalty.specs.declared.Smoothing.{Smoothing}
use Rattle.rq_program.specs.declared.fault.ProgramFault.{ProgramFault}
use Rattle.rq_program.specs.declared.fault.ProgramFault.TheVariants.{OutOfMemory, TooManyRows, TooManyColumns}
use Rattle.rq_program.specs.Programs.{columns_of}

-- rows of both kinds
abbrev pub row_count : Design → Smoothing → ℕ
row_count design smoothing = length design.rows + length smoothing.rows

-- the rows are counted first
abbrev pub HasCause : Design → Smoothing → ProgramFault → Type 0
HasCause design smoothing OutOfMemory = ⊤
HasCause design smoothing TooManyRows = most_rows < row_count design smoothing
HasCause design smoothing TooManyColumns = (row_count design smoothing ≤ most_rows) × (most_columns < columns_of design smoothing)
