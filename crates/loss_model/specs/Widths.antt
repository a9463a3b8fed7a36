-- Inner. The shared types with their numbers replaced by a function's, and which problems have numbers of 64 bits.
use Rattle.std.specs.Prelude.{◌-◌, ◌^◌, map, All}
use Rattle.frac_core.specs.declared.frac128.Frac128.{Frac128}
use Rattle.frac_core.specs.Overflow.{IsWithin}
use Rattle.frac_core.specs.Values.{value as wide_value}
use Rattle.loss_model.specs.declared.problem.Row.{Row}
use Rattle.loss_model.specs.declared.problem.Problem.{Problem}

-- a row whose numbers are those of f
abbrev pub row_by : {A B : Type 0} → (A → B) → Row A → Row B
row_by f r = record { x = map f r.x; y = f r.y; up0 = f r.up0; up1 = f r.up1; down0 = f r.down0; down1 = f r.down1 }

-- a problem
abbrev pub problem_by : {A B : Type 0} → (A → B) → Problem A → Problem B
problem_by f p = record { columns = p.columns; rows = map (row_by f) p.rows }

-- a fraction of 128 bits is within 64
abbrev pub IsNarrow : Frac128 → Type 0
IsNarrow x = IsWithin (2 ^ 63 - 1) (wide_value x)

-- every number of a row is
pub record IsNarrowRow (r : Row Frac128) : Type 0 where
  pub x : All IsNarrow r.x
  pub y : IsNarrow r.y
  pub up0 : IsNarrow r.up0
  pub up1 : IsNarrow r.up1
  pub down0 : IsNarrow r.down0
  pub down1 : IsNarrow r.down1
