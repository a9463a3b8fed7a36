-- Stated. Rows of a problem by their values.
use Rattle.std.specs.Prelude.{map}
use Rattle.rational_laws.specs.Rational.{ℚ}
use Rattle.frac_core.specs.Values.{exact}
use Rattle.frac_core.specs.declared.frac128.Frac128.{Frac128}
use Rattle.loss_model.specs.declared.problem.Row.{Row}

-- a row with the values of its numbers
abbrev pub exact_row : Row Frac128 → Row ℚ
exact_row r = record { x = map exact r.x; y = exact r.y; up0 = exact r.up0; up1 = exact r.up1; down0 = exact r.down0; down1 = exact r.down1 }
