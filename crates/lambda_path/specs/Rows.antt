-- Inner. The rows of a path problem as they are made, with the values of their numbers.
use Rattle.std.specs.Prelude.{ℕ, List, ◌++◌, map, pos}
use Rattle.rational_laws.specs.Rational.{ℚ, ◌-ℚ◌, ◌*ℚ◌, whole}
use Rattle.frac_core.specs.declared.frac128.Frac128.{Frac128}
use Rattle.frac_core.specs.Values.{exact}
use Rattle.loss_model.specs.declared.problem.Problem.{Problem}
use Rattle.loss_model.specs.declared.problem.Row.{Row}
use Rattle.tv_penalty.specs.Smoothings.{PenaltyOf, unit_rows}

-- a data row with its costs at tau
abbrev pub data_row : ℚ → Row Frac128 → Row ℚ
data_row tau r = record {
  x = map exact r.x;
  y = exact r.y;
  up0 = exact r.up1 *ℚ tau;
  up1 = whole (pos 0);
  down0 = exact r.up1 *ℚ (whole (pos 1) -ℚ tau);
  down1 = whole (pos 0);
}

-- a penalty, whose cost is a multiple of the parameter
abbrev pub penalty_row : PenaltyOf → Row ℚ
penalty_row r = record { x = r.x; y = whole (pos 0); up0 = whole (pos 0); up1 = r.lambda; down0 = whole (pos 0); down1 = r.lambda }

-- the data rows, and then the penalties
abbrev pub rows_of : Problem Frac128 → ℕ → ℚ → List (Row ℚ)
rows_of p first tau = map (data_row tau) p.rows ++ map penalty_row (unit_rows p.columns first (whole (pos 1)))
