-- Stated. What smooths add to a design: a column for the value of the function at each knot, and a row for its change of
-- slope at each inner knot (Koenker, Ng and Portnoy 1994). Where the model has an intercept the function is 0 at the first
-- knot, whose value has no column.
use Rattle.std.specs.Prelude.{ℕ, ◌+◌, ◌-◌, ◌++◌, ◌&&◌, Bool, true, false, List, [], ◌∷◌, Option, codes, drop, length, map, pos, replicate, if◌then◌else◌}
use Rattle.std.specs.List.{flat_map, range_with_len}
use Rattle.std.specs.Ordering.{is_lt}
use Rattle.rational_laws.specs.Order.{cmp_ℚ}
use Rattle.rational_laws.specs.Rational.{ℚ, ◌+ℚ◌, ◌-ℚ◌, neg_ℚ, inverse, whole}
use Rattle.frac_core.specs.declared.frac128.Frac128.{Frac128}
use Rattle.frac_core.specs.Values.{exact, value}
use Rattle.data_frame.specs.Records.{Text}
use Rattle.loss_model.specs.Problem.{value_at}
use Rattle.formula_parser.specs.declared.formula.Formula.{Formula}
use Rattle.formula_parser.specs.declared.formula.Smooth.{Smooth}
use Rattle.design_matrix.specs.declared.design.Design.{Design}
use Rattle.design_matrix.specs.declared.design.DesignRow.{DesignRow}
use Rattle.design_matrix.specs.Cells.{Table, number_in}
use Rattle.design_matrix.specs.Levels.{by_order, number_text}
use Rattle.design_matrix.specs.Lists.{each}
use Rattle.tv_penalty.specs.declared.PenaltyRow.{PenaltyRow}
use Rattle.tv_penalty.specs.declared.Smoothing.{Smoothing}
use Rattle.tv_penalty.specs.Knots.{cells_of, knots_of}

-- ---- values

-- a penalty row, and what smooths add, with the values of their numbers
pub record PenaltyOf : Type 0 where
  pub x : List ℚ
  pub lambda : ℚ

-- the names of the columns, the entries of each row of the design, and the penalty rows
pub record SmoothingOf : Type 0 where
  pub names : List Text
  pub columns : List (List ℚ)
  pub rows : List PenaltyOf

-- a penalty row of the program
abbrev pub exact_penalty : PenaltyRow → PenaltyOf
exact_penalty r = record { x = map exact r.x; lambda = exact r.lambda }

-- what the program holds of smooths
abbrev pub exact_smoothing : Smoothing → SmoothingOf
exact_smoothing s = record { names = s.names; columns = map (map exact) s.columns; rows = map exact_penalty s.rows }

-- ---- one smooth

-- the change of slope at an inner knot: factors of the values at the knot below it, at itself, and at the knot above
pub record Bend : Type 0 where
  pub below : ℚ
  pub at_knot : ℚ
  pub above : ℚ

-- the bend at y between its neighbours x and z: 1/(y-x), the negated sum of both, and 1/(z-y)
abbrev pub bend_of : ℚ → ℚ → ℚ → Bend
bend_of x y z = record {
  below = inverse (y -ℚ x);
  at_knot = neg_ℚ (inverse (y -ℚ x) +ℚ inverse (z -ℚ y));
  above = inverse (z -ℚ y);
}

-- knot k as a number
abbrev pub knot_at : List Frac128 → ℕ → ℚ
knot_at = value_at value

-- the bend at the knot after knot k
abbrev pub bend_after : List Frac128 → ℕ → Bend
bend_after knots k = bend_of (knot_at knots k) (knot_at knots (k + 1)) (knot_at knots (k + 2))

-- the bends at all inner knots, ascending
abbrev pub bends_of : List Frac128 → List Bend
bends_of knots = map (bend_after knots) (range_with_len 0 (length knots - 2))

-- a smooth has penalty rows where they are asked for and its lambda is above 0
abbrev pub has_rows : Bool → ℚ → Bool
has_rows penalised lambda = penalised && is_lt (cmp_ℚ (whole (pos 0)) lambda)

-- a smooth with the cells of its column, its knots, and the bends that are penalised
pub record PartOf : Type 0 where
  pub name : Text
  pub lambda : ℚ
  pub cells : List (Option Frac128)
  pub knots : List Frac128
  pub bends : List Bend

-- a smooth at the rows of a design
unfoldable pub part_of : Bool → Table → List DesignRow → Smooth → PartOf
part_of penalised table rows s = record {
  name = s.name;
  lambda = exact s.lambda;
  cells = cells_of table s;
  knots = knots_of table rows s;
  bends = if has_rows penalised (exact s.lambda) then bends_of (knots_of table rows s) else [];
}

-- what stands at the knots that have a column: at all of them, or beside an intercept at all but the first
abbrev pub with_columns : {A : Type 0} → Bool → List A → List A
with_columns true xs = drop 1 xs
with_columns false xs = xs

-- the column of a knot: qss(NAME)[KNOT]
abbrev pub knot_name : Text → Frac128 → Text
knot_name name knot = codes "qss(" ++ name ++ codes ")[" ++ number_text knot ++ codes "]"

-- 1 where the number is the knot, and else 0
abbrev pub knot_entry : ℚ → Frac128 → ℚ
knot_entry x knot = by_order (cmp_ℚ x (exact knot)) (whole (pos 0)) (whole (pos 1)) (whole (pos 0))

-- the names of a smooth's columns
abbrev pub part_names : Bool → PartOf → List Text
part_names intercept p = map (knot_name p.name) (with_columns intercept p.knots)

-- the entries of a row in them
abbrev pub part_entries : Bool → DesignRow → PartOf → List ℚ
part_entries intercept row p = map (knot_entry (number_in p.cells (row.rec - 1))) (with_columns intercept p.knots)

-- the number of a smooth's columns
abbrev pub width : Bool → PartOf → ℕ
width intercept p = length (with_columns intercept p.knots)

-- ---- all smooths

-- entries from a place on, and 0 in all other columns
abbrev pub placed : ℕ → ℕ → List ℚ → List ℚ
placed columns before xs = replicate before (whole (pos 0)) ++ (xs ++ replicate (columns - (before + length xs)) (whole (pos 0)))

-- the bend after knot k over the values at all knots
abbrev pub bend_entries : ℕ → ℕ → Bend → List ℚ
bend_entries knots k b = placed knots k (b.below ∷ b.at_knot ∷ b.above ∷ [])

-- the row of the bend after knot k of a smooth, before whose columns so many of the others stand
abbrev pub bend_row : Bool → ℕ → ℕ → PartOf → ℕ → Bend → PenaltyOf
bend_row intercept columns before p k b = record {
  x = placed columns before (with_columns intercept (bend_entries (length p.knots) k b));
  lambda = p.lambda;
}

-- the rows of smooths one after the other
abbrev pub rows_from : Bool → ℕ → ℕ → List PartOf → List PenaltyOf
rows_from intercept columns before [] = []
rows_from intercept columns before (p ∷ ps) =
    each (bend_row intercept columns before p) 0 p.bends ++ rows_from intercept columns (before + width intercept p) ps

-- what these smooths add to a design of these rows
unfoldable pub smoothing_of : Bool → List DesignRow → List PartOf → SmoothingOf
smoothing_of intercept rows ps = record {
  names = flat_map (part_names intercept) ps;
  columns = map (λ row. flat_map (part_entries intercept row) ps) rows;
  rows = rows_from intercept (length (flat_map (part_names intercept) ps)) 0 ps;
}

-- what the smooths of a formula add, with penalty rows or without
abbrev pub smoothing_by : Bool → Table → Design → Formula → SmoothingOf
smoothing_by penalised table design model =
    smoothing_of model.intercept design.rows (map (part_of penalised table design.rows) model.smooths)

-- ---- unit rows

-- a row for the coefficient of column k alone
abbrev pub unit_row : ℕ → ℚ → ℕ → PenaltyOf
unit_row columns lambda k = record { x = placed columns k (whole (pos 1) ∷ []); lambda = lambda }

-- those of the columns from the first on
abbrev pub unit_rows : ℕ → ℕ → ℚ → List PenaltyOf
unit_rows columns first lambda = map (unit_row columns lambda) (range_with_len first (columns - first))
