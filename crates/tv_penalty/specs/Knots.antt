-- Stated. The knots of a smooth: the distinct numbers of its column at the records of a design, ascending.
use Rattle.std.specs.Prelude.{◌-◌, List, [], Option}
use Rattle.std.specs.List.{filter_map}
use Rattle.frac_core.specs.declared.frac128.Frac128.{Frac128}
use Rattle.data_frame.specs.Cells.{numbers, factor, too_wide}
use Rattle.formula_parser.specs.declared.formula.Smooth.{Smooth}
use Rattle.design_matrix.specs.declared.design.DesignRow.{DesignRow}
use Rattle.design_matrix.specs.Cells.{Column, Table, cell_of, column_of}
use Rattle.design_matrix.specs.Levels.{levels_of, number_order}

-- the cells of a column of numbers; a factor has none
abbrev pub numbers_of : Column → List (Option Frac128)
numbers_of (numbers cells) = cells
numbers_of (factor cells) = []
numbers_of (too_wide rec) = []

-- the cells of a smooth's column
abbrev pub cells_of : Table → Smooth → List (Option Frac128)
cells_of table s = numbers_of (column_of table s.name)

-- the cell of a row's record, which is counted from 1
abbrev pub cell_at : List (Option Frac128) → DesignRow → Option Frac128
cell_at cells row = cell_of cells (row.rec - 1)

-- the knots that these cells give the rows
unfoldable pub knots_in : List (Option Frac128) → List DesignRow → List Frac128
knots_in cells rows = levels_of number_order (filter_map (cell_at cells) rows)

-- the knots of a smooth
abbrev pub knots_of : Table → List DesignRow → Smooth → List Frac128
knots_of table rows s = knots_in (cells_of table s) rows
