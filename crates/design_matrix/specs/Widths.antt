-- Inner. How many columns and levels a variable has that the code holds.
use Rattle.std.specs.Prelude.{◌≤◌, ℕ, length}
use Rattle.frac_core.specs.Limits.{most_rows}
use Rattle.contrasts.specs.declared.Coding.{Coding}
use Rattle.contrasts.specs.Coding.{width_of}
use Rattle.design_matrix.specs.declared.coded.CodedVariable.{CodedVariable}
use Rattle.design_matrix.specs.declared.coded.Values.{Values}
use Rattle.design_matrix.specs.declared.coded.Values.TheVariants.{Numbers, Levels, Computed}

-- how many levels
abbrev pub levels_held : Values → ℕ
levels_held (Numbers cells records) = 0
levels_held (Levels levels) = length levels.texts.items
levels_held (Computed c) = 0

-- how many columns
abbrev pub width_held : Coding → Values → ℕ
width_held coding (Numbers cells records) = 1
width_held coding (Levels levels) = width_of coding (length levels.texts.items)
width_held coding (Computed c) = 1

-- a variable has a column, and not too many levels for a coding's table
pub record IsUsable (v : CodedVariable) : Type 0 where
  pub some : 1 ≤ width_held v.coding v.values
  pub few : levels_held v.values ≤ most_rows
