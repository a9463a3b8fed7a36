-- Inner. A column of numerators for rows within a limit.
use Rattle.std.specs.Prelude.{◌≡◌, ℕ, ℤ, ◌*◌, ◌^◌, ◌<◌, List}
use Rattle.wide_int.specs.Numbers.{sizes}
use Rattle.whole_solution.specs.declared.column.Column.{Column}
use Rattle.whole_solution.specs.declared.column.Width.{Width}
use Rattle.whole_solution.specs.declared.column.Width.TheVariants.{Narrow, Wide, Unknown}

-- all products of these numbers with rows within the limit have room in the width, and the numbers themselves in the narrow one
abbrev pub HasWidth : List ℤ → ℕ → Width → Type 0
HasWidth xs most Narrow = (most * sizes xs < 2 ^ 63) × (sizes xs < 2 ^ 63)
HasWidth xs most Wide = most * sizes xs < 2 ^ 127
HasWidth xs most Unknown = Unit {0}

-- the column of these numbers
pub record IsColumn (xs : List ℤ) (most : ℕ) (c : Column) : Type 0 where
  pub numbers : c.numbers.now ≡ xs
  pub limit : c.limit ≡ most
  pub width : HasWidth xs most c.width
