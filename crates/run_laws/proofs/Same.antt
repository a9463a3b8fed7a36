-- What is seen alike is the same: fractions of 128 bits by their values, and what is made of them.
use Rattle.std.proofs.Common.{◌≡◌, Option, Some, None, option_map, refl, ap}
use Rattle.rational_laws.proofs.Lists.{same_lists}
use Rattle.frac_core.specs.declared.frac128.Frac128.{Frac128}
use Rattle.frac_core.specs.Values.{exact}
use Rattle.frac_core.proofs.Values.{same_number}
use Rattle.data_frame.specs.Views.{exact_column, exact_table}
use Rattle.data_frame.specs.Cells.{ColumnOf, numbers, factor, too_wide}
use Rattle.data_frame.specs.Tables.{TableOf}

same_cell : (x y : Option Frac128) → option_map exact x ≡ option_map exact y → x ≡ y
same_cell None None e = refl
same_cell None (Some y) e = absurd (cc e)
same_cell (Some x) None e = absurd (cc e)
same_cell (Some x) (Some y) e = ap Some (same_number x y (cc e))

same_column : (x y : ColumnOf Frac128) → exact_column x ≡ exact_column y → x ≡ y
same_column (numbers xs) (numbers ys) e = ap numbers (same_lists (option_map exact) same_cell xs ys (cc e))
same_column (numbers xs) (factor ys) e = absurd (cc e)
same_column (numbers xs) (too_wide n) e = absurd (cc e)
same_column (factor xs) (numbers ys) e = absurd (cc e)
same_column (factor xs) (factor ys) e = ap factor (cc e)
same_column (factor xs) (too_wide n) e = absurd (cc e)
same_column (too_wide m) (numbers ys) e = absurd (cc e)
same_column (too_wide m) (factor ys) e = absurd (cc e)
same_column (too_wide m) (too_wide n) e = ap too_wide (cc e)

-- a table has one form
pub same_table : (a b : TableOf Frac128) → exact_table a ≡ exact_table b → a ≡ b
same_table a b e =
    let columns = same_lists exact_column same_column a.columns b.columns (ap (λ t. t.columns) e) in
    λ i. record { names = (e i).names; records = (e i).records; columns = columns i }
