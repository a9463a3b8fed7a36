-- Law. What whoever goes on with a design knows of its rows and columns.
use Rattle.std.specs.Prelude.{◌≡◌, ◌≤◌, All, length, pos}
use Rattle.std.specs.declared.cmp.Ordering.TheVariants.{Less}
use Rattle.rational_laws.specs.Order.{cmp_ℚ}
use Rattle.rational_laws.specs.Rational.{whole}
use Rattle.frac_core.specs.Limits.{most_columns}
use Rattle.frac_core.specs.Values.{exact}
use Rattle.formula_parser.specs.declared.formula.Formula.{Formula}
use Rattle.design_matrix.specs.declared.design.Design.{Design}

-- there is a row, each has an entry for each name and a weight above 0, and there are at most 128 columns, and at least one
-- where no smooth adds any
pub record IsShaped (model : Formula) (design : Design) : Type 0 where
  pub rows : 1 ≤ length design.rows
  pub entries : All (λ r. length r.x ≡ length design.names) design.rows
  pub weighted : All (λ r. cmp_ℚ (whole (pos 0)) (exact r.weight) ≡ Less) design.rows
  pub some : length model.smooths ≡ 0 → 1 ≤ length design.names
  pub few : length design.names ≤ most_columns
