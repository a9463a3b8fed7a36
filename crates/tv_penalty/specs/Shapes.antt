-- Law. What whoever goes on with a smoothing knows of its lists and its rows.
use Rattle.std.specs.Prelude.{◌≡◌, ◌≤◌, All, length, pos}
use Rattle.std.specs.declared.cmp.Ordering.TheVariants.{Less}
use Rattle.rational_laws.specs.Order.{cmp_ℚ}
use Rattle.rational_laws.specs.Rational.{whole}
use Rattle.frac_core.specs.Values.{exact}
use Rattle.formula_parser.specs.declared.formula.Formula.{Formula}
use Rattle.design_matrix.specs.declared.design.Design.{Design}
use Rattle.tv_penalty.specs.declared.Smoothing.{Smoothing}

-- it has a list for each row of the design and an entry for each name, and a name where the formula has a smooth; the lambda
-- of each row is above 0
pub record IsShaped (design : Design) (model : Formula) (s : Smoothing) : Type 0 where
  pub lists : length s.columns ≡ length design.rows
  pub entries : All (λ xs. length xs ≡ length s.names) s.columns
  pub penalties : All (λ r. length r.x ≡ length s.names) s.rows
  pub some : 1 ≤ length model.smooths → 1 ≤ length s.names
  pub weighted : All (λ r. cmp_ℚ (whole (pos 0)) (exact r.lambda) ≡ Less) s.rows
