-- Inner. Rows in whole numbers, as the sample that they are.
use Rattle.std.specs.Prelude.{◌≡◌, ℕ, ℤ, ◌<◌, ◌≤ℤ◌, List, length, slice_get, pos}
use Rattle.std.specs.Option.{option_map_or}
use Rattle.rational_laws.specs.Fraction.{Fraction, rational}
use Rattle.rational_laws.specs.Rational.{ℚ, ◌*ℚ◌, whole}
use Rattle.loss_model.specs.declared.problem.Row.{Row}
use Rattle.loss_model.specs.Problem.{value_at}
use Rattle.loss_model.specs.Sample.{Sample}
use Rattle.rational_laws.specs.WholeLists.{whole_at}
use Rattle.whole_inverse.specs.Shares.{share}
use Rattle.whole_rows.specs.declared.factor.Factor.{Factor}
use Rattle.whole_rows.specs.declared.rows.WholeRow.{WholeRow}
use Rattle.whole_rows.specs.declared.rows.WholeProblem.{WholeProblem}

abbrev pub factor_value : Factor ℤ → ℚ
factor_value f = share f.over f.under

pub record IsPositive (f : Factor ℤ) : Type 0 where
  pub over : pos 1 ≤ℤ f.over
  pub under : pos 1 ≤ℤ f.under

-- factor k, or 1 beyond the last
abbrev pub factor_at : List (Factor ℤ) → ℕ → ℚ
factor_at fs k = option_map_or factor_value (slice_get fs k) (whole (pos 1))

-- w is the row r with each entry times its factor, the response times fy, and the costs times fc
pub record IsWholeRow {F : Type 0} (value : F → Fraction) (factors : List (Factor ℤ)) (fy fc : Factor ℤ) (r : Row F) (w : WholeRow ℤ) : Type 0 where
  pub size : length w.x ≡ length r.x
  pub x : (k : ℕ) → k < length r.x → whole_at w.x k ≡ factor_at factors k *ℚ value_at value r.x k
  pub y : whole w.y ≡ factor_value fy *ℚ rational (value r.y)
  pub up0 : whole w.up0 ≡ factor_value fc *ℚ rational (value r.up0)
  pub up1 : whole w.up1 ≡ factor_value fc *ℚ rational (value r.up1)
  pub down0 : whole w.down0 ≡ factor_value fc *ℚ rational (value r.down0)
  pub down1 : whole w.down1 ≡ factor_value fc *ℚ rational (value r.down1)

-- a number of row i, or 0 beyond the last row
abbrev pub of_whole : List (WholeRow ℤ) → (WholeRow ℤ → ℚ) → ℕ → ℚ
of_whole rows number i = option_map_or number (slice_get rows i) (whole (pos 0))

-- the sample that the rows are
abbrev pub sample_of_rows : ℕ → List (WholeRow ℤ) → Sample
sample_of_rows n rows =
    record {
      rows = length rows;
      columns = n;
      x = λ i k. of_whole rows (λ r. whole_at r.x k) i;
      y = of_whole rows (λ r. whole r.y);
      up0 = of_whole rows (λ r. whole r.up0);
      up1 = of_whole rows (λ r. whole r.up1);
      down0 = of_whole rows (λ r. whole r.down0);
      down1 = of_whole rows (λ r. whole r.down1);
    }

abbrev pub whole_sample : WholeProblem ℤ ℤ → Sample
whole_sample w = sample_of_rows w.columns w.rows
