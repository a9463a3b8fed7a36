-- Stated. A problem of the program as a sample. A type of fractions is seen by what its values stand for.
use Rattle.std.specs.Prelude.{◌≡◌, ℕ, ◌≤◌, List, length, slice_get, All, pos}
use Rattle.std.specs.Option.{option_map_or}
use Rattle.rational_laws.specs.Rational.{ℚ, whole}
use Rattle.rational_laws.specs.Fraction.{Fraction, rational}
use Rattle.frac_core.specs.Limits.{most_rows, most_columns}
use Rattle.loss_model.specs.declared.problem.Row.{Row}
use Rattle.loss_model.specs.declared.problem.Problem.{Problem}
use Rattle.loss_model.specs.Sample.{Sample}

-- item i of a list as a fraction, or 0 beyond its end
abbrev pub value_at : {F : Type 0} → (F → Fraction) → List F → ℕ → ℚ
value_at value xs i = option_map_or (λ x. rational (value x)) (slice_get xs i) (whole (pos 0))

-- number i of a list of any size, or 0 beyond its end
abbrev pub number_at : List Fraction → ℕ → ℚ
number_at = value_at (λ x. x)

-- a number of row i, or 0 beyond the last row
abbrev pub of_row : {F : Type 0} → List (Row F) → (Row F → ℚ) → ℕ → ℚ
of_row rows number i = option_map_or number (slice_get rows i) (whole (pos 0))

-- the sample that the rows are
abbrev pub sample : {F : Type 0} → (F → Fraction) → Problem F → Sample
sample value p =
    record {
      rows = length p.rows;
      columns = p.columns;
      x = λ i k. of_row p.rows (λ r. value_at value r.x k) i;
      y = of_row p.rows (λ r. rational (value r.y));
      up0 = of_row p.rows (λ r. rational (value r.up0));
      up1 = of_row p.rows (λ r. rational (value r.up1));
      down0 = of_row p.rows (λ r. rational (value r.down0));
      down1 = of_row p.rows (λ r. rational (value r.down1));
    }

-- 1 to 128 columns, at most 16,384 rows, and one entry per column in each
pub record IsWellShaped {F : Type 0} (p : Problem F) : Type 0 where
  pub some : 1 ≤ p.columns
  pub columns : p.columns ≤ most_columns
  pub rows : length p.rows ≤ most_rows
  pub entries : All (λ r. length r.x ≡ p.columns) p.rows
