-- Rows of a problem that were read.
use Rattle.std.specs.Prelude.{◌≡◌, ℕ, ◌<◌, List, length, get_or, slice_get, Option, Some, pos}
use Rattle.std.specs.Option.{option_map_or}
use Rattle.std.proofs.Common.{refl, sym, ap, subst, ◌∙◌}
use Rattle.std.proofs.lemmas.Option.{slice_get_read}
use Rattle.rational_laws.specs.Fraction.{Fraction, rational}
use Rattle.rational_laws.specs.Rational.{ℚ, neg_ℚ, whole}
use Rattle.loss_model.specs.declared.problem.Row.{Row}
use Rattle.loss_model.specs.declared.problem.Problem.{Problem}
use Rattle.loss_model.specs.declared.vertex.Side.{Side}
use Rattle.loss_model.specs.declared.vertex.Side.TheVariants.{Up, Down, Basic}
use Rattle.loss_model.specs.Problem.{value_at, of_row, sample, IsWellShaped}
use Rattle.basis_inverse.specs.Square.{entries}
use Rattle.basis_model.specs.declared.part.Part.{Part}
use Rattle.basis_model.specs.declared.part.Part.TheVariants.{Constant, Linear}
use Rattle.basis_model.specs.Basis.{bound_part}
use Rattle.basic_solution.specs.Bases.{bound_of}

module _ {F : Type 0} (value : F → Fraction) (p : Problem F) (i : ℕ) (r : Row F) (within : i < length p.rows) (is : r ≡ get_or p.rows i r) where
  -- a number of the row
  pub row_number : (f : Row F → ℚ) → f r ≡ of_row p.rows f i
  row_number f = sym (ap (λ (o : Option (Row F)). option_map_or f o (whole (pos 0))) (slice_get_read p.rows (length p.rows) i r refl within is))

  -- what holds of its entries holds of those in the sample
  at_row : (P : (ℕ → ℚ) → Type 0) → P (value_at value r.x) → P ((sample value p).x i)
  at_row P h = subst (λ (o : Option (Row F)). P (λ k. option_map_or (λ r. value_at value r.x k) o (whole (pos 0)))) (sym (slice_get_read p.rows (length p.rows) i r refl within is)) h

  pub row_wide : IsWellShaped p → length r.x ≡ p.columns
  row_wide shaped = ap (λ (r : Row F). length r.x) is ∙ shaped.entries i r within

  -- and so what holds of a list of them
  pub at_entries : IsWellShaped p → (xs : List F) → xs ≡ r.x → (P : ℕ → (ℕ → ℚ) → Type 0) → P (length xs) (value_at value xs) → P p.columns ((sample value p).x i)
  at_entries shaped xs same P h =
      at_row (P p.columns) (subst (λ n. P n (value_at value r.x)) (row_wide shaped) (subst (λ (ys : List F). P (length ys) (value_at value ys)) same h))

  -- a part of its bound
  pub row_bound : (part : Part) (side : Side) → bound_of value r part side ≡ bound_part (sample value p) part i side
  row_bound Constant Up = row_number (λ r. rational (value r.up0))
  row_bound Constant Down = ap neg_ℚ (row_number (λ r. rational (value r.down0)))
  row_bound Constant Basic = refl
  row_bound Linear Up = row_number (λ r. rational (value r.up1))
  row_bound Linear Down = ap neg_ℚ (row_number (λ r. rational (value r.down1)))
  row_bound Linear Basic = refl

-- what holds of the values of a list that stands at a place holds of that list in the matrix
pub at_list : {F : Type 0} (value : F → Fraction) (P : (ℕ → ℚ) → Type 0) (lists : List (List F)) (j : ℕ) (xs : List F) → slice_get lists j ≡ Some xs → P (value_at value xs) → P (entries value lists j)
at_list {F} value P lists j xs is h = subst (λ (o : Option (List F)). P (λ k. option_map_or (λ xs. value_at value xs k) o (whole (pos 0)))) (sym is) h
