-- Where there is an intercept, the first entry of the first row is 1.
use Rattle.std.proofs.Common.{◌≡◌, ◌≢◌, ◌≤◌, ℕ, true, List, [], ◌∷◌, ◌++◌, Option, length, map, zip, pos, arith, refl, sym, ap, subst, ◌∙◌}
use Rattle.std.proofs.lemmas.List.{length-map}
use Rattle.rational_laws.specs.Rational.{ℚ, whole}
use Rattle.rational_laws.proofs.Inverses.{one-zero}
use Rattle.frac_core.specs.declared.frac128.Frac128.{Frac128}
use Rattle.frac_core.specs.Values.{exact, value}
use Rattle.contrasts.specs.declared.Coding.{Coding}
use Rattle.loss_model.specs.Problem.{of_row, sample, value_at}
use Rattle.loss_model.specs.declared.problem.Row.{Row}
use Rattle.loss_model.specs.Values.{exact_row}
use Rattle.formula_parser.specs.declared.formula.Formula.{Formula}
use Rattle.design_matrix.specs.Cells.{Column, Table, kept, weights_in}
use Rattle.design_matrix.specs.Designs.{design_of}
use Rattle.design_matrix.specs.Designs.{RowOf as DesignRowOf}
use Rattle.design_matrix.specs.Designs.{exact_row as exact_design_row}
use Rattle.design_matrix.specs.Parts.{columns_of}
use Rattle.design_matrix.specs.declared.design.DesignRow.{DesignRow}
use Rattle.rq_program.specs.Programs.{data_row, rows_of}
use Rattle.rq_words.specs.declared.job.FitJob.{FitJob}
use Rattle.rq_input.specs.Models.{IsDesigned}
use Rattle.rq_input.specs.PlainRows.{HasIntercept}
use Rattle.rq_input.specs.Rows.{HasRows}
use Rattle.rq_input.specs.declared.input.Input.{Input}

-- the first of some numbers, or 0
abbrev front : List ℚ → ℚ
front [] = whole (pos 0)
front (x ∷ xs) = x

-- the first entry of the first row of a design
abbrev design_front : List DesignRowOf → ℚ
design_front [] = whole (pos 0)
design_front (r ∷ rs) = front r.x

-- that of a problem
abbrev problem_front : List (Row ℚ) → ℚ
problem_front [] = whole (pos 0)
problem_front (r ∷ rs) = front r.x

pub front_value : (xs : List Frac128) → value_at value xs 0 ≡ front (map exact xs)
front_value [] = refl
front_value (x ∷ xs) = refl

front_of_rows : (rows : List (Row Frac128)) → of_row rows (λ r. value_at value r.x 0) 0 ≡ problem_front (map exact_row rows)
front_of_rows [] = refl
front_of_rows (r ∷ rs) = front_value r.x

front_joined : (xs ys : List ℚ) → front xs ≢ whole (pos 0) → front (xs ++ ys) ≡ front xs
front_joined [] ys some = absurd (some refl)
front_joined (x ∷ xs) ys some = refl

-- the entries of the smooths stand behind those of the design
front_of_data : (rows : List DesignRow) (smooths : List (List Frac128)) (penalties : List (Row ℚ)) → length smooths ≡ length rows
    → design_front (map exact_design_row rows) ≢ whole (pos 0)
    → problem_front (map data_row (zip rows smooths) ++ penalties) ≡ design_front (map exact_design_row rows)
front_of_data [] smooths penalties same some = absurd (some refl)
front_of_data (d ∷ ds) [] penalties same some = absurd (omega (arith, same))
front_of_data (d ∷ ds) (s ∷ ss) penalties same some = front_joined (map exact d.x) (map exact s) some

-- the first column of a design with an intercept is the product of nothing
front_of_design : (table : Table) (model : Formula) (coding : Coding) (weights : Option Column) (records : List ℕ) → model.intercept ≡ true
    → 1 ≤ length (design_of table model coding weights records).rows → design_front (design_of table model coding weights records).rows ≡ whole (pos 1)
unfolding design_of columns_of
front_of_design table model coding weights [] intercept some = absurd (omega (arith, some))
front_of_design table model coding weights (i ∷ is) intercept some = rw intercept refl

module _ (job : FitJob) (table : Table) (model : Formula) (input : Input) (designed : IsDesigned job table model input.design) (problem : map exact_row input.problem.rows ≡ rows_of input.design input.smoothing) (rows : HasRows input)
    (some : 1 ≤ length input.design.rows) where
  design_entry : model.intercept ≡ true → design_front (map exact_design_row input.design.rows) ≡ whole (pos 1)
  design_entry intercept =
      let is = ap (λ d. d.rows) designed.design_is.exact in
      let count = sym (length-map input.design.rows exact_design_row) ∙ ap length is in
      ap design_front is ∙ front_of_design table model job.coding (weights_in table job.weights) (kept table model job.weights) intercept (subst (λ n. 1 ≤ n) count some)

  entry : model.intercept ≡ true → (sample value input.problem).x 0 0 ≡ whole (pos 1)
  entry intercept =
      front_of_rows input.problem.rows ∙ ap problem_front problem
      ∙ front_of_data input.design.rows input.smoothing.columns _ rows.together.lists (λ none. one-zero (sym (design_entry intercept) ∙ none))
      ∙ design_entry intercept

  pub has_intercept : HasIntercept model.intercept input
  has_intercept = record { some = let size = rows.size in omega (arith, size, some); entry = λ intercept none. one-zero (sym (entry intercept) ∙ none) }
