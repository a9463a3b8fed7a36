-- The rows of an input, and why there is none.
use Rattle.std.proofs.Common.{◌≡◌, ◌<◌, ℕ, zero, suc, Bool, true, List, [], ◌∷◌, All, length, map, pos, arith, refl, sym, ap, ◌∙◌}
use Rattle.std.specs.declared.cmp.Ordering.TheVariants.{Less}
use Rattle.std.proofs.lemmas.List.{length-map}
use Rattle.rational_laws.specs.Order.{cmp_ℚ}
use Rattle.rational_laws.specs.Rational.{whole}
use Rattle.frac_core.specs.Values.{exact}
use Rattle.loss_model.specs.Problem.{IsWellShaped}
use Rattle.formula_parser.specs.declared.formula.Formula.{Formula}
use Rattle.formula_parser.specs.declared.formula.Smooth.{Smooth}
use Rattle.design_matrix.specs.Cells.{Table}
use Rattle.design_matrix.specs.Shapes.{IsShaped as IsShapedDesign}
use Rattle.design_matrix.specs.declared.design.Design.{Design}
use Rattle.design_matrix.specs.declared.design.DesignRow.{DesignRow}
use Rattle.tv_penalty.specs.Shapes.{IsShaped as IsShapedSmoothing}
use Rattle.tv_penalty.specs.Smoothings.{exact_penalty, exact_smoothing, part_of, smoothing_by, smoothing_of}
use Rattle.tv_penalty.specs.declared.Smoothing.{Smoothing}
use Rattle.rq_program.specs.Costs.{HasDataRows}
use Rattle.rq_program.specs.Programs.{AreTogether, columns_of}
use Rattle.rq_words.specs.declared.job.FitJob.{FitJob}
use Rattle.report_text.specs.declared.report.Refusal.TheVariants as refusals
use Rattle.report_text.specs.declared.report.Halt.{Halt}
use Rattle.report_text.specs.declared.report.Halt.TheVariants.{Refused, OutOfMemory}
use Rattle.rq_input.specs.Inputs.{HasModelCause, HasTableCause}
use Rattle.rq_input.specs.Models.{IsModel}
use Rattle.rq_input.specs.Rows.{HasRows}
use Rattle.rq_input.specs.declared.input.Input.{Input}

-- a design and what the smooths of its model add go together
pub together : (model : Formula) (design : Design) (smoothing : Smoothing) → IsShapedDesign model design → IsShapedSmoothing design model smoothing → AreTogether design smoothing
together model design smoothing d s =
    record { entries = d.entries; lists = s.lists; smooth = s.entries; penalties = s.penalties; some = some (length model.smooths) refl }
  where
    some : (n : ℕ) → length model.smooths ≡ n → 0 < columns_of design smoothing
    some zero none = let column = d.some none in omega (arith, column)
    some (suc n) many = let column = s.some (omega (arith, many)) in omega (arith, column)

-- the rows of an input with weights and lambdas above 0
pub has_rows : (input : Input) → AreTogether input.design input.smoothing → IsWellShaped input.problem → HasDataRows input.design input.smoothing input.problem
    → All (λ r. cmp_ℚ (whole (pos 0)) (exact r.weight) ≡ Less) input.design.rows → All (λ r. cmp_ℚ (whole (pos 0)) (exact r.lambda) ≡ Less) input.smoothing.rows → HasRows input
has_rows input both shaped rows weights lambdas = record {
  together = both;
  shaped = shaped;
  size = rows.count;
  are_data = rows.are_data weights;
  are_penalties = λ i behind within. rows.are_penalties lambdas i behind (omega (arith, rows.count, within));
}

-- no smooths have no penalty rows
none_of : (intercept : Bool) (table : Table) (rows : List DesignRow) (ss : List Smooth) → length ss ≡ 0 → length (smoothing_of intercept rows (map (part_of true table rows) ss)).rows ≡ 0
unfolding smoothing_of
none_of intercept table rows [] none = refl
none_of intercept table rows (s ∷ ss) none = absurd (omega (arith, none))

-- nor columns
names_of_none : (intercept : Bool) (table : Table) (rows : List DesignRow) (ss : List Smooth) → length ss ≡ 0 → length (smoothing_of intercept rows (map (part_of true table rows) ss)).names ≡ 0
unfolding smoothing_of
names_of_none intercept table rows [] none = refl
names_of_none intercept table rows (s ∷ ss) none = absurd (omega (arith, none))

pub no_names : (table : Table) (design : Design) (model : Formula) (smoothing : Smoothing) → exact_smoothing smoothing ≡ smoothing_by true table design model → length model.smooths ≡ 0 → length smoothing.names ≡ 0
no_names table design model smoothing added none = ap (λ s. length s.names) added ∙ names_of_none model.intercept table design.rows model.smooths none

pub no_rows : (table : Table) (design : Design) (model : Formula) (smoothing : Smoothing) → exact_smoothing smoothing ≡ smoothing_by true table design model → length model.smooths ≡ 0 → length smoothing.rows ≡ 0
no_rows table design model smoothing added none =
    sym (length-map smoothing.rows exact_penalty) ∙ ap (λ s. length s.rows) added ∙ none_of model.intercept table design.rows model.smooths none

-- why a model has no problem is why its table has none
module _ (job : FitJob) (ranked : Bool) (table : Table) (model : Formula) (stated : IsModel job ranked table model) where
  pub model_cause : (halt : Halt) → HasModelCause job table model halt → HasTableCause job ranked table halt
  model_cause (Refused (refusals.Design fault)) h = record { model = model; stated = stated; cause = h }
  model_cause (Refused (refusals.Penalty fault)) h = record { model = model; stated = stated; cause = h }
  model_cause (Refused (refusals.Program fault)) h = record { model = model; stated = stated; cause = h }
  model_cause OutOfMemory h = tt
  model_cause halt h = absurd h
