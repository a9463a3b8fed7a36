-- Inner. The walking step over quantiles that is left at a basis.
use Rattle.std.specs.Prelude.{◌≡◌, ℕ, Option, Some, None}
use Rattle.rational_laws.specs.Fraction.{Fraction, rational}
use Rattle.rational_laws.specs.Rational.{ℚ, ◌≤ℚ◌}
use Rattle.loss_model.specs.declared.spill.Spill.{Spill}
use Rattle.pivot_model.specs.Duals.{◌<ℚ◌}
use Rattle.walk_model.specs.Walks.{IsFirstMover}
use Rattle.tableau_model.specs.declared.answer.WalkingStep.{WalkingStep}
use Rattle.tableau_model.specs.declared.breakpoint.Breakpoint.{Breakpoint}
use Rattle.fraction_tableau.specs.declared.view.BasisView.{BasisView}
use Rattle.fraction_tableau.specs.Lines.{IsOrderSpill}
use Rattle.fraction_tableau.specs.Views.{sample_at, rows_at, entries_at}

module _ {F : Type 0} (value : F → Fraction) where
  -- the step at a crossing, or none where that is not below hi
  abbrev pub IsStepAt : BasisView F → Breakpoint F → ℚ → Option (WalkingStep F) → Type 0
  IsStepAt v b hi None = hi ≤ℚ rational (value b.theta)
  IsStepAt v b hi (Some x) =
      (rational (value b.theta) <ℚ hi) × (x.theta ≡ b.theta) × (x.position ≡ b.position)
      × IsFirstMover (sample_at value v) (rows_at value v) (entries_at value v) b.position b.direction x.row

  -- below hi, at an operation of the search for the row that enters
  abbrev pub IsStepSpillAt : ℕ → BasisView F → Breakpoint F → ℚ → Spill F → Type 0
  IsStepSpillAt range v b hi s =
      (rational (value b.theta) <ℚ hi) × IsOrderSpill value range (sample_at value v) (rows_at value v) (entries_at value v) b.position b.direction s
