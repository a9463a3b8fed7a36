-- The walking step that is left at a basis.
use Rattle.std.specs.Prelude.{ℕ, ◌<◌, Option, Some, None}
use Rattle.std.proofs.Common.{sym, subst, inl, inr}
use Rattle.rational_laws.specs.Fraction.{Fraction, rational}
use Rattle.rational_laws.specs.Rational.{ℚ, ◌≤ℚ◌}
use Rattle.rational_laws.proofs.RationalLaws.{≤ℚ_trans}
use Rattle.loss_model.specs.declared.spill.Spill.{Spill}
use Rattle.loss_model.specs.Sample.{Sample}
use Rattle.loss_model.specs.Spill.{AtSome}
use Rattle.pivot_model.specs.declared.direction.Direction.{Direction}
use Rattle.pivot_model.specs.Duals.{◌<ℚ◌}
use Rattle.walk_model.specs.Families.{over_quantiles, IsOptimalIn}
use Rattle.walk_model.specs.Walks.{Crosses, IsNextBreak, IsWalkingStep}
use Rattle.walk_model.specs.WalkTrails.{is_below}
use Rattle.walk_model.specs.SlopeLaws.{crossing_of}
use Rattle.walk_model.specs.WalkSpills.{IsCrossingSpill, IsStaySpill, of_basis, of_crossing, of_pivot, of_ratio, of_tie}
use Rattle.walk_model.proofs.Trails.{below_from}
use Rattle.tableau_model.specs.declared.answer.WalkingStep.{WalkingStep}
use Rattle.tableau_model.specs.WalkAnswers.{IsWalkingAnswer}
use Rattle.fraction_tableau.specs.Kept.{place}
use Rattle.tableau_model.specs.declared.breakpoint.Breakpoint.{Breakpoint}
use Rattle.fraction_tableau.specs.declared.view.BasisView.{BasisView}
use Rattle.tableau_model.specs.Crossings.{passes_at, IsFirst, IsFirstOf}
use Rattle.fraction_tableau.specs.Lines.{at_coordinates, at_ratio, at_tie}
use Rattle.fraction_tableau.specs.Views.{sample_at, rows_at, entries_at}
use Rattle.fraction_tableau.specs.WalkingSteps.{IsStepAt, IsStepSpillAt}
use Rattle.tableau_model.proofs.Tests.{below_test}
use Rattle.fraction_tableau.proofs.Crossed.{none_crosses, first_is_next}

module _ {F : Type 0} (value : F → Fraction) (p : Sample) (at : ℕ → ℕ) (a : ℕ → ℕ → ℚ) (from hi : ℚ) where
  pub none_left : IsFirstOf value (passes_at p at a) (crossing_of p at a) p.columns None → (t : ℚ) (j r : ℕ) → ¬ IsWalkingStep (over_quantiles p) at a (is_below hi) from t j r
  none_left none t j r h = none_crosses value p at a none t j h.direction h.break.position h.break.crosses

  pub crossings_spill : (range : ℕ) (s : Spill F) → from <ℚ hi → AtSome p.columns (λ j. (d : Direction) × IsCrossingSpill value range p at a j d s) → IsStaySpill value range p at a from hi s
  crossings_spill range s before (j, lj, (d, k)) = of_crossing j d before lj k

-- a first crossing is one
pub first_crosses : {F : Type 0} (value : F → Fraction) (p : Sample) (at : ℕ → ℕ) (a : ℕ → ℕ → ℚ) (from : ℚ) (b : Breakpoint F) → IsOptimalIn (over_quantiles p) at a from → IsFirst value (passes_at p at a) (crossing_of p at a) p.columns b
    → Crosses (over_quantiles p) at a (rational (value b.theta)) b.position b.direction
first_crosses value p at a from b stop h = (first_is_next value p at a from stop b h).crosses

module _ {F : Type 0} (value : F → Fraction) (v : BasisView F) (from hi : ℚ) (stop : IsOptimalIn (over_quantiles (sample_at value v)) (rows_at value v) (entries_at value v) from) (b : Breakpoint F)
    (first : IsFirst value (passes_at (sample_at value v) (rows_at value v) (entries_at value v)) (crossing_of (sample_at value v) (rows_at value v) (entries_at value v)) v.tableau.now.problem.columns b) where
  abbrev p : Sample
  p = sample_at value v

  abbrev at : ℕ → ℕ
  at = rows_at value v

  abbrev a : ℕ → ℕ → ℚ
  a = entries_at value v

  abbrev theta : ℚ
  theta = rational (value b.theta)

  next : IsNextBreak (over_quantiles (sample_at value v)) (rows_at value v) (entries_at value v) from (rational (value b.theta)) b.position b.direction
  next = first_is_next value p at a from stop b first

  pub step_is : (o : Option (WalkingStep F)) → IsStepAt value v b hi o → IsWalkingAnswer value (place value v.tableau.now) from hi o
  step_is None past =
      λ t j r h. below_from t hi h.within (≤ℚ_trans hi theta t past (next.least t j h.direction h.break.position h.break.after h.break.crosses))
  step_is (Some x) (below, at_theta, at_position, entering) =
      subst (λ t. IsWalkingStep (over_quantiles p) at a (is_below hi) from (rational (value t)) x.position x.row) (sym at_theta)
      (subst (λ j. IsWalkingStep (over_quantiles p) at a (is_below hi) from theta j x.row) (sym at_position) (record {
        direction = b.direction;
        break = next;
        within = (below_test theta hi).1 below;
        entering = entering;
      }))

  pub step_spill : (range : ℕ) (s : Spill F) → IsStepSpillAt value range v b hi s → IsStaySpill value range (sample_at value v) (rows_at value v) (entries_at value v) from hi s
  step_spill range s (below, at_coordinates i li k) = of_basis (inr (inr (inl (i, li, k))))
  step_spill range s (below, at_ratio r lr moving k) = of_pivot (of_ratio theta b.position b.direction r next ((below_test theta hi).1 below) lr moving k)
  step_spill range s (below, at_tie r i differ lr li mr mi k) = of_pivot (of_tie theta b.position b.direction r i differ next ((below_test theta hi).1 below) lr li mr mi k)
