-- Past the step of a walk all rows keep their sides but for both of the step.
use Rattle.std.specs.Prelude.{ℕ, ◌<◌, List, slice_index, Option, Some, None, IfSome}
use Rattle.std.proofs.Common.{sym, ap, subst, ◌∙◌}
use Rattle.rational_laws.specs.Fraction.{Fraction}
use Rattle.rational_laws.specs.Rational.{ℚ}
use Rattle.loss_model.specs.Problem.{sample}
use Rattle.loss_model.specs.Sample.{Sample}
use Rattle.basis_model.specs.Basis.{IsBasis}
use Rattle.pivot_model.proofs.Among.{among_at}
use Rattle.walk_model.specs.Walks.{IsFirstMover, AreExchanged}
use Rattle.walk_model.proofs.Joint.{sides_stay}
use Rattle.walk_model.proofs.Trails.{list_exchanged}
use Rattle.whole_rows.proofs.StepLaws.{first_mover_there}
use Rattle.whole_inverse.specs.Squares.{inverse_of}
use Rattle.whole_rows.specs.Wholes.{factor_at, factor_value}
use Rattle.whole_rows.proofs.Inverses.{basis_from}
use Rattle.whole_solution.specs.declared.solution.Joint.{Joint}
use Rattle.loss_model.specs.Sides.{side_in}
use Rattle.whole_solution.specs.Standing.{IsPast}
use Rattle.whole_solution.proofs.Made.{basic_by}
use Rattle.whole_tableau.specs.declared.body.Moved.{Moved}
use Rattle.whole_tableau.specs.Kept.{Kept, IsKept, IsMoved, IsJointOf, wholes_of}
use Rattle.whole_tableau.proofs.Places.{whole_basis}
use Rattle.whole_tableau.proofs.Stations.{rows_within}

module _ {F : Type 0} (value : F → Fraction) (k : Kept F) (h : IsKept value k) (j r : ℕ) (lj : j < k.problem.columns) (m : Moved) (is : IsMoved k j r m) where
  abbrev q : Sample
  q = wholes_of k

  abbrev at : ℕ → ℕ
  at = slice_index k.rows

  abbrev a : ℕ → ℕ → ℚ
  a = inverse_of k.square

  exchanged : AreExchanged q.columns at (slice_index m.basis.rows) j r
  exchanged i li = ap (λ (xs : List ℕ). slice_index xs i) is.rows ∙ list_exchanged k.rows j r i (subst (λ n. i < n) (sym h.size) li)

  after : IsBasis q (slice_index m.basis.rows) (inverse_of m.inverse)
  after = basis_from k.problem.columns k.setting.wholes.rows (slice_index m.basis.rows) (inverse_of m.inverse) is.inverse

  held : at j < q.rows
  held = (whole_basis value k h).distinct.within j lj

  module _ (x : Joint) (of : IsJointOf value k j r x) where
    -- the row is the first in whole numbers too
    first_there : IsFirstMover q at a j of.first.0 r
    first_there =
        first_mover_there (sample value k.problem) q (factor_at k.setting.wholes.factors) (factor_value k.setting.wholes.response) (factor_value k.setting.wholes.cost) h.setting.scaled a at (rows_within value k h)
        h.setting.response h.setting.cost j of.first.0 r lj of.first.1

    past_is : IsPast q (slice_index m.basis.rows) (inverse_of m.inverse) (side_in k.solution.sides) x
    past_is =
        record {
          entered = subst (λ i. i < q.rows) (sym of.entered) first_there.row;
          left = subst (λ i. i < q.rows) (sym of.left) held;
          basic = ap (side_in k.solution.sides) of.left ∙ h.solution.sides (at j) held ∙ sym (basic_by q at a (at j) (among_at at q.columns j lj));
          others = λ i li other stays.
              sides_stay q at a (whole_basis value k h) j of.first.0 r first_there (slice_index m.basis.rows) (inverse_of m.inverse) after exchanged lj i li (λ e. other (e ∙ sym of.entered)) (λ e. stays (e ∙ sym of.left))
              ∙ sym (h.solution.sides i li);
        }

  pub past_if : (joint : Option Joint) → IfSome joint (IsJointOf value k j r) → IfSome joint (IsPast (wholes_of k) (slice_index m.basis.rows) (inverse_of m.inverse) (side_in k.solution.sides))
  past_if None of = tt
  past_if (Some x) of = past_is x of
