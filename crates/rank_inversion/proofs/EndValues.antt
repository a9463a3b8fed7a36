-- The dual values of the rows of a basis on a walk, and the end that is made of them.
use Rattle.std.specs.Prelude.{◌≡◌, ℕ, ◌<◌, List, length, slice_index}
use Rattle.std.proofs.Common.{sym, ap, ◌∙◌}
use Rattle.rank_tableau.proofs.Handed.{value_there}
use Rattle.rational_laws.specs.Fraction.{Fraction, rational}
use Rattle.rational_laws.specs.Rational.{ℚ}
use Rattle.loss_model.specs.declared.vertex.Vertex.{Vertex}
use Rattle.loss_model.specs.Problem.{number_at}
use Rattle.basis_model.specs.Basis.{IsBasis}
use Rattle.walk_model.specs.Families.{dual_in}
use Rattle.rank_walk_model.specs.Crossings.{parameter_of}
use Rattle.rank_walk_model.specs.Ends.{AreValuesOf}
use Rattle.rank_inversion.specs.declared.station.Station.{Station}
use Rattle.rank_steps.specs.Ways.{way_of}
use Rattle.rank_inversion.specs.Courses.{tau_of, family_of}
use Rattle.rank_inversion.specs.Nexts.{IsValueOfRow}
use Rattle.rank_inversion.specs.Stations.{sample_at, rows_at, entries_at}

module _ {F : Type 0} (value : F → Fraction) (v : Station F) (basis : IsBasis (sample_at value v) (rows_at value v) (entries_at value v)) (lj : v.course.column < v.tableau.now.problem.columns) where
  pub values_of : (t : ℚ) (weight : F) → rational (value weight) ≡ parameter_of (way_of v.course.way) t → (vertex : Vertex) (list : List Fraction) → length list ≡ length vertex.basis.rows
      → ((k : ℕ) → k < length vertex.basis.rows → IsValueOfRow value v weight (slice_index vertex.basis.rows k) (number_at list k))
      → AreValuesOf vertex (dual_in (family_of value (sample_at value v) v.course) (rows_at value v) (entries_at value v) t) list
  values_of t weight e vertex list size each =
      record {
        size = size;
        each = λ k lk.
            let here = each k lk in
            here.same
            ∙ sym (value_there (way_of v.course.way) (sample_at value v) v.course.column (tau_of value v.course) (rows_at value v) (entries_at value v) basis lj t (rational (value weight)) e here.position here.within)
            ∙ ap (dual_in (family_of value (sample_at value v) v.course) (rows_at value v) (entries_at value v) t) here.holds;
      }
