-- Inner. A basis on a walk, and what stands there.
use Rattle.std.specs.Prelude.{ℕ, ◌<◌, slice_index}
use Rattle.rational_laws.specs.Fraction.{Fraction}
use Rattle.rational_laws.specs.Rational.{ℚ, ◌-ℚ◌}
use Rattle.frac_core.specs.declared.exact.OpKind.TheVariants.{Sub, Div}
use Rattle.loss_model.specs.declared.spill.Spill.{Spill}
use Rattle.loss_model.specs.Sample.{Sample}
use Rattle.loss_model.specs.Problem.{sample}
use Rattle.basis_inverse.specs.Square.{inverse_entry}
use Rattle.basis_model.specs.Basis.{dual_value}
use Rattle.basic_solution.specs.Solutions.{IsSolution}
use Rattle.pivot_model.specs.declared.direction.Direction.{Direction}
use Rattle.pivot_model.specs.Spills.{IsCostSpill}
use Rattle.walk_model.specs.WalkSpills.{IsCrossingOperation}
use Rattle.fraction_tableau.specs.Kept.{IsKept, place}
use Rattle.tableau_model.specs.Standing.{AreDuals}
use Rattle.rank_walk_model.specs.Crossings.{bound_towards}
use Rattle.rank_inversion.specs.declared.station.Station.{Station}
use Rattle.rank_inversion.specs.Courses.{tau_of, Moves}

module _ {F : Type 0} (value : F → Fraction) where
  -- the problem as a sample, the rows of the basis, and their inverse
  abbrev pub sample_at : Station F → Sample
  sample_at v = sample value v.tableau.now.problem

  abbrev pub rows_at : Station F → ℕ → ℕ
  rows_at v = slice_index v.tableau.now.rows

  abbrev pub entries_at : Station F → ℕ → ℕ → ℚ
  entries_at v = inverse_entry value v.tableau.now.square

  -- all is that of the basis
  pub record IsStation (v : Station F) : Type 0 where
    pub kept : IsKept value v.tableau.now
    pub solution : IsSolution value (sample_at v) (rows_at v) (entries_at v) v.solution
    pub duals : AreDuals value (place value v.tableau.now) value (tau_of value v.course) v.duals
    pub column : v.course.column < v.tableau.now.problem.columns

  -- where position j meets its bound: at the cost of its row at tau, at what is missing to the bound, or at the
  -- quotient of that by the inverse's entry
  pub data IsMeetingSpill (range : ℕ) (v : Station F) (j : ℕ) (s : Spill F) : Type 0 where
    of_cost : IsCostSpill value range (sample_at v) (rows_at v) (entries_at v) (tau_of value v.course) (rows_at v j) s → IsMeetingSpill range v j s
    of_gap : (d : Direction) → IsCrossingOperation value range j d 1 Sub (bound_towards (sample_at v) (tau_of value v.course) (rows_at v j) d)
        (dual_value (sample_at v) (rows_at v) (entries_at v) (tau_of value v.course) j) s → IsMeetingSpill range v j s
    of_quotient : (d : Direction) → Moves value v.course (entries_at v) j d
        → IsCrossingOperation value range j d 3 Div (bound_towards (sample_at v) (tau_of value v.course) (rows_at v j) d -ℚ dual_value (sample_at v) (rows_at v)
        (entries_at v) (tau_of value v.course) j) (entries_at v v.course.column j) s → IsMeetingSpill range v j s
