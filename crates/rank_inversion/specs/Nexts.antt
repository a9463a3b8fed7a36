-- Inner. What is left at a basis on a walk.
use Rattle.std.specs.Prelude.{◌≡◌, ℕ, ◌<◌, false, List, length}
use Rattle.rational_laws.specs.Fraction.{Fraction, rational}
use Rattle.rational_laws.specs.Rational.{ℚ, ◌+ℚ◌, ◌*ℚ◌, ◌≤ℚ◌}
use Rattle.frac_core.specs.declared.exact.OpKind.TheVariants.{Div}
use Rattle.loss_model.specs.declared.spill.Quantity.TheVariants.{DualValue, Ray}
use Rattle.loss_model.specs.declared.spill.Spill.{Spill}
use Rattle.loss_model.specs.Spill.{IsOperation, IsTermSpill, site_of}
use Rattle.loss_model.specs.Problem.{value_at}
use Rattle.loss_model.specs.Strict.{◌<ℚ◌}
use Rattle.basis_model.specs.Basis.{dual_value}
use Rattle.pivot_model.specs.Steps.{moves}
use Rattle.walk_model.specs.Walks.{IsNextBreak, IsWalkingStep}
use Rattle.walk_model.specs.WalkTrails.{is_within}
use Rattle.tableau_model.specs.declared.breakpoint.Breakpoint.{Breakpoint}
use Rattle.rank_tableau.specs.declared.finding.Finding.{Finding}
use Rattle.rank_tableau.specs.declared.finding.Finding.TheVariants.{Step, Past, Stuck}
use Rattle.rank_inversion.specs.declared.station.Station.{Station}
use Rattle.rank_steps.specs.Ways.{way_of}
use Rattle.rank_inversion.specs.Courses.{tau_of, bound_of, parameter_at, family_of}
use Rattle.rank_inversion.specs.Stations.{sample_at, rows_at, entries_at}
use Rattle.rank_inversion.specs.Stops.{IsRankSpill}

module _ {F : Type 0} (value : F → Fraction) where
  -- the next breakpoint from where the column weighs so much
  abbrev pub IsBreakFrom : Station F → F → Breakpoint F → Type 0
  IsBreakFrom v from b =
      IsNextBreak (family_of value (sample_at value v) v.course) (rows_at value v) (entries_at value v)
      (parameter_at value v.course from) (rational (value b.theta)) b.position b.direction

  -- the walking step; or the next breakpoint, where it is beyond the bound, or where it is within and no row moves
  abbrev pub IsFound : Station F → F → Finding F → Type 0
  IsFound v from (Step x) =
      IsWalkingStep (family_of value (sample_at value v) v.course) (rows_at value v) (entries_at value v) (is_within (bound_of value v.course))
      (parameter_at value v.course from) (parameter_at value v.course x.theta) x.position x.row
  IsFound v from (Past b) =
      IsBreakFrom v from b × (bound_of value v.course <ℚ (rational (value b.theta) *ℚ rational (value b.theta)))
  IsFound v from (Stuck b) =
      IsBreakFrom v from b × ((rational (value b.theta) *ℚ rational (value b.theta)) ≤ℚ bound_of value v.course)
      × ((i : ℕ) → i < length v.tableau.now.problem.rows → moves (sample_at value v) (rows_at value v) (entries_at value v) b.position b.direction i ≡ false)

  -- an operation of the walk overflows at the basis
  abbrev pub IsSpillHere : ℕ → Station F → F → Spill F → Type 0
  IsSpillHere range v from s =
      IsRankSpill value range (way_of v.course.way) (sample_at value v) v.course.column (tau_of value v.course) (bound_of value v.course)
      (rows_at value v) (entries_at value v) (parameter_at value v.course from) s

  -- the dual value at position j, where the column weighs so much
  abbrev pub weighed_value : Station F → F → ℕ → ℚ
  weighed_value v weight j =
      dual_value (sample_at value v) (rows_at value v) (entries_at value v) (tau_of value v.course) j
      +ℚ (entries_at value v v.course.column j *ℚ rational (value weight))

  -- the list has these by position
  pub record IsWeighed (v : Station F) (weight : F) (list : List F) : Type 0 where
    pub size : length list ≡ v.tableau.now.problem.columns
    pub each : (j : ℕ) → j < v.tableau.now.problem.columns → value_at value list j ≡ weighed_value v weight j

  -- x is that of the row i of the basis
  pub record IsValueOfRow (v : Station F) (weight : F) (i : ℕ) (x : ℚ) : Type 0 where
    pub position : ℕ
    pub within : position < v.tableau.now.problem.columns
    pub holds : rows_at value v position ≡ i
    pub same : x ≡ weighed_value v weight position

  -- it overflows
  abbrev pub IsWeighingSpill : ℕ → Station F → F → ℕ → Spill F → Type 0
  IsWeighingSpill range v weight j s =
      IsTermSpill value range (site_of DualValue j 1 1)
      (dual_value (sample_at value v) (rows_at value v) (entries_at value v) (tau_of value v.course) j) (entries_at value v v.course.column j)
      (rational (value weight)) s

  -- entry m of the ray overflows, as position k leaves
  abbrev pub IsRaySpill : ℕ → Station F → ℕ → ℕ → Spill F → Type 0
  IsRaySpill range v k m s =
      IsOperation value range (record (site_of Ray m k 1) { kind = Div }) (entries_at value v m k) (entries_at value v v.course.column k) s
