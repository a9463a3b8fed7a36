-- Inner. What is left at a basis on a walk of a tested value.
use Rattle.std.specs.Prelude.{◌≡◌, ℕ, ◌<◌, false, length, pos}
use Rattle.rational_laws.specs.Fraction.{Fraction, rational}
use Rattle.rational_laws.specs.Rational.{ℚ, ◌-ℚ◌, ◌*ℚ◌, inverse, ◌≤ℚ◌}
use Rattle.loss_model.specs.Sample.{Sample}
use Rattle.loss_model.specs.Strict.{◌<ℚ◌}
use Rattle.pivot_model.specs.Steps.{moves}
use Rattle.walk_model.specs.Families.{Family}
use Rattle.walk_model.specs.Walks.{IsNextBreak, IsWalkingStep}
use Rattle.walk_model.specs.WalkTrails.{is_within}
use Rattle.rank_walk_model.specs.RankWalks.{tested}
use Rattle.basis_model.specs.Basis.{dual_value}
use Rattle.rank_walk_model.specs.Crossings.{parameter_of, bound_towards, IsMoving}
use Rattle.tableau_model.specs.Places.{Place, at_of, sample_of}
use Rattle.tableau_model.specs.declared.breakpoint.Breakpoint.{Breakpoint}
use Rattle.tableau_model.specs.Crossings.{IsFirst}
use Rattle.whole_inverse.specs.Shares.{share}
use Rattle.whole_steps.specs.declared.station.Station.{Station}
use Rattle.whole_steps.specs.declared.crossings.Quotient.{Quotient}
use Rattle.whole_steps.specs.Stations.{model, at_of as rows_at, inverse_at}
use Rattle.whole_steps.specs.Crossings.{quotient_value}
use Rattle.whole_rows.specs.Wholes.{factor_at, factor_value}
use Rattle.whole_tableau.specs.Kept.{Kept}
use Rattle.rank_steps.specs.Ways.{way_of}
use Rattle.rank_tableau.specs.declared.course.Course.{Course}
use Rattle.rank_tableau.specs.declared.finding.Finding.{Finding}
use Rattle.rank_tableau.specs.declared.finding.Finding.TheVariants.{Step, Past, Stuck}
use Rattle.rank_tableau.specs.declared.reach.Square.{Square}

-- by what the parameter of the whole rows is that of the problem
abbrev pub scale_of : {F : Type 0} → Kept F → ℕ → ℚ
scale_of k c = factor_value k.setting.wholes.cost *ℚ factor_at k.setting.wholes.factors c

-- the bound of the square for the problem, from that for the whole rows
abbrev pub bound_by : {F : Type 0} → Kept F → ℕ → Square → ℚ
bound_by k c r = share (pos r.over) (pos r.under) *ℚ inverse (scale_of k c *ℚ scale_of k c)

module _ {F : Type 0} (value : F → Fraction) where
  -- the parameter where the column weighs so much
  abbrev pub parameter_at : Course F → F → ℚ
  parameter_at c weight = parameter_of (way_of c.way) (rational (value weight))

  -- the dual values over the parameter
  abbrev pub family_of : Sample → Course F → Family
  family_of p c = tested (way_of c.way) p (rational (value c.tau)) c.column

  -- the first crossing of a station on the walk
  abbrev pub IsFirstAt : Station → Course F → ℕ → Breakpoint Quotient → Type 0
  IsFirstAt s c n b =
      IsFirst quotient_value (λ k d. IsMoving (way_of c.way) d (inverse_at s c.column k))
      (λ k d.
      parameter_of (way_of c.way)
      ((bound_towards (model s) (rational (value c.tau)) (rows_at s k) d
      -ℚ dual_value (model s) (rows_at s) (inverse_at s) (rational (value c.tau)) k) *ℚ inverse (inverse_at s c.column k)))
      n b

  -- the next breakpoint from where the column weighs so much
  abbrev pub IsBreakFrom : Place F → Course F → F → Breakpoint F → Type 0
  IsBreakFrom h c from b =
      IsNextBreak (family_of (sample_of value h) c) (at_of h) h.inverse (parameter_at c from) (rational (value b.theta)) b.position b.direction

  -- the walking step; or the next breakpoint, where it is beyond the bound, or where it is within and no row moves
  abbrev pub IsFound : Place F → Course F → ℚ → F → Finding F → Type 0
  IsFound h c bound from (Step x) =
      IsWalkingStep (family_of (sample_of value h) c) (at_of h) h.inverse (is_within bound) (parameter_at c from) (parameter_at c x.theta) x.position x.row
  IsFound h c bound from (Past b) = IsBreakFrom h c from b × (bound <ℚ (rational (value b.theta) *ℚ rational (value b.theta)))
  IsFound h c bound from (Stuck b) =
      IsBreakFrom h c from b × ((rational (value b.theta) *ℚ rational (value b.theta)) ≤ℚ bound)
      × ((i : ℕ) → i < length h.task.problem.rows → moves (sample_of value h) (at_of h) h.inverse b.position b.direction i ≡ false)
