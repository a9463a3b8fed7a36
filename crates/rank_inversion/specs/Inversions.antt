-- Inner. Both walks of a tested column, from a solve.
use Rattle.std.specs.Prelude.{◌≡◌, ◌+◌, ◌<◌, ◌≤◌, ℕ, List, length, pos}
use Rattle.rational_laws.specs.Fraction.{Fraction, rational}
use Rattle.rational_laws.specs.Rational.{whole, ◌≤ℚ◌}
use Rattle.loss_model.specs.declared.problem.Problem.{Problem}
use Rattle.loss_model.specs.declared.process.Exchange.{Exchange}
use Rattle.loss_model.specs.declared.process.Trail.{Trail}
use Rattle.loss_model.specs.declared.stop.Stop.{Stop}
use Rattle.loss_model.specs.Dual.{IsDataRow}
use Rattle.loss_model.specs.Problem.{sample, IsWellShaped}
use Rattle.loss_model.specs.Strict.{◌<ℚ◌}
use Rattle.br_pivot.specs.Solutions.{IsSolution}
use Rattle.rank_inversion.specs.declared.course.Course.{Course}
use Rattle.rank_steps.specs.declared.way.Way.{Way}
use Rattle.rank_steps.specs.declared.way.Way.TheVariants.{Rise, Fall}
use Rattle.rank_inversion.specs.declared.inversion.Inversion.{Inversion}
use Rattle.rank_inversion.specs.declared.column_test.Asked.{Asked}
use Rattle.rank_tableau.specs.declared.walking.Arrival.{Arrival}
use Rattle.rank_inversion.specs.declared.walking.WalkHalt.{WalkHalt}
use Rattle.rank_inversion.specs.Stops.{IsBound, IsWalkStop}
use Rattle.rank_inversion.specs.Trails.{with_walks}
use Rattle.rank_inversion.specs.Walks.{IsEnded, IsHalted}

-- the problem, the column, the quantile and the critical value are such as an interval is asked for
pub record IsAskable {F : Type 0} (value : F → Fraction) (p : Problem F) (asked : Asked F) : Type 0 where
  pub shaped : IsWellShaped p
  pub column : asked.column < p.columns
  pub tau_above : whole (pos 0) <ℚ rational (value asked.tau)
  pub tau_below : rational (value asked.tau) <ℚ whole (pos 1)
  pub crit : whole (pos 0) ≤ℚ rational (value asked.crit)
  pub data_rows : (i : ℕ) → i < length p.rows → IsDataRow (sample value p) i

-- the walk on a way
abbrev pub course_of : {F : Type 0} → Inversion F → Way → Course F
course_of v way = record { way = way; column = v.asked.column; tau = v.asked.tau; bound = v.bound }

-- the trail of the solve, with the steps of both walks
abbrev pub trail_with : {F : Type 0} → Inversion F → List Exchange → List Exchange → Trail
trail_with v = with_walks v.solved.now.trail

module _ {F : Type 0} (value : F → Fraction) where
  -- what is asked is such, the solve is one at the quantile and within the limit, and the bound is that by a
  -- projection of the column
  pub record IsReady (v : Inversion F) : Type 0 where
    pub askable : IsAskable value v.problem.now v.asked
    pub solution : IsSolution value v.problem.now (rational (value v.asked.tau)) v.solved.now
    pub short : length v.solved.now.trail.steps ≤ v.limit
    pub bound : IsBound value v.problem.now v.asked.column (rational (value v.asked.tau)) (rational (value v.asked.crit)) (rational (value v.bound))

  -- why the walks stop
  abbrev pub IsStopHere : ℕ → Inversion F → Stop F → Type 0
  IsStopHere range v stop =
      IsWalkStop value range v.problem.now v.asked.column (rational (value v.asked.tau)) (rational (value v.asked.crit)) v.limit stop

  -- how many steps are left after the solve
  abbrev pub IsLeft : Inversion F → ℕ → Type 0
  IsLeft v left = length v.solved.now.trail.steps + left ≡ v.limit

  -- the rising walk is at its end
  pub record IsRisen (v : Inversion F) (rise : Arrival) : Type 0 where
    pub left : ℕ
    pub count : IsLeft v left
    pub ended : IsEnded value v.problem.now (course_of v Rise) v.solved.now.basis.rows left rise

  -- and then the falling one
  pub record IsFallen (v : Inversion F) (rise : List Exchange) (fall : Arrival) : Type 0 where
    pub left : ℕ
    pub count : IsLeft v (length rise + left)
    pub ended : IsEnded value v.problem.now (course_of v Fall) v.solved.now.basis.rows left fall

  -- the rising walk halted, or the falling one
  pub record IsRiseHalt (range : ℕ) (v : Inversion F) (halt : WalkHalt F) : Type 0 where
    pub left : ℕ
    pub count : IsLeft v left
    pub halted : IsHalted value v.problem.now (course_of v Rise) v.solved.now.basis.rows range left halt

  pub record IsFallHalt (range : ℕ) (v : Inversion F) (rise : List Exchange) (halt : WalkHalt F) : Type 0 where
    pub left : ℕ
    pub count : IsLeft v (length rise + left)
    pub halted : IsHalted value v.problem.now (course_of v Fall) v.solved.now.basis.rows range left halt
