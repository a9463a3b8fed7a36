-- The interval of both walks in whole numbers.
use Rattle.std.specs.Prelude.{◌-◌, ◌+◌, ◌≤◌, ℕ, length}
use Rattle.std.proofs.Common.{arith, sym, subst}
use Rattle.rational_laws.specs.Fraction.{Fraction, rational}
use Rattle.loss_model.specs.declared.interval.Interval.{Interval}
use Rattle.loss_model.specs.declared.problem.Problem.{Problem}
use Rattle.loss_model.specs.Problem.{sample}
use Rattle.pivot_model.specs.Trails.{IsOptimalBasis}
use Rattle.whole_tableau.specs.Kept.{place}
use Rattle.whole_tableau.proofs.Places.{kept_is_place}
use Rattle.rank_tableau.specs.declared.sides.BothSides.{BothSides}
use Rattle.rank_inversion.specs.declared.column_test.Asked.{Asked}
use Rattle.rank_inversion.specs.declared.wholes.Started.{Started}
use Rattle.rank_inversion.specs.Intervals.{IsRankInterval}
use Rattle.rank_inversion.specs.Inversions.{IsAskable}
use Rattle.rank_inversion.specs.Trails.{joined}
use Rattle.rank_inversion.specs.Wholes.{IsStarted, AreSidesOf}
use Rattle.rank_inversion.proofs.Joined.{interval_is}

module _ {F : Type 0} (value : F → Fraction) (s : Started F) (asked : Asked F) (limit : ℕ) where
  abbrev p : Problem F
  p = s.reached.tableau.problem

  module _ (h : IsStarted value p (rational (value asked.tau)) limit s) where
    -- the solved basis is optimal
    optimal : IsOptimalBasis (sample value p) (rational (value asked.tau)) s.reached.tableau.rows
    optimal =
        let here = kept_is_place value s.reached.tableau h.reached.kept in
        record {
          size = here.size;
          a = (place value s.reached.tableau).inverse;
          is_basis = here.is_basis;
          ends = here.ends;
          holds = h.reached.stop;
        }

    pub whole_interval : IsAskable value p asked → (w : BothSides) → AreSidesOf value s asked limit w
        → IsRankInterval value p asked.column asked.tau asked.crit limit
        (joined value s.reached.trail asked w.factors w.rise w.fall)
    whole_interval askable w sides =
        let made : length s.reached.trail.steps ≤ limit = h.reached.short in
        let few : length w.rise.steps + length w.fall.steps ≤ limit - length s.reached.trail.steps = sides.short in
        interval_is value p asked askable s.reached.trail s.reached.tableau.rows w.factors w.rise w.fall h.reached.lawful optimal sides.projection sides.positive sides.size
        sides.rise.walked sides.fall.walked sides.rise.ended sides.fall.ended limit (omega (arith, made, few))

-- what was begun for a problem is of that problem
module _ {F : Type 0} (value : F → Fraction) (p : Problem F) (s : Started F) (asked : Asked F) (limit : ℕ) (h : IsStarted value p (rational (value asked.tau)) limit s) where
  pub started_there : IsStarted value s.reached.tableau.problem (rational (value asked.tau)) limit s
  started_there = subst (λ q. IsStarted value q (rational (value asked.tau)) limit s) (sym h.reached.problem) h

  pub askable_there : IsAskable value p asked → IsAskable value s.reached.tableau.problem asked
  askable_there askable = subst (λ q. IsAskable value q asked) (sym h.reached.problem) askable

  pub interval_here : (r : Interval) → IsRankInterval value s.reached.tableau.problem asked.column asked.tau asked.crit limit r → IsRankInterval value p asked.column asked.tau asked.crit limit r
  interval_here r is = subst (λ q. IsRankInterval value q asked.column asked.tau asked.crit limit r) h.reached.problem is
