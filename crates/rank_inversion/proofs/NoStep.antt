-- Where a walk hands out its end, no step of it is left.
use Rattle.std.specs.Prelude.{◌≡◌, ◌<◌, ℕ, true, false, List, slice_index, pos}
use Rattle.std.proofs.Common.{sym, subst, ◌∙◌}
use Rattle.rational_laws.specs.Fraction.{Fraction}
use Rattle.rational_laws.specs.Rational.{ℚ, ◌*ℚ◌, whole, ◌≤ℚ◌}
use Rattle.loss_model.specs.declared.interval.Beyond.{Beyond}
use Rattle.loss_model.specs.declared.interval.Beyond.TheVariants.{Outside, Ray}
use Rattle.loss_model.specs.declared.interval.Bound.{Bound}
use Rattle.loss_model.specs.declared.interval.Bound.TheVariants.{Finite, Infinite}
use Rattle.loss_model.specs.declared.interval.End.{End}
use Rattle.loss_model.specs.declared.problem.Problem.{Problem}
use Rattle.loss_model.specs.declared.process.Exchange.{Exchange}
use Rattle.loss_model.specs.Sample.{Sample}
use Rattle.loss_model.specs.Problem.{sample}
use Rattle.pivot_model.specs.declared.direction.Direction.{Direction}
use Rattle.pivot_model.specs.Duals.{◌<ℚ◌}
use Rattle.pivot_model.specs.Steps.{moves}
use Rattle.pivot_model.specs.Trails.{basis_after}
use Rattle.walk_model.specs.Families.{Family}
use Rattle.walk_model.specs.Walks.{IsNextBreak, IsWalkingStep}
use Rattle.walk_model.proofs.Unique.{same_place, same_position}
use Rattle.walk_model.specs.WalkTrails.{value_after, is_within, IsEndAfter}
use Rattle.rank_walk_model.specs.Ends.{IsHandedOut, IsEndAt}
use Rattle.rank_walk_model.specs.Intervals.{when_on, IsWalked}
use Rattle.rank_walk_model.specs.RankWalks.{Way, rise, fall, tested}
use Rattle.rank_steps.proofs.Directions.{one_direction}
use Rattle.rank_tableau.proofs.Breaks.{crossed}

module _ (f : Family) (at : ℕ → ℕ) (a : ℕ → ℕ → ℚ) (from : ℚ) where
  -- a next breakpoint beyond the bound has no step
  none_beyond : (bound u : ℚ) (k : ℕ) (d : Direction) → IsNextBreak f at a from u k d → bound <ℚ (u *ℚ u) → (t : ℚ) (m r : ℕ) → ¬ IsWalkingStep f at a (is_within bound) from t m r
  none_beyond bound u k d next beyond t m r step =
      let within : (t *ℚ t) ≤ℚ bound = record { le = step.within } in
      beyond (subst (λ z. (z *ℚ z) ≤ℚ bound) (same_place f at a from t u m k step.direction d step.break next) within)

module _ (way : Way) (p : Sample) (j : ℕ) (tau bound : ℚ) (at : ℕ → ℕ) (a : ℕ → ℕ → ℚ) (from : ℚ) (lj : j < p.columns) where
  -- a step goes by the next breakpoint
  step_at : (u : ℚ) (k : ℕ) (d : Direction) → IsNextBreak (tested way p tau j) at a from u k d → (t : ℚ) (m r : ℕ) → (step : IsWalkingStep (tested way p tau j) at a (is_within bound) from t m r) → (m ≡ k) × (step.direction ≡ d)
  step_at u k d next t m r step =
      let there : IsNextBreak (tested way p tau j) at a from u m step.direction = subst (λ t. IsNextBreak (tested way p tau j) at a from t m step.direction)
      (same_place (tested way p tau j) at a from t u m k step.direction d step.break next) step.break in
      let position : m ≡ k = same_position (tested way p tau j) at a from u m k step.direction d there next in
      let here : IsNextBreak (tested way p tau j) at a from u k step.direction = subst (λ m. IsNextBreak (tested way p tau j) at a from u m step.direction) position there in
      (position, one_direction way (a j k) step.direction d (crossed way p j tau at a lj u k step.direction here.crosses).0 (crossed way p j tau at a lj u k d next.crosses).0)

no : true ≡ false → ⊥
no h = cc

-- nor has one at which no row moves
none_stuck : (way : Way) (p : Sample) (j : ℕ) (tau bound : ℚ) (at : ℕ → ℕ) (a : ℕ → ℕ → ℚ) (from : ℚ) → j < p.columns → (u : ℚ) (k : ℕ) (d : Direction) → IsNextBreak (tested way p tau j) at a from u k d
    → ((i : ℕ) → i < p.rows → moves p at a k d i ≡ false) → (t : ℚ) (m r : ℕ) → ¬ IsWalkingStep (tested way p tau j) at a (is_within bound) from t m r
none_stuck rise p j tau bound at a from lj u k d next stuck t m r step =
    let same = step_at rise p j tau bound at a from lj u k d next t m r step in
    no (sym (subst (λ d. moves p at a k d r ≡ true) same.1 (subst (λ m. moves p at a m step.direction r ≡ true) same.0 step.entering.mover)) ∙ stuck r step.entering.row)
none_stuck fall p j tau bound at a from lj u k d next stuck t m r step =
    let same = step_at fall p j tau bound at a from lj u k d next t m r step in
    no (sym (subst (λ d. moves p at a k d r ≡ true) same.1 (subst (λ m. moves p at a m step.direction r ≡ true) same.0 step.entering.mover)) ∙ stuck r step.entering.row)

module _ {F : Type 0} (value : F → Fraction) (p : Problem F) (j : ℕ) (tau bound : ℚ) (lj : j < p.columns) where
  end_has_none : (way : Way) (basis : List ℕ) (a : ℕ → ℕ → ℚ) (from : ℚ) (end : End) → IsEndAt value p way j tau bound basis a from end
      → (t : ℚ) (m r : ℕ) → ¬ IsWalkingStep (tested way (sample value p) tau j) (slice_index basis) a (is_within bound) from t m r
  end_has_none way basis a from end h t m r = by end.bound end.beyond h.handed
    where
      by : (x : Bound Fraction) (y : Beyond) → IsHandedOut value p way j tau bound (slice_index basis) a from h.u h.k h.d end.vertex end.inside x y
          → ¬ IsWalkingStep (tested way (sample value p) tau j) (slice_index basis) a (is_within bound) from t m r
      by (Finite x) (Outside f) (coef, inside, outside, beyond) =
          none_beyond (tested way (sample value p) tau j) (slice_index basis) a from bound h.u h.k h.d h.break beyond t m r
      by Infinite (Ray f) (inside, each, within, stuck, size) =
          none_stuck way (sample value p) j tau bound (slice_index basis) a from lj h.u h.k h.d h.break stuck t m r
      by (Finite x) (Ray f) k = absurd k
      by Infinite (Outside f) k = absurd k

  pub walk_is_ended : (way : Way) (solved : List ℕ) (steps : List Exchange) (end : End) → IsWalked value p way j tau bound solved steps end
      → IsEndAfter (when_on way) (tested way (sample value p) tau j) (is_within bound) (whole (pos 0)) solved steps
  walk_is_ended rise solved steps end w =
      record {
        size = w.size;
        a = w.a;
        is_basis = w.is_basis;
        ends = w.ends;
        holds = end_has_none rise (basis_after solved steps) w.a (value_after (when_on rise) (tested rise (sample value p) tau j) (is_within bound) (whole (pos 0)) steps) end w.holds;
      }
  walk_is_ended fall solved steps end w =
      record {
        size = w.size;
        a = w.a;
        is_basis = w.is_basis;
        ends = w.ends;
        holds = end_has_none fall (basis_after solved steps) w.a (value_after (when_on fall) (tested fall (sample value p) tau j) (is_within bound) (whole (pos 0)) steps) end w.holds;
      }
