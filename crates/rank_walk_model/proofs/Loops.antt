-- A walk of an interval as a loop: how it begins, goes on and is done.
use Rattle.std.specs.Prelude.{◌≡◌, ℕ, Bool, List, length, slice_index, slice_set, pos}
use Rattle.std.proofs.Common.{refl, sym, ap, subst, ◌∙◌, length-set}
use Rattle.rational_laws.specs.Fraction.{Fraction}
use Rattle.rational_laws.specs.Rational.{ℚ, neg_ℚ, whole, ◌≤ℚ◌}
use Rattle.rational_laws.proofs.RationalLaws.{≤ℚ_refl}
use Rattle.rational_laws.specs.Exchange.{exchanged}
use Rattle.rational_laws.specs.Terms.{delta}
use Rattle.loss_model.specs.declared.problem.Problem.{Problem}
use Rattle.loss_model.specs.declared.process.Exchange.{Exchange}
use Rattle.loss_model.specs.Sample.{Sample}
use Rattle.loss_model.specs.Problem.{sample}
use Rattle.basis_model.specs.Basis.{IsBasis}
use Rattle.pivot_model.specs.Duals.{HasCosts}
use Rattle.pivot_model.specs.Steps.{HasNoNegativeSlope}
use Rattle.pivot_model.specs.Trails.{EndsAt, AtBasis, basis_after}
use Rattle.walk_model.specs.Families.{Family, by_weight, IsOptimalIn}
use Rattle.walk_model.specs.Walks.{AreExchanged, IsWalkingStep}
use Rattle.walk_model.specs.WalkTrails.{value_after, is_within}
use Rattle.walk_model.proofs.Slopes.{optimal_to, none_before}
use Rattle.walk_model.proofs.Stays.{optimal_stays}
use Rattle.walk_model.proofs.Tested.{slope_zero}
use Rattle.walk_model.proofs.Trails.{list_exchanged}
use Rattle.walk_model.proofs.NextBasis.{next_basis, next_ends}
use Rattle.walk_model.proofs.Loops.{steps_more, after_more, reached_more}
use Rattle.rank_walk_model.specs.RankWalks.{rise, fall, tested}
use Rattle.rank_walk_model.specs.Ends.{IsEndAt}
use Rattle.rank_walk_model.specs.Intervals.{when_on}
use Rattle.rank_walk_model.specs.Loops.{LoopBegins, LoopGoesOn, LoopIsDone}

module _ {F : Type 0} (value : F → Fraction) (p : Problem F) where
  abbrev q : Sample
  q = sample value p

  begun : (tau : ℚ) (right : ℕ → ℚ) (j : ℕ) (at : ℕ → ℕ) (a : ℕ → ℕ → ℚ) → HasNoNegativeSlope q at a tau → IsOptimalIn (record { sample = q; parameter = by_weight tau; right = right }) at a (whole (pos 0))
  begun tau right j at a stop k d lk = subst (λ z. whole (pos 0) ≤ℚ z) (sym (slope_zero q tau j at a right k d)) (stop k d lk)

  pub begins : LoopBegins value p
  begins rise j tau bound solved a size basis ends stop =
      record { walked = tt; leads = refl; reaches = refl; size = size; is_basis = basis; ends = ends; optimal = begun tau (λ k. neg_ℚ (delta j k)) j (slice_index solved) a stop }
  begins fall j tau bound solved a size basis ends stop =
      record { walked = tt; leads = refl; reaches = refl; size = size; is_basis = basis; ends = ends; optimal = begun tau (delta j) j (slice_index solved) a stop }

  -- one step, over a family of this sample
  module _ (tau : ℚ) (right : ℕ → ℚ) (reach : ℚ → Bool) (t u : ℚ) (k r : ℕ) (basis : List ℕ) (a : ℕ → ℕ → ℚ) (size : length basis ≡ p.columns) (b : IsBasis q (slice_index basis) a) (costs : HasCosts q tau) where
    abbrev f : Family
    f = record { sample = q; parameter = by_weight tau; right = right }

    module _ (stop : IsOptimalIn f (slice_index basis) a t) (step : IsWalkingStep f (slice_index basis) a reach t u k r) where
      exchange : AreExchanged p.columns (slice_index basis) (slice_index (slice_set basis k r)) k r
      exchange = subst (λ n. AreExchanged n (slice_index basis) (slice_index (slice_set basis k r)) k r) size (list_exchanged basis k r)

      made : ℕ → ℕ → ℚ
      made = exchanged p.columns a k (q.x r)

      new_basis : IsBasis q (slice_index (slice_set basis k r)) (exchanged p.columns a k (q.x r))
      new_basis = next_basis q (slice_index basis) (slice_index (slice_set basis k r)) a k r step.direction b step.break.position step.entering exchange

      new_ends : EndsAt p.columns a → EndsAt p.columns (exchanged p.columns a k (q.x r))
      new_ends ends = next_ends q (slice_index basis) (slice_index (slice_set basis k r)) a k r step.direction b step.break.position step.entering exchange ends

      there : IsOptimalIn f (slice_index basis) a u
      there = optimal_to f (slice_index basis) a t u u stop (none_before f (slice_index basis) a t u k step.direction step.break) step.break.after (≤ℚ_refl u)

      new_stop : IsOptimalIn f (slice_index (slice_set basis k r)) (exchanged p.columns a k (q.x r)) u
      new_stop =
          optimal_stays f (slice_index basis) (slice_index (slice_set basis k r)) a (exchanged p.columns a k (q.x r)) u k r step.direction b new_basis exchange step.break.position step.entering step.break.crosses.meets costs there

  -- a fact of a basis, at the basis to which steps have led
  pub at_led : (solved : List ℕ) (steps : List Exchange) (basis : List ℕ) (a : ℕ → ℕ → ℚ) → basis_after solved steps ≡ basis → length basis ≡ p.columns → IsBasis q (slice_index basis) a → EndsAt p.columns a
      → (Q : List ℕ → (ℕ → ℕ → ℚ) → Type 0) → Q basis a → AtBasis q (basis_after solved steps) (Q (basis_after solved steps))
  at_led solved steps basis a leads size b ends Q h =
      subst (λ basis. AtBasis q basis (Q basis)) (sym leads) (record { size = size; a = a; is_basis = b; ends = ends; holds = h })

  pub goes_on : LoopGoesOn value p
  goes_on rise j tau bound solved steps t basis a x costs w step =
      let right = λ (k : ℕ). neg_ℚ (delta j k) in
      let when = when_on rise in
      let f = tested rise q tau j in
      record {
        walked = steps_more when f (is_within bound) (whole (pos 0)) solved steps x w.walked
            (at_led solved steps basis a w.leads w.size w.is_basis w.ends (λ basis a. IsWalkingStep f (slice_index basis) a (is_within bound) (value_after when f (is_within bound) (whole (pos 0)) steps) (when x.theta) x.position x.row)
            (subst (λ t. IsWalkingStep f (slice_index basis) a (is_within bound) t (when x.theta) x.position x.row) (sym w.reaches) step));
        leads = after_more when f (is_within bound) solved steps x ∙ ap (λ (basis : List ℕ). slice_set basis x.position x.row) w.leads;
        reaches = reached_more when f (is_within bound) (whole (pos 0)) steps x;
        size = length-set basis x.position x.row ∙ w.size;
        is_basis = new_basis tau right (is_within bound) t (when x.theta) x.position x.row basis a w.size w.is_basis costs w.optimal step;
        ends = new_ends tau right (is_within bound) t (when x.theta) x.position x.row basis a w.size w.is_basis costs w.optimal step w.ends;
        optimal = new_stop tau right (is_within bound) t (when x.theta) x.position x.row basis a w.size w.is_basis costs w.optimal step;
      }
  goes_on fall j tau bound solved steps t basis a x costs w step =
      let when = when_on fall in
      let f = tested fall q tau j in
      record {
        walked = steps_more when f (is_within bound) (whole (pos 0)) solved steps x w.walked
            (at_led solved steps basis a w.leads w.size w.is_basis w.ends (λ basis a. IsWalkingStep f (slice_index basis) a (is_within bound) (value_after when f (is_within bound) (whole (pos 0)) steps) (when x.theta) x.position x.row)
            (subst (λ t. IsWalkingStep f (slice_index basis) a (is_within bound) t (when x.theta) x.position x.row) (sym w.reaches) step));
        leads = after_more when f (is_within bound) solved steps x ∙ ap (λ (basis : List ℕ). slice_set basis x.position x.row) w.leads;
        reaches = reached_more when f (is_within bound) (whole (pos 0)) steps x;
        size = length-set basis x.position x.row ∙ w.size;
        is_basis = new_basis tau (delta j) (is_within bound) t (when x.theta) x.position x.row basis a w.size w.is_basis costs w.optimal step;
        ends = new_ends tau (delta j) (is_within bound) t (when x.theta) x.position x.row basis a w.size w.is_basis costs w.optimal step w.ends;
        optimal = new_stop tau (delta j) (is_within bound) t (when x.theta) x.position x.row basis a w.size w.is_basis costs w.optimal step;
      }

  pub done : LoopIsDone value p
  done way j tau bound solved steps t basis a end w h =
      at_led solved steps basis a w.leads w.size w.is_basis w.ends
      (λ basis a. IsEndAt value p way j tau bound basis a (value_after (when_on way) (tested way q tau j) (is_within bound) (whole (pos 0)) steps) end)
      (subst (λ t. IsEndAt value p way j tau bound basis a t end) (sym w.reaches) h)
