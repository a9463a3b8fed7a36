-- Law. A walk over quantiles in its midst, as a loop has it.
use Rattle.std.specs.Prelude.{◌≡◌, ℕ, List, filter, length, slice_index}
use Rattle.rational_laws.specs.Fraction.{Fraction}
use Rattle.rational_laws.specs.Rational.{ℚ, ◌≤ℚ◌}
use Rattle.loss_model.specs.declared.problem.Problem.{Problem}
use Rattle.loss_model.specs.declared.process.Exchange.{Exchange}
use Rattle.loss_model.specs.declared.process.Segment.{Segment}
use Rattle.loss_model.specs.Problem.{sample}
use Rattle.pivot_model.specs.Basis.{IsBasis}
use Rattle.pivot_model.specs.Trails.{EndsAt, basis_after}
use Rattle.walk_model.specs.Families.{over_quantiles, IsOptimalIn}
use Rattle.walk_model.specs.WalkTrails.{theta_value, AreWalkingSteps, value_after, is_below}
use Rattle.walk_model.specs.Stays.{is_reported, ended_stays, AreSegmentsOf}

-- from an optimal basis at lo the steps have led to the basis, with the inverse a, which is optimal
-- at `now`, and the segments are those of the stays that they have ended
pub record IsUnderway {F : Type 0} (value : F → Fraction) (p : Problem F) (lo hi : ℚ) (start : List ℕ) (steps : List Exchange) (segments : List Segment)
    (now : ℚ) (basis : List ℕ) (a : ℕ → ℕ → ℚ) : Type 0 where
  pub walked : AreWalkingSteps (theta_value) (over_quantiles (sample value p)) (is_below hi) lo start steps
  pub leads : basis_after start steps ≡ basis
  pub reaches : value_after (theta_value) (over_quantiles (sample value p)) (is_below hi) lo steps ≡ now
  pub size : length basis ≡ p.columns
  pub is_basis : IsBasis (sample value p) (slice_index basis) a
  pub ends : EndsAt p.columns a
  pub optimal : IsOptimalIn (over_quantiles (sample value p)) (slice_index basis) a now
  pub lower : lo ≤ℚ now
  pub upper : now ≤ℚ hi
  pub segments_so_far : AreSegmentsOf value p (filter (is_reported lo hi) (ended_stays (theta_value) lo start steps)) segments
