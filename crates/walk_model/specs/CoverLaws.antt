-- Law. What a walk over quantiles leaves: segments that cover the range, with optimal ends.
use Rattle.std.specs.Prelude.{◌≡◌, ℕ, List, [], ◌∷◌, ◌++◌, filter, length, slice_index, slice_set}
use Rattle.rational_laws.specs.Fraction.{Fraction, rational}
use Rattle.rational_laws.specs.Rational.{ℚ, ◌≤ℚ◌}
use Rattle.loss_model.specs.declared.problem.Problem.{Problem}
use Rattle.loss_model.specs.declared.process.Exchange.{Exchange}
use Rattle.loss_model.specs.declared.process.Segment.{Segment}
use Rattle.loss_model.specs.Problem.{sample}
use Rattle.loss_model.specs.Segment.{Covers, segments_of}
use Rattle.pivot_model.specs.Basis.{IsBasis}
use Rattle.pivot_model.specs.Duals.{HasCosts, ◌<ℚ◌}
use Rattle.pivot_model.specs.Steps.{HasNoNegativeSlope}
use Rattle.pivot_model.specs.Trails.{EndsAt, IsOptimalBasis}
use Rattle.walk_model.specs.Families.{over_quantiles}
use Rattle.walk_model.specs.Walks.{IsWalkingStep}
use Rattle.walk_model.specs.WalkTrails.{theta_value, AreWalkingSteps, IsEndAfter, is_below}
use Rattle.walk_model.specs.Stays.{stays, is_reported, IsSegmentOf, AreSegmentsOf, AreOptimalSegments}
use Rattle.walk_model.specs.Underway.{IsUnderway}

-- the segments of a walk from lo to its end cover the range without a gap, every row has one dual value
-- where two meet, and both ends of each are optimal
abbrev pub WalkCovers : {F : Type 0} → (F → Fraction) → Problem F → Type 0
WalkCovers {F} value p =
    (lo hi : ℚ) (basis : List ℕ) (steps : List Exchange) (segments : List Segment)
    → HasCosts (sample value p) lo → HasCosts (sample value p) hi → lo ≤ℚ hi
    → IsOptimalBasis (sample value p) lo basis
    → AreWalkingSteps (theta_value) (over_quantiles (sample value p)) (is_below hi) lo basis steps
    → IsEndAfter (theta_value) (over_quantiles (sample value p)) (is_below hi) lo basis steps
    → AreSegmentsOf value p (filter (is_reported lo hi) (stays (theta_value) hi lo basis steps)) segments
    → Covers (length p.rows) lo hi (segments_of value p segments) × AreOptimalSegments value p segments

-- a walk begins at an optimal basis
abbrev pub WalkBegins : {F : Type 0} → (F → Fraction) → Problem F → Type 0
WalkBegins {F} value p =
    (lo hi : ℚ) (basis : List ℕ) (a : ℕ → ℕ → ℚ) → lo ≤ℚ hi → length basis ≡ p.columns
    → IsBasis (sample value p) (slice_index basis) a → EndsAt p.columns a
    → HasNoNegativeSlope (sample value p) (slice_index basis) a lo
    → IsUnderway value p lo hi basis [] [] lo basis a

-- it goes on with a walking step, and has one segment more where the step is not at the same value as
-- the one before
abbrev pub WalkGoesOn : {F : Type 0} → (F → Fraction) → Problem F → Type 0
WalkGoesOn {F} value p =
    (lo hi : ℚ) (start : List ℕ) (steps : List Exchange) (segments : List Segment) (now : ℚ) (basis : List ℕ) (a b : ℕ → ℕ → ℚ) (x : Exchange)
    → let t = rational x.theta in let next = slice_set basis x.position x.row in
    HasCosts (sample value p) lo → HasCosts (sample value p) hi → IsUnderway value p lo hi start steps segments now basis a
    → IsWalkingStep (over_quantiles (sample value p)) (slice_index basis) a (is_below hi) now t x.position x.row
    → IsBasis (sample value p) (slice_index next) b → EndsAt p.columns b
    → ((s : Segment) → now <ℚ t → IsSegmentOf value p (record { basis = basis; lo = now; hi = t }) s
    → IsUnderway value p lo hi start (steps ++ x ∷ []) (segments ++ s ∷ []) t next b)
    × (now ≡ t → IsUnderway value p lo hi start (steps ++ x ∷ []) segments t next b)

-- where no step is left, the segment up to hi is the last one
abbrev pub WalkIsDone : {F : Type 0} → (F → Fraction) → Problem F → Type 0
WalkIsDone {F} value p =
    (lo hi : ℚ) (start : List ℕ) (steps : List Exchange) (segments : List Segment) (now : ℚ) (basis : List ℕ) (a : ℕ → ℕ → ℚ) (s : Segment)
    → IsUnderway value p lo hi start steps segments now basis a
    → IsSegmentOf value p (record { basis = basis; lo = now; hi = hi }) s
    → AreSegmentsOf value p (filter (is_reported lo hi) (stays (theta_value) hi lo start steps)) (segments ++ s ∷ [])
