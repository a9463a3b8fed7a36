-- Stated. What a certificate states of an interval, over the types of the program, and what that shows of the
-- values that hold, whoever wrote it.
use Rattle.std.specs.Prelude.{◌≡◌, ℕ, ◌<◌, List, length, slice_get, slice_index, Some, pos, negsuc}
use Rattle.rational_laws.specs.Fraction.{Fraction, rational}
use Rattle.rational_laws.specs.Rational.{ℚ, ◌*ℚ◌, neg_ℚ, whole, ◌≤ℚ◌}
use Rattle.loss_model.specs.declared.problem.Problem.{Problem}
use Rattle.loss_model.specs.declared.vertex.Side.{Side}
use Rattle.loss_model.specs.declared.vertex.Vertex.{Vertex}
use Rattle.loss_model.specs.Sample.{Sample, up_cost, down_cost, residual}
use Rattle.loss_model.specs.Problem.{number_at, sample}
use Rattle.loss_model.specs.Dual.{IsDataRow}
use Rattle.loss_model.specs.Vertex.{dual_value, IsOn, IsVertexOf}
use Rattle.loss_model.specs.declared.interval.Bound.{Bound}
use Rattle.loss_model.specs.declared.interval.Bound.TheVariants.{Finite, Infinite}
use Rattle.loss_model.specs.declared.interval.Beyond.{Beyond}
use Rattle.loss_model.specs.declared.interval.Beyond.TheVariants.{Outside, Ray}
use Rattle.loss_model.specs.declared.interval.End.{End}
use Rattle.loss_model.specs.declared.interval.IntervalProof.{IntervalProof}
use Rattle.loss_model.specs.Strict.{◌<ℚ◌}
use Rattle.rank_model.specs.Restricted.{IsFeasibleWithout, IsOptimalAt, rank_statistic, IsProjection, squared_length, rank_bound, Holds}
use Rattle.rank_model.specs.Bounds.{IsAtLeast, IsAtMost, IsAbove, IsBelow, IsInside}
use Rattle.rank_model.specs.Shown.{IsStatedRay}

-- a bound of the program as one in ℚ
abbrev pub bound_of : Bound Fraction → Bound ℚ
bound_of (Finite x) = Finite (rational x)
bound_of Infinite = Infinite

-- of two finite ends the low one is not above the high one
abbrev pub AreInOrder : Bound ℚ → Bound ℚ → Type 0
AreInOrder (Finite lo) (Finite hi) = lo ≤ℚ hi
AreInOrder _ _ = Unit {0}

module _ {F : Type 0} (value : F → Fraction) (p : Problem F) (j : ℕ) (tau crit q : ℚ) where
  -- the dual values of the rows, where the basic rows of the vertex have these
  abbrev pub row_values : Vertex → List Fraction → ℕ → ℚ
  row_values v basic = dual_value value p v basic tau

  -- and the statistic of these
  abbrev pub statistic_of : Vertex → List Fraction → ℚ
  statistic_of v basic = rank_statistic (sample value p) j (row_values v basic)

  -- every row has a side, on which its residual lies, and the dual values are feasible without the
  -- column, and within the bound
  pub record MeetsInside (v : Vertex) (inside : List Fraction) : Type 0 where
    pub sides : length v.sides ≡ length p.rows
    pub on : (i : ℕ) (side : Side) → slice_get v.sides i ≡ Some side → IsOn side (residual (sample value p) (number_at v.coef) i)
    pub feasible : IsFeasibleWithout (sample value p) j tau (row_values v inside)
    pub within : (statistic_of v inside *ℚ statistic_of v inside) ≤ℚ rank_bound tau crit q

  -- other dual values of the same vertex are feasible without the column, and beyond the bound
  pub record MeetsOutside (v : Vertex) (outside : List Fraction) : Type 0 where
    pub feasible : IsFeasibleWithout (sample value p) j tau (row_values v outside)
    pub beyond : rank_bound tau crit q <ℚ (statistic_of v outside *ℚ statistic_of v outside)

  -- the high end is the coefficient, and a negative statistic lies beyond; or a ray goes up
  abbrev pub MeetsHighBound : Vertex → List Fraction → Bound Fraction → Beyond → Type 0
  MeetsHighBound v inside (Finite x) (Outside f) =
      (rational x ≡ number_at v.coef j) × MeetsOutside v f × (statistic_of v f <ℚ whole (pos 0))
  MeetsHighBound v inside Infinite (Ray r) =
      (number_at r j ≡ whole (pos 1)) × IsStatedRay (sample value p) tau (number_at r) (row_values v inside)
  MeetsHighBound v inside _ _ = ⊥

  -- the low end is the coefficient, and a positive statistic lies beyond; or a ray goes down
  abbrev pub MeetsLowBound : Vertex → List Fraction → Bound Fraction → Beyond → Type 0
  MeetsLowBound v inside (Finite x) (Outside f) =
      (rational x ≡ number_at v.coef j) × MeetsOutside v f × (whole (pos 0) <ℚ statistic_of v f)
  MeetsLowBound v inside Infinite (Ray r) =
      (number_at r j ≡ whole (negsuc 0)) × IsStatedRay (sample value p) tau (number_at r) (row_values v inside)
  MeetsLowBound v inside _ _ = ⊥

  -- all conditions on the high end
  pub record MeetsHigh (end : End) : Type 0 where
    pub inside : MeetsInside end.vertex end.inside
    pub bound : MeetsHighBound end.vertex end.inside end.bound end.beyond

  -- and on the low end
  pub record MeetsLow (end : End) : Type 0 where
    pub inside : MeetsInside end.vertex end.inside
    pub bound : MeetsLowBound end.vertex end.inside end.bound end.beyond

-- the squared length that the projection of an interval leaves
abbrev pub length_of : {F : Type 0} → (F → Fraction) → Problem F → IntervalProof → ℚ
length_of value p proof = squared_length (sample value p) proof.column (number_at proof.projection)

-- all conditions on an interval
pub record MeetsConditions {F : Type 0} (value : F → Fraction) (p : Problem F) (proof : IntervalProof) : Type 0 where
  pub column : proof.column < p.columns
  pub data_rows : (i : ℕ) → i < length p.rows → IsDataRow (sample value p) i
  pub tau_above : whole (pos 0) <ℚ rational proof.tau
  pub tau_below : rational proof.tau <ℚ whole (pos 1)
  pub crit : whole (pos 0) ≤ℚ rational proof.crit
  pub projection : IsProjection (sample value p) proof.column (number_at proof.projection)
  pub positive : whole (pos 0) <ℚ length_of value p proof
  pub low : MeetsLow value p proof.column (rational proof.tau) (rational proof.crit) (length_of value p proof) proof.low
  pub high : MeetsHigh value p proof.column (rational proof.tau) (rational proof.crit) (length_of value p proof) proof.high
  pub order : AreInOrder (bound_of proof.low.bound) (bound_of proof.high.bound)

module _ (p : Sample) (j : ℕ) (tau crit : ℚ) where
  -- a finite high end holds; where there is none, all values from `from` on do
  abbrev pub HoldsAtHigh : Bound ℚ → ℚ → Type 0
  HoldsAtHigh (Finite hi) from = Holds p j tau crit hi
  HoldsAtHigh Infinite from = (xi : ℚ) → from ≤ℚ xi → Holds p j tau crit xi

  -- a finite low end holds; where there is none, all values up to `to` do
  abbrev pub HoldsAtLow : Bound ℚ → ℚ → Type 0
  HoldsAtLow (Finite lo) to = Holds p j tau crit lo
  HoldsAtLow Infinite to = (xi : ℚ) → xi ≤ℚ to → Holds p j tau crit xi

  -- what an interval with these ends shows: its ends hold, no value beyond them does, and all optimal
  -- values between them are within the bound
  pub record ShowsInterval (q : ℚ) (low high : Bound ℚ) (to from : ℚ) : Type 0 where
    pub at_low : HoldsAtLow low to
    pub at_high : HoldsAtHigh high from
    pub none_beyond : (xi : ℚ) → Holds p j tau crit xi → IsAtLeast low xi × IsAtMost high xi
    pub all_between : (xi : ℚ) (e : ℕ → ℚ) → IsAbove low xi → IsBelow high xi → IsOptimalAt p j tau xi e → IsInside p j tau crit q xi e

-- an interval that meets its conditions shows this of its ends
abbrev pub ConditionsShowInterval : {F : Type 0} → (F → Fraction) → Problem F → IntervalProof → Type 0
ConditionsShowInterval value p proof =
    MeetsConditions value p proof
    → ShowsInterval (sample value p) proof.column (rational proof.tau) (rational proof.crit) (length_of value p proof)
    (bound_of proof.low.bound) (bound_of proof.high.bound)
    (number_at proof.low.vertex.coef proof.column) (number_at proof.high.vertex.coef proof.column)

-- dual values by the sides of a vertex are within the costs where no cost is negative and the values of
-- the basic rows are, as they are tested
abbrev pub BoundsByBasics : {F : Type 0} → (F → Fraction) → Problem F → Type 0
BoundsByBasics {F} value p =
    (theta : ℚ) (v : Vertex) (basic : List Fraction) → IsVertexOf p v
    → ((i : ℕ) → i < length p.rows → (whole (pos 0) ≤ℚ up_cost (sample value p) theta i) × (whole (pos 0) ≤ℚ down_cost (sample value p) theta i))
    → ((k : ℕ) → k < length v.basis.rows
    → (neg_ℚ (down_cost (sample value p) theta (slice_index v.basis.rows k)) ≤ℚ number_at basic k)
    × (number_at basic k ≤ℚ up_cost (sample value p) theta (slice_index v.basis.rows k)))
    → (i : ℕ) → i < length p.rows
    → (neg_ℚ (down_cost (sample value p) theta i) ≤ℚ dual_value value p v basic theta i)
    × (dual_value value p v basic theta i ≤ℚ up_cost (sample value p) theta i)
