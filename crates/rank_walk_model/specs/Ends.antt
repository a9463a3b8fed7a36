-- Stated. What a walk of an interval hands out at its end, over the types of the program: the vertex of its
-- last basis, dual values of the basic rows, and what lies beyond.
use Rattle.std.specs.Prelude.{◌≡◌, ℕ, ◌<◌, false, List, length, slice_index}
use Rattle.rational_laws.specs.Fraction.{Fraction, rational}
use Rattle.rational_laws.specs.Rational.{ℚ, ◌*ℚ◌, ◌≤ℚ◌}
use Rattle.loss_model.specs.declared.problem.Problem.{Problem}
use Rattle.loss_model.specs.declared.vertex.Vertex.{Vertex}
use Rattle.loss_model.specs.Problem.{number_at, sample}
use Rattle.pivot_model.specs.declared.direction.Direction.{Direction}
use Rattle.basis_model.specs.Basis.{coefficient}
use Rattle.pivot_model.specs.Results.{IsVertexAt}
use Rattle.pivot_model.specs.Steps.{moves}
use Rattle.walk_model.specs.Families.{dual_in}
use Rattle.walk_model.specs.Walks.{IsNextBreak}
use Rattle.loss_model.specs.declared.interval.Bound.{Bound}
use Rattle.loss_model.specs.declared.interval.Bound.TheVariants.{Finite, Infinite}
use Rattle.loss_model.specs.declared.interval.Beyond.{Beyond}
use Rattle.loss_model.specs.declared.interval.Beyond.TheVariants.{Outside, Ray}
use Rattle.loss_model.specs.declared.interval.End.{End}
use Rattle.loss_model.specs.Strict.{◌<ℚ◌}
use Rattle.rank_model.specs.Restricted.{squared_length, rank_bound}
use Rattle.rank_model.specs.Certified.{bound_of, MeetsHigh, MeetsLow}
use Rattle.rank_walk_model.specs.RankWalks.{Way, rise, fall, tested, ray, StandsAt, IsTest, IsEnd}

-- the list has the values e of the basic rows of the vertex, by ascending row
pub record AreValuesOf (v : Vertex) (e : ℕ → ℚ) (list : List Fraction) : Type 0 where
  pub size : length list ≡ length v.basis.rows
  pub each : (k : ℕ) → k < length v.basis.rows → number_at list k ≡ e (slice_index v.basis.rows k)

module _ {F : Type 0} (value : F → Fraction) (p : Problem F) (way : Way) (j : ℕ) (tau bound : ℚ) (at : ℕ → ℕ) (a : ℕ → ℕ → ℚ) (t u : ℚ) (k : ℕ)
    (d : Direction) where
  -- the next breakpoint is beyond the bound: the end is the coefficient, with the dual values at which
  -- the basis was entered, and those at the breakpoint; or it is within, and no row moves towards 0:
  -- there is no end, and the ray is that of the row that would leave
  abbrev pub IsHandedOut : Vertex → List Fraction → Bound Fraction → Beyond → Type 0
  IsHandedOut v inside (Finite x) (Outside f) =
      (rational x ≡ coefficient (sample value p) at a j)
      × AreValuesOf v (dual_in (tested way (sample value p) tau j) at a t) inside
      × AreValuesOf v (dual_in (tested way (sample value p) tau j) at a u) f
      × (bound <ℚ (u *ℚ u))
  IsHandedOut v inside Infinite (Ray r) =
      AreValuesOf v (dual_in (tested way (sample value p) tau j) at a u) inside
      × ((m : ℕ) → m < p.columns → number_at r m ≡ ray way a j k m)
      × ((u *ℚ u) ≤ℚ bound)
      × ((i : ℕ) → i < length p.rows → moves (sample value p) at a k d i ≡ false)
      × (length r ≡ p.columns)
  IsHandedOut v inside _ _ = ⊥

-- the end of the walk at its last basis, which it entered at t; the next breakpoint is u, at position k
pub record IsEndAt {F : Type 0} (value : F → Fraction) (p : Problem F) (way : Way) (j : ℕ) (tau bound : ℚ) (basis : List ℕ) (a : ℕ → ℕ → ℚ) (t : ℚ)
    (end : End) : Type 0 where
  pub size : length basis ≡ p.columns
  pub vertex : IsVertexAt value p basis a end.vertex
  pub u : ℚ
  pub k : ℕ
  pub d : Direction
  pub break : IsNextBreak (tested way (sample value p) tau j) (slice_index basis) a t u k d
  pub handed : IsHandedOut value p way j tau bound (slice_index basis) a t u k d end.vertex end.inside end.bound end.beyond

-- what the walk hands out is the end of the interval on its side
abbrev pub EndIsRight : {F : Type 0} → (F → Fraction) → Problem F → Type 0
EndIsRight {F} value p =
    (way : Way) (j : ℕ) (tau crit : ℚ) (c : ℕ → ℚ) (start : ℚ) (basis : List ℕ) (a : ℕ → ℕ → ℚ) (t : ℚ) (end : End)
    → IsTest (sample value p) j tau c → StandsAt way (sample value p) j tau crit c start (slice_index basis) a t
    → IsEndAt value p way j tau (rank_bound tau crit (squared_length (sample value p) j c)) basis a t end
    → IsEnd way (sample value p) j tau crit (squared_length (sample value p) j c) start (bound_of end.bound)

-- the conditions of a certificate on an end of that side
abbrev pub MeetsOn : {F : Type 0} → Way → (F → Fraction) → Problem F → ℕ → ℚ → ℚ → ℚ → End → Type 0
MeetsOn rise value p j tau crit q end = MeetsHigh value p j tau crit q end
MeetsOn fall value p j tau crit q end = MeetsLow value p j tau crit q end

-- what the walk hands out meets them
abbrev pub EndMeetsConditions : {F : Type 0} → (F → Fraction) → Problem F → Type 0
EndMeetsConditions {F} value p =
    (way : Way) (j : ℕ) (tau crit : ℚ) (c : ℕ → ℚ) (start : ℚ) (basis : List ℕ) (a : ℕ → ℕ → ℚ) (t : ℚ) (end : End)
    → IsTest (sample value p) j tau c → StandsAt way (sample value p) j tau crit c start (slice_index basis) a t
    → IsEndAt value p way j tau (rank_bound tau crit (squared_length (sample value p) j c)) basis a t end
    → MeetsOn way value p j tau crit (squared_length (sample value p) j c) end
