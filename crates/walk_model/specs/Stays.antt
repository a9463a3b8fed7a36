-- Stated. What a walk over quantiles leaves: the bases at which it stood, and the segments of those whose ends
-- differ.
use Rattle.std.specs.Prelude.{◌≡◌, ℕ, Bool, true, List, [], ◌∷◌, slice_set, if◌then◌else◌}
use Rattle.std.specs.Ordering.{is_lt}
use Rattle.rational_laws.specs.Fraction.{Fraction, rational}
use Rattle.rational_laws.specs.Rational.{ℚ}
use Rattle.rational_laws.specs.Order.{cmp_ℚ}
use Rattle.loss_model.specs.declared.problem.Problem.{Problem}
use Rattle.loss_model.specs.declared.process.Exchange.{Exchange}
use Rattle.loss_model.specs.declared.process.Segment.{Segment}
use Rattle.loss_model.specs.Sample.{loss}
use Rattle.loss_model.specs.Dual.{IsDual}
use Rattle.loss_model.specs.Problem.{number_at, sample}
use Rattle.loss_model.specs.Segment.{dual_at}
use Rattle.pivot_model.specs.Results.{IsVertexAt, AreBasicDuals}
use Rattle.pivot_model.specs.Trails.{AtBasis}

-- a walk stands at the basis from lo to hi
pub record Stay : Type 0 where
  pub basis : List ℕ
  pub lo : ℚ
  pub hi : ℚ

module _ (when : Fraction → ℚ) where
  -- the stays that steps have ended: each from the parameter of the step before
  abbrev pub ended_stays : ℚ → List ℕ → List Exchange → List Stay
  ended_stays from basis [] = []
  ended_stays from basis (s ∷ steps) =
      record { basis = basis; lo = from; hi = when s.theta } ∷ ended_stays (when s.theta) (slice_set basis s.position s.row) steps

  -- with the last one, which ends at hi
  abbrev pub stays : ℚ → ℚ → List ℕ → List Exchange → List Stay
  stays hi from basis [] = record { basis = basis; lo = from; hi = hi } ∷ []
  stays hi from basis (s ∷ steps) =
      record { basis = basis; lo = from; hi = when s.theta } ∷ stays hi (when s.theta) (slice_set basis s.position s.row) steps

-- a segment is reported where its ends differ, and where the range is of one value
abbrev pub is_reported : ℚ → ℚ → Stay → Bool
is_reported lo hi stay = if is_lt (cmp_ℚ lo hi) then is_lt (cmp_ℚ stay.lo stay.hi) else true

module _ {F : Type 0} (value : F → Fraction) (p : Problem F) where
  -- the segment of a stay: its ends, the vertex of its basis, and dual values and losses at both ends
  pub record IsSegmentOf (stay : Stay) (s : Segment) : Type 0 where
    pub lo : rational s.lo ≡ stay.lo
    pub hi : rational s.hi ≡ stay.hi
    pub vertex : AtBasis (sample value p) stay.basis (λ a.
        IsVertexAt value p stay.basis a s.vertex
        × AreBasicDuals value p stay.lo stay.basis a s.vertex s.basic_lo
        × AreBasicDuals value p stay.hi stay.basis a s.vertex s.basic_hi)
    pub loss_lo : rational s.loss_lo ≡ loss (sample value p) stay.lo (number_at s.vertex.coef)
    pub loss_hi : rational s.loss_hi ≡ loss (sample value p) stay.hi (number_at s.vertex.coef)

  -- the segments of stays, in order
  abbrev pub AreSegmentsOf : List Stay → List Segment → Type 0
  AreSegmentsOf [] [] = Unit {0}
  AreSegmentsOf [] (s ∷ segments) = ⊥
  AreSegmentsOf (x ∷ stays) [] = ⊥
  AreSegmentsOf (x ∷ stays) (s ∷ segments) = IsSegmentOf x s × AreSegmentsOf stays segments

  -- at both ends the dual values are feasible and of equal cost with the coefficients
  pub record IsOptimalSegment (s : Segment) : Type 0 where
    pub at_lo : IsDual (sample value p) (rational s.lo) (number_at s.vertex.coef) (dual_at value p s.vertex s.basic_lo s.lo)
    pub at_hi : IsDual (sample value p) (rational s.hi) (number_at s.vertex.coef) (dual_at value p s.vertex s.basic_hi s.hi)

  -- the same of all segments
  abbrev pub AreOptimalSegments : List Segment → Type 0
  AreOptimalSegments [] = Unit {0}
  AreOptimalSegments (s ∷ segments) = IsOptimalSegment s × AreOptimalSegments segments
