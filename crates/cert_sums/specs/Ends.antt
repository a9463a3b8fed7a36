-- Inner. The dual values that are stated at the ends of segments, and the losses there.
use Rattle.std.specs.Prelude.{◌≡◌, ℕ, ◌<◌, ◌+◌, List, length, slice_get, Some}
use Rattle.rational_laws.specs.Fraction.{rational}
use Rattle.rational_laws.specs.Rational.{ℚ}
use Rattle.frac_core.specs.declared.frac128.Frac128.{Frac128}
use Rattle.frac_core.specs.Values.{value as value128}
use Rattle.loss_model.specs.declared.problem.Problem.{Problem}
use Rattle.loss_model.specs.declared.process.Segment.{Segment}
use Rattle.loss_model.specs.declared.vertex.Vertex.{Vertex}
use Rattle.loss_model.specs.Problem.{number_at, sample}
use Rattle.loss_model.specs.Sample.{loss}
use Rattle.loss_model.specs.Dual.{dual_objective}
use Rattle.cert_sums.specs.Duals.{dual_of}
use Rattle.cert_sums.specs.Sums.{IsBalanced}

-- the dual value of row i at the low end of a segment, and at its high end
abbrev pub low_dual : Problem Frac128 → Segment → ℕ → ℚ
low_dual p s i = dual_of (sample value128 p) (rational s.lo) s.vertex s.basic_lo i

abbrev pub high_dual : Problem Frac128 → Segment → ℕ → ℚ
high_dual p s i = dual_of (sample value128 p) (rational s.hi) s.vertex s.basic_hi i

-- what is stated is what the coefficients lose, and what the dual values come to
pub record IsLossAt (p : Problem Frac128) (v : Vertex) (theta : ℚ) (e : ℕ → ℚ) (stated : ℚ) : Type 0 where
  pub lost : stated ≡ loss (sample value128 p) theta (number_at v.coef)
  pub objective : stated ≡ dual_objective (sample value128 p) e

-- each row has one dual value where two segments meet
abbrev pub DoMeet : Problem Frac128 → Segment → Segment → Type 0
DoMeet p s next = (i : ℕ) → i < length p.rows → high_dual p s i ≡ low_dual p next i

-- at the low end of a segment the dual values are orthogonal to the columns, and come to the loss that is stated
pub record IsBegun (p : Problem Frac128) (s : Segment) : Type 0 where
  pub balanced : IsBalanced (sample value128 p) (low_dual p s)
  pub objective : rational s.loss_lo ≡ dual_objective (sample value128 p) (low_dual p s)

-- and at its high end
pub record IsEnded (p : Problem Frac128) (s : Segment) : Type 0 where
  pub balanced : IsBalanced (sample value128 p) (high_dual p s)
  pub objective : rational s.loss_hi ≡ dual_objective (sample value128 p) (high_dual p s)

-- all that is asked of both ends of a segment
pub record IsHeld (p : Problem Frac128) (s : Segment) : Type 0 where
  pub low_balanced : IsBalanced (sample value128 p) (low_dual p s)
  pub high_balanced : IsBalanced (sample value128 p) (high_dual p s)
  pub low_loss : IsLossAt p s.vertex (rational s.lo) (low_dual p s) (rational s.loss_lo)
  pub high_loss : IsLossAt p s.vertex (rational s.hi) (high_dual p s) (rational s.loss_hi)

-- of the segment at a place of a list, and that it meets the next one
pub record IsHeldAt (p : Problem Frac128) (segments : List Segment) (place : ℕ) : Type 0 where
  pub held : (s : Segment) → slice_get segments place ≡ Some s → IsHeld p s
  pub joint : (s next : Segment) → slice_get segments place ≡ Some s → slice_get segments (place + 1) ≡ Some next → DoMeet p s next
