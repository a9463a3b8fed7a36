-- Inner. What makes the conditions on a certificate true.
use Rattle.std.specs.Prelude.{◌≡◌, ℕ, ◌<◌, List, All, length, pos}
use Rattle.rational_laws.specs.Fraction.{Fraction, rational}
use Rattle.rational_laws.specs.Rational.{ℚ, whole, ◌≤ℚ◌}
use Rattle.frac_core.specs.declared.frac128.Frac128.{Frac128}
use Rattle.frac_core.specs.Values.{value as value128}
use Rattle.loss_model.specs.declared.problem.Problem.{Problem}
use Rattle.loss_model.specs.declared.process.Segment.{Segment}
use Rattle.loss_model.specs.declared.vertex.Vertex.{Vertex}
use Rattle.loss_model.specs.declared.interval.End.{End}
use Rattle.loss_model.specs.declared.interval.IntervalProof.{IntervalProof}
use Rattle.loss_model.specs.Dual.{IsDual}
use Rattle.loss_model.specs.Problem.{sample, IsWellShaped, number_at}
use Rattle.loss_model.specs.Sample.{loss, up_cost, down_cost}
use Rattle.loss_model.specs.Segment.{Covers, segments_of}
use Rattle.loss_model.specs.Vertex.{dual_value, IsVertexOf}
use Rattle.rank_model.specs.Certified.{MeetsConditions}
use Rattle.cert_text.specs.declared.cert.Cert.{Cert}
use Rattle.cert_checker.specs.Intervals.{beyond_list}

-- at one end of a segment the dual values are feasible and of equal cost, and the loss is that of the coefficients
pub record IsSoundEnd (p : Problem Frac128) (v : Vertex) (theta : ℚ) (basic : List Fraction) (cost : Fraction) : Type 0 where
  pub size : length basic ≡ length v.basis.rows
  pub dual : IsDual (sample value128 p) theta (number_at v.coef) (dual_value value128 p v basic theta)
  pub lost : rational cost ≡ loss (sample value128 p) theta (number_at v.coef)

-- both ends of a segment with a vertex of the problem
pub record IsSoundSegment (p : Problem Frac128) (s : Segment) : Type 0 where
  pub vertex : IsVertexOf p s.vertex
  pub at_lo : IsSoundEnd p s.vertex (rational s.lo) s.basic_lo s.loss_lo
  pub at_hi : IsSoundEnd p s.vertex (rational s.hi) s.basic_hi s.loss_hi

-- no cost is negative at theta
abbrev pub AreCosts : Problem Frac128 → ℚ → Type 0
AreCosts p theta =
    (i : ℕ) → i < length p.rows
    → (whole (pos 0) ≤ℚ up_cost (sample value128 p) theta i) × (whole (pos 0) ≤ℚ down_cost (sample value128 p) theta i)

-- sound segments cover a range at whose ends no cost is negative
pub record AreSound (p : Problem Frac128) (lo hi : Frac128) (segments : List Segment) : Type 0 where
  pub shaped : IsWellShaped p
  pub ordered : rational (value128 lo) ≤ℚ rational (value128 hi)
  pub costs_lo : AreCosts p (rational (value128 lo))
  pub costs_hi : AreCosts p (rational (value128 hi))
  pub covers : Covers (length p.rows) (rational (value128 lo)) (rational (value128 hi)) (segments_of value128 p segments)
  pub each : All (IsSoundSegment p) segments

-- an end of an interval has a vertex of the problem, and lists of the right lengths
pub record IsSoundEnding (p : Problem Frac128) (e : End) : Type 0 where
  pub vertex : IsVertexOf p e.vertex
  pub inside : length e.inside ≡ p.columns
  pub beyond : length (beyond_list e.beyond) ≡ p.columns

-- an interval meets the conditions of a certificate, with both of its ends
pub record IsSoundInterval (p : Problem Frac128) (t : IntervalProof) : Type 0 where
  pub meets : MeetsConditions value128 p t
  pub projection : length t.projection ≡ p.columns
  pub low : IsSoundEnding p t.low
  pub high : IsSoundEnding p t.high

-- segments and intervals of a certificate
pub record IsSound (c : Cert) : Type 0 where
  pub segments : AreSound c.problem c.lo c.hi c.segments
  pub intervals : All (IsSoundInterval c.problem) c.intervals
