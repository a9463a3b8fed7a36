-- Stated. Wilcoxon scores of the rows: integrals of their rankscores (Gutenbrunner and Jurečková 1992).
use Rattle.std.specs.Prelude.{◌≡◌, ℕ, ◌<◌, List, length, pos}
use Rattle.rational_laws.specs.Rational.{ℚ, ◌-ℚ◌, quotient}
use Rattle.rational_laws.specs.RationalSums.{sum_ℚ}
use Rattle.rational_laws.specs.Fraction.{Fraction}
use Rattle.loss_model.specs.declared.problem.Problem.{Problem}
use Rattle.loss_model.specs.declared.process.Segment.{Segment}
use Rattle.loss_model.specs.Dual.{rankscore}
use Rattle.loss_model.specs.Problem.{number_at, sample}
use Rattle.loss_model.specs.Sample.{Sample}
use Rattle.loss_model.specs.Segment.{Segments, segments_of}
use Rattle.rankscores.specs.Integrals.{line, IsIntegral}

-- 1/2
abbrev pub half : ℚ
half = quotient (pos 1) 2

-- the rankscore of data row i at theta, along segment j: between the ends of a segment every dual value is affine
abbrev pub score_along : Sample → Segments → ℕ → ℕ → ℚ → ℚ
score_along p s i j theta = rankscore p theta (λ i. line (s.lo j) (s.hi j) (s.at_lo j i) (s.at_hi j i) theta) i

-- x is the Wilcoxon score of data row i: its rankscore, integrated over all segments, minus 1/2
pub record IsWilcoxon (p : Sample) (s : Segments) (i : ℕ) (x : ℚ) : Type 0 where
  pub integrals : ℕ → ℚ
  pub each : (j : ℕ) → j < s.count → IsIntegral (score_along p s i j) (s.lo j) (s.hi j) (integrals j)
  pub sum : x ≡ sum_ℚ s.count integrals -ℚ half

-- one for each row of the problem, as fractions of any size
pub record AreWilcoxon {F : Type 0} (value : F → Fraction) (p : Problem F) (segments : List Segment) (scores : List Fraction) : Type 0 where
  pub size : length scores ≡ length p.rows
  pub each : (i : ℕ) → i < length p.rows → IsWilcoxon (sample value p) (segments_of value p segments) i (number_at scores i)
