-- Stated. The rankscores of a segment's basic rows (Gutenbrunner and Jurečková 1992). A type F of fractions is seen by
-- a function into pairs.
use Rattle.std.specs.Prelude.{◌≡◌, ℕ, ◌<◌, List, length, map, All, nat_lt, if◌then◌else◌}
use Rattle.rational_laws.specs.Rational.{ℚ}
use Rattle.rational_laws.specs.Fraction.{Fraction, rational}
use Rattle.loss_model.specs.declared.problem.Problem.{Problem}
use Rattle.loss_model.specs.declared.process.Segment.{Segment}
use Rattle.loss_model.specs.declared.vertex.Vertex.{Vertex}
use Rattle.loss_model.specs.Dual.{rankscore}
use Rattle.loss_model.specs.Problem.{sample}
use Rattle.loss_model.specs.Vertex.{dual_value, IsVertexOf}
use Rattle.rankscores.specs.declared.pair.ScorePair.{ScorePair}

module _ {F : Type 0} (value : F → Fraction) (p : Problem F) where
  -- the dual value of row i at theta, where the basic rows have these dual values
  abbrev pub dual_of : Vertex → List Fraction → Fraction → ℕ → ℚ
  dual_of v basic theta = dual_value value p v basic (rational theta)

  -- its rankscore
  abbrev pub score : Vertex → List Fraction → Fraction → ℕ → ℚ
  score v basic theta = rankscore (sample value p) (rational theta) (dual_of v basic theta)

  -- the rankscore of one of the first n rows, which are data rows; the dual value of a later row
  abbrev pub row_score : ℕ → Vertex → List Fraction → Fraction → ℕ → ℚ
  row_score n v basic theta i = if nat_lt i n then score v basic theta i else dual_of v basic theta i

  -- the scores of the basic rows, ascending, at both ends of the segment; the first n rows are data rows
  pub record IsScored (n : ℕ) (s : Segment) (pairs : List ScorePair) : Type 0 where
    pub rows : map (λ q. q.row) pairs ≡ s.vertex.basis.rows
    pub at_lo : All (λ q. rational q.at_lo ≡ row_score n s.vertex s.basic_lo s.lo q.row) pairs
    pub at_hi : All (λ q. rational q.at_hi ≡ row_score n s.vertex s.basic_hi s.hi q.row) pairs

-- what scores need of a segment: a vertex of the problem, with a dual value for each of its basic rows at both ends
pub record IsScorable {F : Type 0} (p : Problem F) (s : Segment) : Type 0 where
  pub vertex : IsVertexOf p s.vertex
  pub inside : All (λ i. i < length p.rows) s.vertex.basis.rows
  pub lo : length s.basic_lo ≡ length s.vertex.basis.rows
  pub hi : length s.basic_hi ≡ length s.vertex.basis.rows
