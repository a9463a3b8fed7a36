-- Stated. The Gram matrix of the weighted columns, and the projection that its inverse gives: the normal
-- equations of weighted least squares.
use Rattle.std.specs.Prelude.{◌≡◌, ◌≢◌, ◌↔◌, ℕ, ◌<◌, ◌==◌, if◌then◌else◌, List, slice_index, pos}
use Rattle.rational_laws.specs.Rational.{ℚ, ◌*ℚ◌, neg_ℚ, inverse, whole}
use Rattle.rational_laws.specs.RationalSums.{sum_ℚ}
use Rattle.rational_laws.specs.Matrices.{AreInverse}
use Rattle.loss_model.specs.Sample.{Sample}
use Rattle.loss_model.specs.FullRank.{HasFullRank, IsDependence}
use Rattle.loss_model.specs.Greedy.{IsGreedyBasis}
use Rattle.loss_model.specs.Strict.{◌<ℚ◌}
use Rattle.rank_model.specs.Restricted.{IsProjection, squared_length}

-- entry k, l of the Gram matrix: products of weighted entries, added over the rows
abbrev pub gram : Sample → ℕ → ℕ → ℚ
gram p k l = sum_ℚ p.rows (λ i. (p.up1 i *ℚ p.x i k) *ℚ (p.up1 i *ℚ p.x i l))

-- the rows of g are those of the Gram matrix of p
pub record IsGramOf (p g : Sample) : Type 0 where
  pub rows : g.rows ≡ p.columns
  pub columns : g.columns ≡ p.columns
  pub entries : (k l : ℕ) → k < p.columns → l < p.columns → g.x k l ≡ gram p k l

-- factors by the inverse a: the negated entries of its column j over its diagonal entry, and 0 at j itself
abbrev pub projection_of : (ℕ → ℕ → ℚ) → ℕ → ℕ → ℚ
projection_of a j k = if k == j then whole (pos 0) else neg_ℚ (a k j) *ℚ inverse (a j j)

-- no row has the weight 0
abbrev pub HasWeights : Sample → Type 0
HasWeights p = (i : ℕ) → i < p.rows → p.up1 i ≢ whole (pos 0)

-- they project column j on the others, and the length that they leave is one over the diagonal entry
abbrev pub GramInverseProjects : Type 0
GramInverseProjects =
    (p : Sample) (j : ℕ) (a : ℕ → ℕ → ℚ) → j < p.columns → AreInverse p.columns (gram p) a
    → IsProjection p j (projection_of a j)
    × (squared_length p j (projection_of a j) ≡ inverse (a j j))
    × (whole (pos 0) <ℚ a j j)
    × (whole (pos 0) <ℚ squared_length p j (projection_of a j))

-- a dependence of the Gram rows is one of the columns
abbrev pub GramDependence : Type 0
GramDependence = (p g : Sample) (b : ℕ → ℚ) → IsGramOf p g → HasWeights p → IsDependence g b → IsDependence p b

-- so a problem has full rank exactly where its Gram rows have
abbrev pub GramKeepsRank : Type 0
GramKeepsRank = (p g : Sample) → IsGramOf p g → HasWeights p → HasFullRank p ↔ HasFullRank g

-- and then the greedy start of the Gram rows puts each row at its own position
abbrev pub GramStartsInOrder : Type 0
GramStartsInOrder =
    (p g : Sample) (basis : List ℕ) → IsGramOf p g → HasWeights p → HasFullRank p → IsGreedyBasis g basis
    → (k : ℕ) → k < p.columns → slice_index basis k ≡ k
