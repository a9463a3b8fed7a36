-- Law. What the laws of Wilcoxon scores say; each is the contract of a function (Gutenbrunner and Jurečková 1992).
use Rattle.std.specs.Prelude.{◌≡◌, ◌↔◌, ℕ, ◌+◌, ◌<◌, pos}
use Rattle.rational_laws.specs.Rational.{ℚ, ◌-ℚ◌, ◌*ℚ◌, neg_ℚ, whole, ◌≤ℚ◌}
use Rattle.rational_laws.specs.RationalSums.{sum_ℚ}
use Rattle.loss_model.specs.Dual.{IsDataRow, IsFeasible, mix}
use Rattle.loss_model.specs.Sample.{Sample}
use Rattle.loss_model.specs.Segment.{Covers, Segments}
use Rattle.loss_model.specs.Strict.{◌<ℚ◌}
use Rattle.rankscores.specs.Integrals.{line, IsIntegral}
use Rattle.rankscores.specs.Trapezoids.{score_area, trapezoid}
use Rattle.rankscores.specs.Wilcoxon.{half, score_along, IsWilcoxon}

-- the integral of an affine function is the area of the trapezoid below it, and nothing else is
abbrev pub TrapezoidIsIntegral : Type 0
TrapezoidIsIntegral =
    (lo hi a b x : ℚ) → lo <ℚ hi → IsIntegral (line lo hi a b) lo hi x ↔ (x ≡ trapezoid lo hi a b)

-- an affine function of a mix of both ends is the mix of its values there
abbrev pub LineMixes : Type 0
LineMixes =
    (lo hi a b : ℚ) (m n : ℕ) → lo <ℚ hi → 0 < m + n → line lo hi a b (mix m n lo hi) ≡ mix m n a b

-- each segment has two ends that differ
abbrev pub AreProper : Segments → Type 0
AreProper s = (j : ℕ) → j < s.count → s.lo j <ℚ s.hi j

-- so the Wilcoxon score is the sum of the areas below the rankscore, minus 1/2
abbrev pub WilcoxonIsSum : Type 0
WilcoxonIsSum =
    (p : Sample) (s : Segments) (i : ℕ) (x : ℚ) → AreProper s
    → IsWilcoxon p s i x ↔ (x ≡ sum_ℚ s.count (score_area p s i) -ℚ half)

-- dual values are feasible at both ends of each segment
pub record AreFeasible (p : Sample) (s : Segments) : Type 0 where
  pub at_lo : (j : ℕ) → j < s.count → IsFeasible p (s.lo j) (s.at_lo j)
  pub at_hi : (j : ℕ) → j < s.count → IsFeasible p (s.hi j) (s.at_hi j)

-- then the rankscore of a data row lies in 0 to 1 along every segment
abbrev pub ScoresAreBounded : Type 0
ScoresAreBounded =
    (p : Sample) (s : Segments) (i j : ℕ) (theta : ℚ) → AreProper s → AreFeasible p s → i < p.rows → IsDataRow p i → j < s.count
    → s.lo j ≤ℚ theta → theta ≤ℚ s.hi j
    → (whole (pos 0) ≤ℚ score_along p s i j theta) × (score_along p s i j theta ≤ℚ whole (pos 1))

-- and over 0 to 1 its Wilcoxon score lies in -1/2 to 1/2
abbrev pub WilcoxonIsBounded : Type 0
WilcoxonIsBounded =
    (p : Sample) (s : Segments) (i : ℕ) (x : ℚ) → Covers p.rows (whole (pos 0)) (whole (pos 1)) s → AreFeasible p s → i < p.rows → IsDataRow p i
    → IsWilcoxon p s i x → (neg_ℚ half ≤ℚ x) × (x ≤ℚ half)

-- over 0 to 1 the Wilcoxon scores of all rows, each times its weight, are orthogonal to every column
abbrev pub WilcoxonIsBalanced : Type 0
WilcoxonIsBalanced =
    (p : Sample) (s : Segments) (x : ℕ → ℚ) → Covers p.rows (whole (pos 0)) (whole (pos 1)) s → AreFeasible p s
    → ((i : ℕ) → i < p.rows → IsDataRow p i) → ((i : ℕ) → i < p.rows → IsWilcoxon p s i (x i))
    → (k : ℕ) → k < p.columns → sum_ℚ p.rows (λ i. (p.up1 i *ℚ x i) *ℚ p.x i k) ≡ whole (pos 0)

-- so they sum to 0 where the model has an intercept and no weights: a column of ones, and rows of weight 1
abbrev pub WilcoxonSumsToZero : Type 0
WilcoxonSumsToZero =
    (p : Sample) (s : Segments) (x : ℕ → ℚ) → Covers p.rows (whole (pos 0)) (whole (pos 1)) s → AreFeasible p s
    → ((i : ℕ) → i < p.rows → IsDataRow p i) → ((i : ℕ) → i < p.rows → IsWilcoxon p s i (x i))
    → (k : ℕ) → k < p.columns → ((i : ℕ) → i < p.rows → (p.x i k ≡ whole (pos 1)) × (p.up1 i ≡ whole (pos 1)))
    → sum_ℚ p.rows x ≡ whole (pos 0)
