-- Law. What the laws of quantile regression say; each is the contract of a function (Koenker 2005, chapter 6).
use Rattle.std.specs.Prelude.{◌≡◌, ℕ, ◌+◌, ◌<◌, ◌≤◌, List, length, slice_get, Some, pos}
use Rattle.rational_laws.specs.Rational.{ℚ, ◌+ℚ◌, ◌*ℚ◌, whole, ◌≤ℚ◌}
use Rattle.rational_laws.specs.Fraction.{Fraction, rational}
use Rattle.loss_model.specs.declared.problem.Problem.{Problem}
use Rattle.loss_model.specs.declared.vertex.Side.{Side}
use Rattle.loss_model.specs.declared.vertex.Side.TheVariants.{Up, Down}
use Rattle.loss_model.specs.declared.vertex.Vertex.{Vertex}
use Rattle.loss_model.specs.Sample.{Sample, residual, loss, Minimises}
use Rattle.loss_model.specs.Dual.{IsFeasible, dual_objective, IsDual, mix, IsDataRow, rankscore}
use Rattle.loss_model.specs.Complements.{IsComplementary, residual_change}
use Rattle.loss_model.specs.Vertex.{value_of_side, IsOn, dual_value}
use Rattle.loss_model.specs.Segment.{Segments, Covers}
use Rattle.loss_model.specs.Problem.{number_at, sample}

-- no feasible dual values have an objective above the loss of any coefficients
abbrev pub WeakDuality : Type 0
WeakDuality =
    (p : Sample) (theta : ℚ) (b e : ℕ → ℚ) → IsFeasible p theta e
    → dual_objective p e ≤ℚ loss p theta b

-- so dual values of equal cost show that the coefficients minimise
abbrev pub DualsShowMinimum : Type 0
DualsShowMinimum = (p : Sample) (theta : ℚ) (b e : ℕ → ℚ) → IsDual p theta b e → Minimises p theta b

-- and that no feasible dual values have a greater objective
abbrev pub DualsAreGreatest : Type 0
DualsAreGreatest =
    (p : Sample) (theta : ℚ) (b e other : ℕ → ℚ) → IsDual p theta b e → IsFeasible p theta other
    → dual_objective p other ≤ℚ dual_objective p e

-- feasible dual values are of equal cost where they complement the residuals
abbrev pub ComplementsShowDuals : Type 0
ComplementsShowDuals =
    (p : Sample) (theta : ℚ) (b e : ℕ → ℚ) → IsFeasible p theta e → IsComplementary p theta (residual p b) e → IsDual p theta b e

-- and residuals change by t times their change along d, as the coefficients move by t times d
abbrev pub ResidualsMove : Type 0
ResidualsMove =
    (p : Sample) (b d : ℕ → ℚ) (t : ℚ) (i : ℕ)
    → residual p (λ k. b k +ℚ (t *ℚ d k)) i ≡ residual p b i +ℚ (t *ℚ residual_change p d i)

-- feasible dual values are of equal cost where each row has the value of a side on which its
-- residual lies
abbrev pub SidesShowDuals : Type 0
SidesShowDuals =
    (p : Sample) (theta : ℚ) (b e : ℕ → ℚ) (side : ℕ → Side) → IsFeasible p theta e
    → ((i : ℕ) → i < p.rows → IsOn (side i) (residual p b i) × (e i ≡ value_of_side p theta e i (side i)))
    → IsDual p theta b e

-- so it is at a vertex whose sides are those of the residuals
abbrev pub VertexIsDual : {F : Type 0} → (F → Fraction) → Problem F → Vertex → List Fraction → Type 0
VertexIsDual value p v basic =
    let b = number_at v.coef in (theta : ℚ) → length v.sides ≡ length p.rows
    → ((i : ℕ) (side : Side) → slice_get v.sides i ≡ Some side → IsOn side (residual (sample value p) b i))
    → IsFeasible (sample value p) theta (dual_value value p v basic theta)
    → IsDual (sample value p) theta b (dual_value value p v basic theta)

-- dual values at two ends give dual values at every mix of them
abbrev pub MixIsDual : Type 0
MixIsDual =
    (p : Sample) (lo hi : ℚ) (b e f : ℕ → ℚ) (m n : ℕ) → 0 < m + n
    → IsDual p lo b e → IsDual p hi b f
    → IsDual p (mix m n lo hi) b (λ i. mix m n (e i) (f i))

-- every fraction of a closed interval is a mix of its ends
abbrev pub IntervalIsMixes : Type 0
IntervalIsMixes =
    (lo hi theta : Fraction) → 1 ≤ lo.den → 1 ≤ hi.den → 1 ≤ theta.den
    → rational lo ≤ℚ rational theta → rational theta ≤ℚ rational hi
    → (m : ℕ) × (n : ℕ) × (0 < m + n) × (rational theta ≡ mix m n (rational lo) (rational hi))

-- coefficients with dual values at both ends minimise on the whole closed interval
abbrev pub MinimisesBetween : Type 0
MinimisesBetween =
    (p : Sample) (lo hi theta : ℚ) (b e f : ℕ → ℚ) → IsDual p lo b e → IsDual p hi b f
    → lo ≤ℚ theta → theta ≤ℚ hi → Minimises p theta b

-- every value of a covered range lies in a segment
abbrev pub CoversEveryValue : Type 0
CoversEveryValue =
    (rows : ℕ) (lo hi : ℚ) (s : Segments) → Covers rows lo hi s
    → (theta : ℚ) → lo ≤ℚ theta → theta ≤ℚ hi
    → (j : ℕ) × (j < s.count) × (s.lo j ≤ℚ theta) × (theta ≤ℚ s.hi j)

-- a rankscore lies in 0 to 1
abbrev pub RankscoresAreBounded : Type 0
RankscoresAreBounded =
    (p : Sample) (theta : ℚ) (e : ℕ → ℚ) (i : ℕ) → IsFeasible p theta e → i < p.rows → IsDataRow p i
    → (whole (pos 0) ≤ℚ rankscore p theta e i) × (rankscore p theta e i ≤ℚ whole (pos 1))

-- a data row with the dual value of the side above the fit has the rankscore 1
abbrev pub AboveScoresOne : Type 0
AboveScoresOne =
    (p : Sample) (theta : ℚ) (e basic : ℕ → ℚ) (i : ℕ) → IsDataRow p i
    → e i ≡ value_of_side p theta basic i Up → rankscore p theta e i ≡ whole (pos 1)

-- and one with that of the side below it has the rankscore 0
abbrev pub BelowScoresZero : Type 0
BelowScoresZero =
    (p : Sample) (theta : ℚ) (e basic : ℕ → ℚ) (i : ℕ) → IsDataRow p i
    → e i ≡ value_of_side p theta basic i Down → rankscore p theta e i ≡ whole (pos 0)

-- so the side of a data row that is outside the basis of a vertex is its rankscore at every quantile
abbrev pub SidesAreScores : {F : Type 0} → (F → Fraction) → Problem F → Vertex → Type 0
SidesAreScores value p v =
    (theta : ℚ) (basic : List Fraction) (i : ℕ) → IsDataRow (sample value p) i
    → (slice_get v.sides i ≡ Some Up → rankscore (sample value p) theta (dual_value value p v basic theta) i ≡ whole (pos 1))
    × (slice_get v.sides i ≡ Some Down → rankscore (sample value p) theta (dual_value value p v basic theta) i ≡ whole (pos 0))
