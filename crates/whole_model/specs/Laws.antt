-- Law. What leads from fractions to whole numbers and back, and what dual values in whole numbers say.
use Rattle.std.specs.Prelude.{◌≡◌, ◌↔◌, ℕ, ◌+◌, ◌*◌, ◌<◌, ◌≤◌, List, map, ℤ, pos}
use Rattle.rational_laws.specs.Rational.{ℚ, ◌*ℚ◌, whole, quotient}
use Rattle.rational_laws.specs.Fraction.{Fraction, rational, common}
use Rattle.loss_model.specs.declared.problem.Problem.{Problem}
use Rattle.loss_model.specs.Sample.{loss, Minimises}
use Rattle.loss_model.specs.Dual.{IsDual}
use Rattle.loss_model.specs.FullRank.{HasFullRank}
use Rattle.loss_model.specs.Problem.{value_at, sample}
use Rattle.whole_model.specs.Scaled.{Scaled, unit, scaled, over_at, between, mixed}
use Rattle.whole_model.specs.Scaled as integers
use Rattle.whole_model.specs.WholeRanks as whole_ranks
use Rattle.loss_model.specs.declared.interval.Bound.{Bound}
use Rattle.rank_model.specs.Restricted.{IsProjection, squared_length, Holds}
use Rattle.rank_model.specs.Bounds.{IsAtLeast, IsAtMost, IsHighEnd, IsLowEnd}

-- the loss in whole numbers at c/d and s/t is that in fractions, in units of 1/(Q*t * Q*d)
abbrev pub LossInIntegers : {F : Type 0} → (F → Fraction) → Problem F → Type 0
LossInIntegers value p =
    let q = whole (pos (unit value p)) in
    (theta : Fraction) (c : ℕ → ℤ) (d : ℕ) → 1 ≤ theta.den → 1 ≤ d
    → whole (integers.loss (scaled value p) theta c d)
    ≡ ((q *ℚ whole (pos theta.den)) *ℚ (q *ℚ whole (pos d))) *ℚ loss (sample value p) (rational theta) (λ k. quotient (c k) d)

-- c/d minimises among fractions exactly where it does among whole numbers
abbrev pub MinimisesInIntegers : {F : Type 0} → (F → Fraction) → Problem F → Type 0
MinimisesInIntegers value p =
    (theta : Fraction) (c : ℕ → ℤ) (d : ℕ) → 1 ≤ theta.den → 1 ≤ d
    → (Minimises (sample value p) (rational theta) (λ k. quotient (c k) d)
    ↔ integers.Minimises (scaled value p) theta c d)

-- and e/(Q*g) are dual values among fractions exactly where they are among whole numbers
abbrev pub DualsInIntegers : {F : Type 0} → (F → Fraction) → Problem F → Type 0
DualsInIntegers value p =
    (theta : Fraction) (c : ℕ → ℤ) (d : ℕ) (e : ℕ → ℤ) (g : ℕ) → 1 ≤ theta.den → 1 ≤ d → 1 ≤ g
    → (IsDual (sample value p) (rational theta) (λ k. quotient (c k) d)
    (λ i. quotient (e i) (unit value p * g))
    ↔ integers.IsDual (scaled value p) theta c d e g)

-- a problem has full rank among fractions exactly where it has among whole numbers
abbrev pub FullRankInIntegers : {F : Type 0} → (F → Fraction) → Problem F → Type 0
FullRankInIntegers value p = HasFullRank (sample value p) ↔ integers.HasFullRank (scaled value p)

-- every list of fractions is a vector of whole numbers over the product of its denominators
abbrev pub ListIsOver : {F : Type 0} → (F → Fraction) → List F → Type 0
ListIsOver value xs =
    let d = common (map value xs) in
    (1 ≤ d) × ((k : ℕ) → value_at value xs k ≡ quotient (over_at value d xs k) d)

-- dual values in whole numbers show a minimum
abbrev pub DualsShowMinimumInIntegers : Type 0
DualsShowMinimumInIntegers =
    (p : Scaled) (theta : Fraction) (c : ℕ → ℤ) (d : ℕ) (e : ℕ → ℤ) (g : ℕ)
    → 1 ≤ theta.den → 1 ≤ d → 1 ≤ g → integers.IsDual p theta c d e g → integers.Minimises p theta c d

-- and those of two parameters mix
abbrev pub MixIsDualInIntegers : Type 0
MixIsDualInIntegers =
    (p : Scaled) (lo hi : Fraction) (c : ℕ → ℤ) (d : ℕ) (e f : ℕ → ℤ) (g h m n : ℕ)
    → 1 ≤ lo.den → 1 ≤ hi.den → 1 ≤ d → 1 ≤ g → 1 ≤ h → 0 < m + n
    → integers.IsDual p lo c d e g → integers.IsDual p hi c d f h
    → integers.IsDual p (between m n lo hi) c d (mixed m n e g f h) ((m + n) * (g * h))

-- a tested value holds among fractions exactly where it does among whole numbers
abbrev pub HoldsInIntegers : {F : Type 0} → (F → Fraction) → Problem F → Type 0
HoldsInIntegers value p =
    (j : ℕ) (tau crit xi : Fraction) → j < p.columns → 1 ≤ tau.den → 1 ≤ crit.den → 1 ≤ xi.den
    → Holds (sample value p) j (rational tau) (rational crit) (rational xi) ↔ whole_ranks.Holds (scaled value p) j tau crit xi

-- so the ends of an interval bound exactly the values that hold among whole numbers
abbrev pub ExactIntervalInIntegers : {F : Type 0} → (F → Fraction) → Problem F → Type 0
ExactIntervalInIntegers value p =
    (j : ℕ) (tau crit : Fraction) (start : ℚ) (c : ℕ → ℚ) (low high : Bound ℚ) → j < p.columns → 1 ≤ tau.den → 1 ≤ crit.den
    → IsProjection (sample value p) j c
    → IsLowEnd (sample value p) j (rational tau) (rational crit) (squared_length (sample value p) j c) start low
    → IsHighEnd (sample value p) j (rational tau) (rational crit) (squared_length (sample value p) j c) start high
    → (xi : Fraction) → 1 ≤ xi.den
    → (IsAtLeast low (rational xi) × IsAtMost high (rational xi)) ↔ whole_ranks.Holds (scaled value p) j tau crit xi
