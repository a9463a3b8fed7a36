-- Law. How many observations lie on each side of a fit (Koenker 2005, section 2.2.2).
use Rattle.std.specs.Prelude.{◌≡◌, ℕ, zero, suc, ◌+◌, ◌<◌, ◌≤◌, Bool, true, false, if◌then◌else◌, List, length, slice_get, pos}
use Rattle.std.specs.Option.{option_map_or}
use Rattle.std.specs.Ordering.{is_lt, is_eq, is_gt}
use Rattle.rational_laws.specs.Rational.{ℚ, ◌+ℚ◌, ◌-ℚ◌, ◌*ℚ◌, whole, ◌≤ℚ◌}
use Rattle.rational_laws.specs.RationalSums.{sum_ℚ}
use Rattle.rational_laws.specs.Fraction.{Fraction}
use Rattle.rational_laws.specs.Order.{cmp_ℚ}
use Rattle.loss_model.specs.declared.problem.Problem.{Problem}
use Rattle.loss_model.specs.declared.vertex.Side.{Side}
use Rattle.loss_model.specs.declared.vertex.Side.TheVariants.{Up, Down, Basic}
use Rattle.loss_model.specs.declared.vertex.Vertex.{Vertex}
use Rattle.loss_model.specs.Sample.{Sample, fitted, residual, Minimises}
use Rattle.loss_model.specs.Dual.{IsFeasible, IsDual, IsDataRow}
use Rattle.loss_model.specs.Problem.{sample}
use Rattle.loss_model.specs.Vertex.{dual_value}

-- the first n rows are observations, and the factors a combine the columns to 1 in each of them and to 0 in each later row:
-- there is an intercept, which no penalty counts
pub record HasIntercept (p : Sample) (n : ℕ) (a : ℕ → ℚ) : Type 0 where
  pub within : n ≤ p.rows
  pub observed : (i : ℕ) → i < n → IsDataRow p i
  pub ones : (i : ℕ) → i < n → fitted p a i ≡ whole (pos 1)
  pub zeros : (i : ℕ) → n ≤ i → i < p.rows → fitted p a i ≡ whole (pos 0)

-- what the observations at which the test holds weigh together
abbrev pub weight_of : Sample → ℕ → (ℕ → Bool) → ℚ
weight_of p n test = sum_ℚ n (λ i. if test i then p.up1 i else whole (pos 0))

-- at how many of the first n numbers the test holds
abbrev pub count_of : ℕ → (ℕ → Bool) → ℕ
count_of zero test = 0
count_of (suc n) test = count_of n test + (if test n then 1 else 0)

-- at most the part theta of a total lies below, and at most the rest of it above; with what lies between, at least that
pub record IsSplit (theta total low between high : ℚ) : Type 0 where
  pub low_at_most : low ≤ℚ (theta *ℚ total)
  pub low_at_least : (theta *ℚ total) ≤ℚ (low +ℚ between)
  pub high_at_most : high ≤ℚ ((whole (pos 1) -ℚ theta) *ℚ total)
  pub high_at_least : ((whole (pos 1) -ℚ theta) *ℚ total) ≤ℚ (high +ℚ between)

-- theta splits the weights of the observations at which one of three tests holds
abbrev pub SplitsWeights : Sample → ℕ → ℚ → (ℕ → Bool) → (ℕ → Bool) → (ℕ → Bool) → Type 0
SplitsWeights p n theta low between high = IsSplit theta (sum_ℚ n p.up1) (weight_of p n low) (weight_of p n between) (weight_of p n high)

-- and their numbers
abbrev pub SplitsCounts : ℕ → ℚ → (ℕ → Bool) → (ℕ → Bool) → (ℕ → Bool) → Type 0
SplitsCounts n theta low between high =
    IsSplit theta (whole (pos n)) (whole (pos (count_of n low))) (whole (pos (count_of n between))) (whole (pos (count_of n high)))

module _ (p : Sample) (b : ℕ → ℚ) where
  -- row i lies below the fit of b, on it, or above it
  abbrev pub lies_below : ℕ → Bool
  lies_below i = is_lt (cmp_ℚ (residual p b i) (whole (pos 0)))

  abbrev pub lies_on : ℕ → Bool
  lies_on i = is_eq (cmp_ℚ (residual p b i) (whole (pos 0)))

  abbrev pub lies_above : ℕ → Bool
  lies_above i = is_gt (cmp_ℚ (residual p b i) (whole (pos 0)))

-- every coefficients c that minimise split the weights of the observations by the quantile, once some have dual values
abbrev pub MinimumSplitsWeights : Type 0
MinimumSplitsWeights =
    (p : Sample) (n : ℕ) (a : ℕ → ℚ) (theta : ℚ) (b e c : ℕ → ℚ) → HasIntercept p n a → IsDual p theta b e → Minimises p theta c
    → SplitsWeights p n theta (lies_below p c) (lies_on p c) (lies_above p c)

-- and their numbers, where each weighs 1
abbrev pub MinimumSplitsCounts : Type 0
MinimumSplitsCounts =
    (p : Sample) (n : ℕ) (a : ℕ → ℚ) (theta : ℚ) (b e c : ℕ → ℚ) → HasIntercept p n a → ((i : ℕ) → i < n → p.up1 i ≡ whole (pos 1))
    → IsDual p theta b e → Minimises p theta c
    → SplitsCounts n theta (lies_below p c) (lies_on p c) (lies_above p c)

-- a side is Up, Down or Basic
abbrev pub is_up : Side → Bool
is_up Up = true
is_up Down = false
is_up Basic = false

abbrev pub is_down : Side → Bool
is_down Up = false
is_down Down = true
is_down Basic = false

abbrev pub is_basic : Side → Bool
is_basic Up = false
is_basic Down = false
is_basic Basic = true

-- the test holds of the side of row i
abbrev pub has_side : (Side → Bool) → List Side → ℕ → Bool
has_side test sides i = option_map_or test (slice_get sides i) false

-- so do the sides of a vertex whose dual values are feasible
abbrev pub SidesSplitWeights : {F : Type 0} → (F → Fraction) → Type 0
SidesSplitWeights {F} value =
    (p : Problem F) (v : Vertex) (n : ℕ) (a : ℕ → ℚ) (theta : ℚ) (basic : List Fraction) → HasIntercept (sample value p) n a
    → length v.sides ≡ length p.rows → IsFeasible (sample value p) theta (dual_value value p v basic theta)
    → SplitsWeights (sample value p) n theta (has_side is_down v.sides) (has_side is_basic v.sides) (has_side is_up v.sides)

-- and their numbers
abbrev pub SidesSplitCounts : {F : Type 0} → (F → Fraction) → Type 0
SidesSplitCounts {F} value =
    (p : Problem F) (v : Vertex) (n : ℕ) (a : ℕ → ℚ) (theta : ℚ) (basic : List Fraction) → HasIntercept (sample value p) n a
    → ((i : ℕ) → i < n → (sample value p).up1 i ≡ whole (pos 1))
    → length v.sides ≡ length p.rows → IsFeasible (sample value p) theta (dual_value value p v basic theta)
    → SplitsCounts n theta (has_side is_down v.sides) (has_side is_basic v.sides) (has_side is_up v.sides)
