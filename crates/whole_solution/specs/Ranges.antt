-- Inner. Ranges of numbers, and how much their products with others can come to.
use Rattle.std.specs.Prelude.{◌≡◌, ℕ, ℤ, ◌<◌, ◌^◌, List, length, slice_index, pos}
use Rattle.rational_laws.specs.Rational.{ℚ, ◌+ℚ◌, ◌-ℚ◌, ◌*ℚ◌, ◌≤ℚ◌, whole}
use Rattle.rational_laws.specs.RationalSums.{sum_ℚ}
use Rattle.loss_model.specs.Sample.{Sample}
use Rattle.loss_model.specs.Spill.{abs_ℚ}
use Rattle.rational_laws.specs.WholeLists.{whole_at}
use Rattle.whole_solution.specs.declared.ranges.Ranges.{Ranges}

-- half the width of range k
abbrev pub half_at : List ℕ → ℕ → ℚ
half_at halves k = whole (pos (slice_index halves k))

-- how many times as far from the middles a row of this class may be
abbrev pub power : ℕ → ℚ
power class = whole (pos (2 ^ class))

-- the same of row i
abbrev pub factor_at : List ℕ → ℕ → ℚ
factor_at classes i = power (slice_index classes i)

-- the first n numbers are no further from these middles than these halves, times a factor
abbrev pub AreWithin : ℕ → List ℤ → List ℕ → ℚ → (ℕ → ℚ) → Type 0
AreWithin n middles halves f x = (k : ℕ) → k < n → abs_ℚ (x k -ℚ whole_at middles k) ≤ℚ (f *ℚ half_at halves k)

-- the same of these ranges
abbrev pub AreInRanges : ℕ → Ranges → ℚ → (ℕ → ℚ) → Type 0
AreInRanges n r f x = AreWithin n r.middles r.halves f x

-- the ranges are those of the columns, and the classes those of the rows
pub record AreRanges (p : Sample) (r : Ranges) : Type 0 where
  pub middles : length r.middles ≡ p.columns
  pub halves : length r.halves ≡ p.columns
  pub classes : length r.classes ≡ p.rows
  pub each : (i : ℕ) → i < p.rows → AreInRanges p.columns r (factor_at r.classes i) (p.x i)

-- the sums of the products of these n numbers with the middles, and of their sizes with half the widths
abbrev pub at_middles : ℕ → Ranges → (ℕ → ℚ) → ℚ
at_middles n r v = sum_ℚ n (λ k. whole_at r.middles k *ℚ v k)

abbrev pub at_halves : ℕ → Ranges → (ℕ → ℚ) → ℚ
at_halves n r v = sum_ℚ n (λ k. half_at r.halves k *ℚ abs_ℚ (v k))

-- the most that the size of the sum of their products with numbers in the ranges can be
abbrev pub most_of_products : ℕ → Ranges → (ℕ → ℚ) → ℚ
most_of_products n r v = at_halves n r v +ℚ abs_ℚ (at_middles n r v)

-- and it is no more, times the factor, which is at least 1
abbrev pub ProductsStayInRange : Type 0
ProductsStayInRange =
    (n : ℕ) (r : Ranges) (f : ℚ) (x v : ℕ → ℚ) → whole (pos 1) ≤ℚ f → AreInRanges n r f x → abs_ℚ (sum_ℚ n (λ k. x k *ℚ v k)) ≤ℚ (f *ℚ most_of_products n r v)
