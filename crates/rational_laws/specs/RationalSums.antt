-- Stated. Sums of fractions by index, and the parts of a fraction. `sum_ℚ n f` is f 0 + .. + f (n - 1).
use Rattle.std.specs.Prelude.{ℕ, zero, suc, cond, pos}
use Rattle.rational_laws.specs.Rational.{ℚ, ◌+ℚ◌, neg_ℚ, whole, le_ℚ}

-- f 0 + f 1 + .. + f (n - 1)
abbrev pub sum_ℚ : ℕ → (ℕ → ℚ) → ℚ
sum_ℚ zero f = whole (pos 0)
sum_ℚ (suc n) f = sum_ℚ n f +ℚ f n

-- x, or 0 where it is negative
abbrev pub positive_ℚ : ℚ → ℚ
positive_ℚ x = cond (le_ℚ (whole (pos 0)) x) x (whole (pos 0))

-- -x, or 0 where x is positive
abbrev pub negative_ℚ : ℚ → ℚ
negative_ℚ x = cond (le_ℚ (whole (pos 0)) x) (whole (pos 0)) (neg_ℚ x)
