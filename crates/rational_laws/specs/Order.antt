-- Stated. The order of ℚ as an answer: how two fractions compare, and the sign of one. They are what the
-- code's `compare` and `sign` give.
use Rattle.std.specs.Prelude.{cond, ℤ, pos, negsuc}
use Rattle.std.specs.declared.cmp.Ordering.{Ordering}
use Rattle.std.specs.declared.cmp.Ordering.TheVariants.{Less, Equal, Greater}
use Rattle.rational_laws.specs.Rational.{ℚ, whole, le_ℚ}

-- how x compares with y
abbrev pub cmp_ℚ : ℚ → ℚ → Ordering
cmp_ℚ x y = cond (le_ℚ x y) (cond (le_ℚ y x) Equal Less) Greater

-- 1, 0 or -1
abbrev pub sign_ℚ : ℚ → ℤ
sign_ℚ x = cond (le_ℚ x (whole (pos 0))) (cond (le_ℚ (whole (pos 0)) x) (pos 0) (negsuc 0)) (pos 1)
