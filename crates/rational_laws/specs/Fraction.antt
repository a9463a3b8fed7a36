-- Stated. Fractions as they are written: a numerator over a denominator (Knuth, TAOCP 4.5.1).
--
-- `Fraction` is what a value of the code's fraction types is seen as, and `rational` leads into ℚ,
-- where its laws are: an exact operation ensures an equation between the `rational` of its operands
-- and that of its result. `common` and `over` bring a list of fractions to one denominator.
--
--     x : Fraction = record { num = negsuc 1; den = 3 }     -2/3
--     rational x                                            whole (negsuc 1) *ℚ inverse (whole (pos 3))
use Rattle.std.specs.Prelude.{ℕ, ◌/◌, ◌*◌, List, [], ◌∷◌, ℤ, pos, ◌*ℤ◌}
use Rattle.rational_laws.specs.Rational.{ℚ, quotient}

-- num/den, with den at least 1
pub record Fraction : Type 0 where
  pub num : ℤ
  pub den : ℕ

-- the value num/den
abbrev pub rational : Fraction → ℚ
rational v = quotient v.num v.den

-- the product of all denominators
abbrev pub common : List Fraction → ℕ
common [] = 1
common (v ∷ vs) = v.den * common vs

-- v in units of 1/q, where its denominator divides q
abbrev pub over : ℕ → Fraction → ℤ
over q v = v.num *ℤ pos (q / v.den)
