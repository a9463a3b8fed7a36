-- Stated. What the number of a token says.
use Rattle.std.specs.Prelude.{ℕ, ◌/◌, Bool, false, Option, Some, None, is_none, pos}
use Rattle.std.proofs.Common.{lit≤}
use Rattle.frac_core.specs.Gcd.{gcd}
use Rattle.rational_laws.specs.Rational.{ℚ, whole}
use Rattle.frac_core.specs.declared.frac128.Frac128.{Frac128}
use Rattle.frac_core.specs.Values.{exact}
use Rattle.formula_grammar.specs.Magnitudes.{Magnitude, capped, lowest_within}
use Rattle.formula_grammar.specs.Words.{Whole, Zero, Unity, Longer, Numeral, Digits, Written}

-- the value of digits, or 9 where it is more than 8
abbrev pub power_of : Whole → ℕ
power_of Zero = 0
power_of Unity = 1
power_of (Longer None) = 9
power_of (Longer (Some m)) = capped m

-- a number that fractions of 128 bits don't hold
abbrev pub is_wide : Numeral → Bool
is_wide (Digits (Longer m)) = is_none m
is_wide (Digits k) = false
is_wide (Written m) = is_none m

-- the value, or 0 where there is none
abbrev pub value_or_zero : Option Magnitude → ℚ
value_or_zero None = whole (pos 0)
value_or_zero (Some m) = exact m.fraction

-- 0 as a fraction
unfoldable pub zero_fraction : Frac128
zero_fraction = record { num = pos (0 / gcd 0 1); den = 1 / gcd 0 1; within = lowest_within 0 1 (lit≤ tt) (lit≤ tt) (lit≤ tt) }

-- 1 as a fraction
unfoldable pub one_fraction : Frac128
one_fraction = record { num = pos (1 / gcd 1 1); den = 1 / gcd 1 1; within = lowest_within 1 1 (lit≤ tt) (lit≤ tt) (lit≤ tt) }

-- the fraction, or 0 where there is none
abbrev pub fraction_or_zero : Option Magnitude → Frac128
fraction_or_zero None = zero_fraction
fraction_or_zero (Some m) = m.fraction

-- the fraction of a number, or 0 where it is wide
abbrev pub fraction_of : Numeral → Frac128
fraction_of (Digits Zero) = zero_fraction
fraction_of (Digits Unity) = one_fraction
fraction_of (Digits (Longer m)) = fraction_or_zero m
fraction_of (Written m) = fraction_or_zero m

-- the value of a number, or 0 where it is wide
abbrev pub value_of : Numeral → ℚ
value_of (Digits Zero) = whole (pos 0)
value_of (Digits Unity) = whole (pos 1)
value_of (Digits (Longer m)) = value_or_zero m
value_of (Written m) = value_or_zero m
