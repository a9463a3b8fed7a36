-- Stated. Fractions of the program by their values.
use Rattle.rational_laws.specs.Fraction.{Fraction, rational}
use Rattle.rational_laws.specs.Rational.{ℚ}
use Rattle.frac_core.specs.declared.frac64.Frac64.{Frac64}
use Rattle.frac_core.specs.declared.frac128.Frac128.{Frac128}

-- the numerator and the denominator of a value of 128 bits
abbrev pub value : Frac128 → Fraction
value x = record { num = x.num; den = x.den }

-- the number that it stands for
abbrev pub exact : Frac128 → ℚ
exact x = rational (record { num = x.num; den = x.den })

-- the numerator and the denominator of a value of 64 bits
abbrev pub narrow_value : Frac64 → Fraction
narrow_value x = record { num = x.num; den = x.den }
