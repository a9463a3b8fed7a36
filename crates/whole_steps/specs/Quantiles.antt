-- Inner. A quantile as a quotient, and numbers over a scale.
use Rattle.std.specs.Prelude.{ℕ, ℤ, ◌≤ℤ◌, pos}
use Rattle.rational_laws.specs.Fraction.{Fraction}
use Rattle.rational_laws.specs.Rational.{ℚ}
use Rattle.whole_inverse.specs.Shares.{share}
use Rattle.whole_steps.specs.declared.quantile.Quantile.{Quantile}

abbrev pub IsQuantile : Quantile ℤ → Type 0
IsQuantile q = pos 1 ≤ℤ q.under

abbrev pub theta_of : Quantile ℤ → ℚ
theta_of q = share q.over q.under

-- a number over e
abbrev pub number_over : ℕ → ℤ → Fraction
number_over e n = record { num = n; den = e }
