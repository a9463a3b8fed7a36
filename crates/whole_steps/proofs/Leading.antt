-- Quotients by the leading bits of their parts.
use Rattle.std.specs.Prelude.{ℕ, ◌+◌, ◌*◌, ◌/◌, ◌^◌, ◌<◌, ◌≤◌}
use Rattle.std.proofs.Common.{arith}
use Rattle.std.proofs.lemmas.Nat.{mul-le, mul-lt, div_below, pow_pos}
use native.Mathlib.Nat.{lt-div-mul-add, div-mul-le_self}

-- a number of more bits has so many left
pub leading : (n last bits : ℕ) → n < 2 ^ bits * 2 ^ last → n / 2 ^ last < 2 ^ bits
leading n last bits h = div_below n (2 ^ last) (2 ^ bits) (pow_pos last) h

-- the products of leading bits, rounded up and down, tell the order of the products
from_parts : (a b c d s : ℕ) → 0 < s → (a / s + 1) * (d / s + 1) ≤ (c / s) * (b / s) → a * d < c * b
from_parts a b c d s positive h =
    let above_a : a < (a / s + 1) * s = omega (arith, lt-div-mul-add {a = a} {b = s} positive) in
    let above_d : d < (d / s + 1) * s = omega (arith, lt-div-mul-add {a = d} {b = s} positive) in
    let above : a * d < ((a / s + 1) * s) * ((d / s + 1) * s) = mul-lt a d ((a / s + 1) * s) ((d / s + 1) * s) above_a above_d in
    let below : ((c / s) * s) * ((b / s) * s) ≤ c * b = mul-le ((c / s) * s) ((b / s) * s) c b (div-mul-le_self c s) (div-mul-le_self b s) in
    let scaled : ((a / s + 1) * (d / s + 1)) * (s * s) ≤ ((c / s) * (b / s)) * (s * s) = mul-le ((a / s + 1) * (d / s + 1)) (s * s) ((c / s) * (b / s)) (s * s) h (omega arith) in
    omega arith

pub from_leading : (a b c d last : ℕ) → (a / 2 ^ last + 1) * (d / 2 ^ last + 1) ≤ (c / 2 ^ last) * (b / 2 ^ last) → a * d < c * b
from_leading a b c d last = from_parts a b c d (2 ^ last) (pow_pos last)
