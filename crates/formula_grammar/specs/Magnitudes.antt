-- Stated. The value of a number text without a sign, as a fraction of 128 bits in lowest terms.
use Rattle.std.specs.Prelude.{◌≡◌, ◌≤◌, ◌^◌, ◌-◌, ◌/◌, ℕ, Bool, true, List, Option, Some, None, option_and_then, pos, unsigned_abs, nat_le, if◌then◌else◌}
use Rattle.std.proofs.Common.{ap, refl, leb-true}
use Rattle.std.proofs.Math.Nat.{div-mul_cancel}
use Rattle.frac_core.specs.Gcd.{gcd, gcd-is}
use Rattle.frac_core.specs.NumberText.{written_body}
use Rattle.frac_core.specs.Overflow.{IsWithin}
use Rattle.frac_core.proofs.Products.{reduced_is}
use Rattle.frac_core.proofs.ReaderSteps.{reduces}
pub use Rattle.formula_grammar.specs.declared.magnitude.Magnitude.{Magnitude}

-- the greatest numerator and denominator of a fraction of 128 bits
abbrev pub range : ℕ
range = 2 ^ 127 - 1

-- in lowest terms n/d is within the range, where n and d are
pub lowest_within : (n d : ℕ) → 1 ≤ d → n ≤ range → d ≤ range → IsWithin range (record { num = pos (n / gcd n d); den = d / gcd n d })
lowest_within n d some num den =
    let fits = reduces range (pos n) d num den in
    (reduced_is range (pos n) (pos (n / gcd n d)) d (gcd n d) (d / gcd n d) some refl
    (ap pos (div-mul_cancel (gcd n d) (gcd-is n d).0)) refl fits.num fits.den).within

-- n/d in lowest terms where the three tests are passed
abbrev pub magnitude_if : (n d : ℕ) (a b c : Bool) → nat_le 1 d ≡ a → nat_le n range ≡ b → nat_le d range ≡ c → Option Magnitude
magnitude_if n d true true true some num den = Some (record {
  fraction = record {
    num = pos (n / gcd n d);
    den = d / gcd n d;
    within = lowest_within n d (leb-true 1 d some) (leb-true n range num) (leb-true d range den);
  };
  unsigned = refl;
})
magnitude_if n d a b c some num den = None

-- the fraction n/d, or none where d is 0, or n or d beyond the range
unfoldable pub magnitude : ℕ → ℕ → Option Magnitude
magnitude n d = magnitude_if n d (nat_le 1 d) (nat_le n range) (nat_le d range) refl refl refl

-- the value of a number text without a sign, or none where one of the two numbers that it writes is beyond the range
unfoldable pub magnitude_of : List ℕ → Option Magnitude
magnitude_of text = option_and_then (λ x. magnitude (unsigned_abs x.num) x.den) (written_body text)

-- the numerator, or 9 where it is more than 8
abbrev pub capped : Magnitude → ℕ
capped m = if nat_le (unsigned_abs m.fraction.num) 8 then unsigned_abs m.fraction.num else 9
