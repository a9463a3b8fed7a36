-- Law. What the definition of number text comes to.
use Rattle.std.specs.Prelude.{◌≡◌, ℕ, ◌+◌, ◌-◌, ◌*◌, ◌%◌, ◌^◌, ◌<◌, ◌≤◌, ◌↔◌, ◌⊎◌, true, List, Some, Ok, Err}
use Rattle.std.specs.List.{suffix_len}
use Rattle.std.specs.Str.{all_ascii_digits}
use Rattle.std.specs.Str.Parse.{digits_value}
use Rattle.rational_laws.specs.Fraction.{Fraction, rational}
use Rattle.frac_core.specs.Overflow.{IsWithin}
use Rattle.frac_core.specs.NumberText.{in_range, is_zero_digit, number_of, number_text_of, scaled, significand}
use Rattle.frac_core.specs.declared.number_reader.NumberFault.TheVariants.{TooWide}

-- the text of a value reads as that value
abbrev pub ReadsBack : Type 0
ReadsBack = (range : ℕ) (x : Fraction) → range < 2 ^ 127 → IsWithin range x → number_of range (number_text_of x) ≡ Ok (rational x)

-- digits write m * 10 ^ k, and 10 doesn't divide m unless m is 0
abbrev pub HaveSignificand : Type 0
HaveSignificand = (digits : List ℕ) → all_ascii_digits digits ≡ true
    → (digits_value 10 digits ≡ significand digits * 10 ^ suffix_len is_zero_digit digits) × ((significand digits ≡ 0) ⊎ ¬ (significand digits % 10 ≡ 0))

-- With z the greatest number for which 10 ^ z is in range, m * 10 ^ k is too wide exactly where m is beyond the range, where k isn't negative and m * 10 ^ k
-- is, or where k is below -z.
abbrev pub AreTooWide : Type 0
AreTooWide = (range z m up down : ℕ) → 10 ^ z ≤ range → range < 10 ^ (z + 1)
    → (in_range range (Some (scaled m up down)) ≡ Err TooWide) ↔ ((range < m) ⊎ (((down ≤ up) × (range < m * 10 ^ (up - down))) ⊎ (up + z < down)))
