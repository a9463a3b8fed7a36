-- Stated. Certificates of which no number has more digits than are read.
use Rattle.std.specs.Prelude.{ℕ, ◌&&◌, Bool, true, List, [], ◌∷◌, length, nat_le, unsigned_abs}
use Rattle.rational_laws.specs.Fraction.{Fraction}
use Rattle.natural.specs.Decimal.{decimal_text}
use Rattle.loss_model.specs.declared.process.Segment.{Segment}
use Rattle.loss_model.specs.declared.interval.Bound.{Bound}
use Rattle.loss_model.specs.declared.interval.Bound.TheVariants.{Finite, Infinite}
use Rattle.loss_model.specs.declared.interval.Beyond.{Beyond}
use Rattle.loss_model.specs.declared.interval.Beyond.TheVariants.{Outside, Ray}
use Rattle.loss_model.specs.declared.interval.End.{End}
use Rattle.loss_model.specs.declared.interval.IntervalProof.{IntervalProof}
use Rattle.cert_text.specs.Ratios.{most_digits}
use Rattle.cert_text.specs.declared.cert.Cert.{Cert}

-- no more digits than are read
abbrev pub has_few_digits : ℕ → Bool
has_few_digits n = nat_le (length (decimal_text n)) most_digits

-- of the numerator and of the denominator
abbrev pub is_readable : Fraction → Bool
is_readable x = has_few_digits (unsigned_abs x.num) && has_few_digits x.den

abbrev pub are_readable : List Fraction → Bool
are_readable [] = true
are_readable (x ∷ xs) = is_readable x && are_readable xs

abbrev pub segment_is_readable : Segment → Bool
segment_is_readable s =
    is_readable s.lo && (is_readable s.hi && (are_readable s.vertex.coef && (are_readable s.basic_lo
    && (are_readable s.basic_hi && (is_readable s.loss_lo && is_readable s.loss_hi)))))

abbrev pub bound_is_readable : Bound Fraction → Bool
bound_is_readable (Finite x) = is_readable x
bound_is_readable Infinite = true

abbrev pub beyond_is_readable : Beyond → Bool
beyond_is_readable (Outside xs) = are_readable xs
beyond_is_readable (Ray xs) = are_readable xs

abbrev pub end_is_readable : End → Bool
end_is_readable e = bound_is_readable e.bound && (are_readable e.vertex.coef && (are_readable e.inside && beyond_is_readable e.beyond))

abbrev pub interval_is_readable : IntervalProof → Bool
interval_is_readable t =
    is_readable t.tau && (is_readable t.crit && (end_is_readable t.low && (end_is_readable t.high && are_readable t.projection)))

abbrev pub segments_are_readable : List Segment → Bool
segments_are_readable [] = true
segments_are_readable (s ∷ ss) = segment_is_readable s && segments_are_readable ss

abbrev pub intervals_are_readable : List IntervalProof → Bool
intervals_are_readable [] = true
intervals_are_readable (t ∷ ts) = interval_is_readable t && intervals_are_readable ts

-- of each number of the segments and the intervals
abbrev pub cert_is_readable : Cert → Bool
cert_is_readable c = segments_are_readable c.segments && intervals_are_readable c.intervals
