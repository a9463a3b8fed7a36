-- Stated. What holds of each number of the segments and the intervals of a certificate.
use Rattle.std.specs.Prelude.{◌≤◌, ◌&&◌, Bool, true, List, [], ◌∷◌, All, length, unsigned_abs, ⊤}
use Rattle.rational_laws.specs.Fraction.{Fraction}
use Rattle.natural.specs.Decimal.{decimal_text}
use Rattle.ratio.specs.Lowest.{IsLowest}
use Rattle.loss_model.specs.declared.process.Segment.{Segment}
use Rattle.loss_model.specs.declared.interval.Bound.{Bound}
use Rattle.loss_model.specs.declared.interval.Bound.TheVariants.{Finite, Infinite}
use Rattle.loss_model.specs.declared.interval.Beyond.{Beyond}
use Rattle.loss_model.specs.declared.interval.Beyond.TheVariants.{Outside, Ray}
use Rattle.loss_model.specs.declared.interval.End.{End}
use Rattle.loss_model.specs.declared.interval.IntervalProof.{IntervalProof}
use Rattle.cert_text.specs.Ratios.{is_narrow, most_digits}
use Rattle.cert_text.specs.declared.cert.Cert.{Cert}

-- ---- a property of each number

pub record SegmentHas (P : Fraction → Type 0) (s : Segment) : Type 0 where
  pub lo : P s.lo
  pub hi : P s.hi
  pub coef : All P s.vertex.coef
  pub basic_lo : All P s.basic_lo
  pub basic_hi : All P s.basic_hi
  pub loss_lo : P s.loss_lo
  pub loss_hi : P s.loss_hi

abbrev pub BoundHas : (Fraction → Type 0) → Bound Fraction → Type 0
BoundHas P (Finite x) = P x
BoundHas P Infinite = ⊤

abbrev pub BeyondHas : (Fraction → Type 0) → Beyond → Type 0
BeyondHas P (Outside xs) = All P xs
BeyondHas P (Ray xs) = All P xs

pub record EndHas (P : Fraction → Type 0) (e : End) : Type 0 where
  pub bound : BoundHas P e.bound
  pub coef : All P e.vertex.coef
  pub inside : All P e.inside
  pub beyond : BeyondHas P e.beyond

pub record IntervalHas (P : Fraction → Type 0) (t : IntervalProof) : Type 0 where
  pub tau : P t.tau
  pub crit : P t.crit
  pub low : EndHas P t.low
  pub high : EndHas P t.high
  pub projection : All P t.projection

-- each number of the segments and of the intervals
pub record CertHas (P : Fraction → Type 0) (c : Cert) : Type 0 where
  pub segments : All (SegmentHas P) c.segments
  pub intervals : All (IntervalHas P) c.intervals

-- every such number is in lowest terms, as the type of the program's fractions has it
abbrev pub AreLowest : Cert → Type 0
AreLowest = CertHas IsLowest

-- the numerator and the denominator have no more digits than are read
pub record IsReadable (x : Fraction) : Type 0 where
  pub num : length (decimal_text (unsigned_abs x.num)) ≤ most_digits
  pub den : length (decimal_text x.den) ≤ most_digits

-- ---- of 127 bits

abbrev pub are_narrow : List Fraction → Bool
are_narrow [] = true
are_narrow (x ∷ xs) = is_narrow x && are_narrow xs

abbrev pub segment_is_narrow : Segment → Bool
segment_is_narrow s =
    is_narrow s.lo && (is_narrow s.hi && (are_narrow s.vertex.coef && (are_narrow s.basic_lo
    && (are_narrow s.basic_hi && (is_narrow s.loss_lo && is_narrow s.loss_hi)))))

abbrev pub bound_is_narrow : Bound Fraction → Bool
bound_is_narrow (Finite x) = is_narrow x
bound_is_narrow Infinite = true

abbrev pub beyond_is_narrow : Beyond → Bool
beyond_is_narrow (Outside xs) = are_narrow xs
beyond_is_narrow (Ray xs) = are_narrow xs

abbrev pub end_is_narrow : End → Bool
end_is_narrow e = bound_is_narrow e.bound && (are_narrow e.vertex.coef && (are_narrow e.inside && beyond_is_narrow e.beyond))

abbrev pub interval_is_narrow : IntervalProof → Bool
interval_is_narrow t =
    is_narrow t.tau && (is_narrow t.crit && (end_is_narrow t.low && (end_is_narrow t.high && are_narrow t.projection)))

abbrev pub segments_are_narrow : List Segment → Bool
segments_are_narrow [] = true
segments_are_narrow (s ∷ ss) = segment_is_narrow s && segments_are_narrow ss

abbrev pub intervals_are_narrow : List IntervalProof → Bool
intervals_are_narrow [] = true
intervals_are_narrow (t ∷ ts) = interval_is_narrow t && intervals_are_narrow ts

-- no number of an answer is wider
abbrev pub cert_is_narrow : Cert → Bool
cert_is_narrow c = segments_are_narrow c.segments && intervals_are_narrow c.intervals
