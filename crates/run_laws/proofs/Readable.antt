-- A certificate that passes the test of its digits has no number with more of them than are read.
use Rattle.std.proofs.Common.{◌≡◌, ◌≤◌, ℕ, true, List, [], ◌∷◌, All, length}
use Rattle.std.proofs.lemmas.Bool.{and_parts, leb-true}
use Rattle.std.proofs.lemmas.List.Elements.{All-cons, All-nil}
use Rattle.rational_laws.specs.Fraction.{Fraction}
use Rattle.natural.specs.Decimal.{decimal_text}
use Rattle.loss_model.specs.declared.process.Segment.{Segment}
use Rattle.loss_model.specs.declared.interval.Bound.{Bound}
use Rattle.loss_model.specs.declared.interval.Bound.TheVariants.{Finite, Infinite}
use Rattle.loss_model.specs.declared.interval.Beyond.{Beyond}
use Rattle.loss_model.specs.declared.interval.Beyond.TheVariants.{Outside, Ray}
use Rattle.loss_model.specs.declared.interval.End.{End}
use Rattle.loss_model.specs.declared.interval.IntervalProof.{IntervalProof}
use Rattle.cert_text.specs.Numbers.{BeyondHas, BoundHas, CertHas, EndHas, IntervalHas, IsReadable, SegmentHas}
use Rattle.cert_text.specs.Ratios.{most_digits}
use Rattle.cert_text.specs.declared.cert.Cert.{Cert}
use Rattle.rq_engine.specs.Digits.{are_readable, beyond_is_readable, bound_is_readable, cert_is_readable, end_is_readable, has_few_digits, interval_is_readable, intervals_are_readable, is_readable, segment_is_readable, segments_are_readable}

digits : (n : ℕ) → has_few_digits n ≡ true → length (decimal_text n) ≤ most_digits
digits n h = leb-true (length (decimal_text n)) most_digits h

number : (x : Fraction) → is_readable x ≡ true → IsReadable x
number x h = let both = and_parts _ _ h in record { num = digits _ both.0; den = digits _ both.1 }

numbers : (xs : List Fraction) → are_readable xs ≡ true → All IsReadable xs
numbers [] h = All-nil IsReadable
numbers (x ∷ xs) h = let both = and_parts (is_readable x) (are_readable xs) h in All-cons IsReadable x xs (number x both.0) (numbers xs both.1)

segment : (s : Segment) → segment_is_readable s ≡ true → SegmentHas IsReadable s
segment s h =
    let lo = and_parts (is_readable s.lo) _ h in
    let hi = and_parts (is_readable s.hi) _ lo.1 in
    let coef = and_parts (are_readable s.vertex.coef) _ hi.1 in
    let basic_lo = and_parts (are_readable s.basic_lo) _ coef.1 in
    let basic_hi = and_parts (are_readable s.basic_hi) _ basic_lo.1 in
    let losses = and_parts (is_readable s.loss_lo) (is_readable s.loss_hi) basic_hi.1 in
    record {
      lo = number s.lo lo.0;
      hi = number s.hi hi.0;
      coef = numbers s.vertex.coef coef.0;
      basic_lo = numbers s.basic_lo basic_lo.0;
      basic_hi = numbers s.basic_hi basic_hi.0;
      loss_lo = number s.loss_lo losses.0;
      loss_hi = number s.loss_hi losses.1;
    }

segments : (ss : List Segment) → segments_are_readable ss ≡ true → All (SegmentHas IsReadable) ss
segments [] h = All-nil (SegmentHas IsReadable)
segments (s ∷ ss) h =
    let both = and_parts (segment_is_readable s) (segments_are_readable ss) h in All-cons (SegmentHas IsReadable) s ss (segment s both.0) (segments ss both.1)

bound : (b : Bound Fraction) → bound_is_readable b ≡ true → BoundHas IsReadable b
bound (Finite x) h = number x h
bound Infinite h = tt

beyond : (y : Beyond) → beyond_is_readable y ≡ true → BeyondHas IsReadable y
beyond (Outside xs) h = numbers xs h
beyond (Ray xs) h = numbers xs h

end_of : (e : End) → end_is_readable e ≡ true → EndHas IsReadable e
end_of e h =
    let first = and_parts (bound_is_readable e.bound) _ h in
    let coef = and_parts (are_readable e.vertex.coef) _ first.1 in
    let inside = and_parts (are_readable e.inside) (beyond_is_readable e.beyond) coef.1 in
    record { bound = bound e.bound first.0; coef = numbers e.vertex.coef coef.0; inside = numbers e.inside inside.0; beyond = beyond e.beyond inside.1 }

interval : (t : IntervalProof) → interval_is_readable t ≡ true → IntervalHas IsReadable t
interval t h =
    let tau = and_parts (is_readable t.tau) _ h in
    let crit = and_parts (is_readable t.crit) _ tau.1 in
    let low = and_parts (end_is_readable t.low) _ crit.1 in
    let high = and_parts (end_is_readable t.high) (are_readable t.projection) low.1 in
    record {
      tau = number t.tau tau.0;
      crit = number t.crit crit.0;
      low = end_of t.low low.0;
      high = end_of t.high high.0;
      projection = numbers t.projection high.1;
    }

intervals : (ts : List IntervalProof) → intervals_are_readable ts ≡ true → All (IntervalHas IsReadable) ts
intervals [] h = All-nil (IntervalHas IsReadable)
intervals (t ∷ ts) h =
    let both = and_parts (interval_is_readable t) (intervals_are_readable ts) h in All-cons (IntervalHas IsReadable) t ts (interval t both.0) (intervals ts both.1)

pub few_digits : (c : Cert) → cert_is_readable c ≡ true → CertHas IsReadable c
few_digits c h =
    let both = and_parts (segments_are_readable c.segments) (intervals_are_readable c.intervals) h in
    record { segments = segments c.segments both.0; intervals = intervals c.intervals both.1 }
