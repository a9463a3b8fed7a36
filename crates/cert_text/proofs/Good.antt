-- All numbers of a certificate are read back: within 127 bits where none is wider, else those of few digits.
use Rattle.std.proofs.Common.{◌≡◌, All, Bool, true, false, List, [], ◌∷◌, refl}
use Rattle.std.proofs.lemmas.Bool.{and_parts}
use Rattle.std.proofs.lemmas.List.Elements.{All-cons, All-nil}
use Rattle.rational_laws.specs.Fraction.{Fraction}
use Rattle.ratio.specs.Lowest.{IsLowest}
use Rattle.loss_model.specs.declared.process.Segment.{Segment}
use Rattle.loss_model.specs.declared.interval.Bound.{Bound}
use Rattle.loss_model.specs.declared.interval.Bound.TheVariants.{Finite, Infinite}
use Rattle.loss_model.specs.declared.interval.Beyond.{Beyond}
use Rattle.loss_model.specs.declared.interval.Beyond.TheVariants.{Outside, Ray}
use Rattle.loss_model.specs.declared.interval.End.{End}
use Rattle.loss_model.specs.declared.interval.IntervalProof.{IntervalProof}
use Rattle.cert_text.specs.Certificates.{width_of}
use Rattle.cert_text.specs.Chains.{is_chained}
use Rattle.cert_text.specs.Contents.{content}
use Rattle.cert_text.specs.Numbers.{AreLowest, BeyondHas, BoundHas, CertHas, EndHas, IntervalHas, IsReadable, SegmentHas, are_narrow, beyond_is_narrow, bound_is_narrow, cert_is_narrow, end_is_narrow, interval_is_narrow, intervals_are_narrow, segment_is_narrow, segments_are_narrow}
use Rattle.cert_text.specs.Ratios.{is_narrow}
use Rattle.cert_text.specs.Trees.{layout, layout_for}
use Rattle.cert_text.specs.declared.cert.Cert.{Cert}
use Rattle.cert_text.specs.declared.layout.Width.TheVariants.{Narrow, Long}
use Rattle.cert_text.proofs.PartsBack.{IsGood}

-- ---- both of two properties

module _ (P Q R : Fraction → Type 0) (both : (x : Fraction) → P x → Q x → R x) where
  all_both : (xs : List Fraction) → All P xs → All Q xs → All R xs
  all_both xs p q = λ k d l. both _ (p k d l) (q k d l)

  segment_both : (s : Segment) → SegmentHas P s → SegmentHas Q s → SegmentHas R s
  segment_both s p q = record {
    lo = both _ p.lo q.lo;
    hi = both _ p.hi q.hi;
    coef = all_both _ p.coef q.coef;
    basic_lo = all_both _ p.basic_lo q.basic_lo;
    basic_hi = all_both _ p.basic_hi q.basic_hi;
    loss_lo = both _ p.loss_lo q.loss_lo;
    loss_hi = both _ p.loss_hi q.loss_hi;
  }

  bound_both : (b : Bound Fraction) → BoundHas P b → BoundHas Q b → BoundHas R b
  bound_both (Finite x) p q = both x p q
  bound_both Infinite p q = tt

  beyond_both : (b : Beyond) → BeyondHas P b → BeyondHas Q b → BeyondHas R b
  beyond_both (Outside xs) p q = all_both xs p q
  beyond_both (Ray xs) p q = all_both xs p q

  end_both : (e : End) → EndHas P e → EndHas Q e → EndHas R e
  end_both e p q = record {
    bound = bound_both e.bound p.bound q.bound;
    coef = all_both _ p.coef q.coef;
    inside = all_both _ p.inside q.inside;
    beyond = beyond_both e.beyond p.beyond q.beyond;
  }

  interval_both : (t : IntervalProof) → IntervalHas P t → IntervalHas Q t → IntervalHas R t
  interval_both t p q = record {
    tau = both _ p.tau q.tau;
    crit = both _ p.crit q.crit;
    low = end_both t.low p.low q.low;
    high = end_both t.high p.high q.high;
    projection = all_both _ p.projection q.projection;
  }

  cert_both : (c : Cert) → CertHas P c → CertHas Q c → CertHas R c
  cert_both c p q = record {
    segments = λ k d l. segment_both _ (p.segments k d l) (q.segments k d l);
    intervals = λ k d l. interval_both _ (p.intervals k d l) (q.intervals k d l);
  }

-- ---- what the test tells

abbrev IsNarrow : Fraction → Type 0
IsNarrow x = is_narrow x ≡ true

narrow_each : (xs : List Fraction) → are_narrow xs ≡ true → All IsNarrow xs
narrow_each [] h = All-nil IsNarrow
narrow_each (x ∷ xs) h = let parts = and_parts _ _ h in All-cons IsNarrow x xs parts.0 (narrow_each xs parts.1)

narrow_segment : (s : Segment) → segment_is_narrow s ≡ true → SegmentHas IsNarrow s
narrow_segment s h =
    let a = and_parts _ _ h in
    let b = and_parts _ _ a.1 in
    let c = and_parts _ _ b.1 in
    let d = and_parts _ _ c.1 in
    let e = and_parts _ _ d.1 in
    let f = and_parts _ _ e.1 in
    record {
      lo = a.0;
      hi = b.0;
      coef = narrow_each s.vertex.coef c.0;
      basic_lo = narrow_each s.basic_lo d.0;
      basic_hi = narrow_each s.basic_hi e.0;
      loss_lo = f.0;
      loss_hi = f.1;
    }

narrow_bound : (b : Bound Fraction) → bound_is_narrow b ≡ true → BoundHas IsNarrow b
narrow_bound (Finite x) h = h
narrow_bound Infinite h = tt

narrow_beyond : (b : Beyond) → beyond_is_narrow b ≡ true → BeyondHas IsNarrow b
narrow_beyond (Outside xs) h = narrow_each xs h
narrow_beyond (Ray xs) h = narrow_each xs h

narrow_end : (e : End) → end_is_narrow e ≡ true → EndHas IsNarrow e
narrow_end e h =
    let a = and_parts _ _ h in
    let b = and_parts _ _ a.1 in
    let c = and_parts _ _ b.1 in
    record {
      bound = narrow_bound e.bound a.0;
      coef = narrow_each e.vertex.coef b.0;
      inside = narrow_each e.inside c.0;
      beyond = narrow_beyond e.beyond c.1;
    }

narrow_interval : (t : IntervalProof) → interval_is_narrow t ≡ true → IntervalHas IsNarrow t
narrow_interval t h =
    let a = and_parts _ _ h in
    let b = and_parts _ _ a.1 in
    let c = and_parts _ _ b.1 in
    let d = and_parts _ _ c.1 in
    record {
      tau = a.0;
      crit = b.0;
      low = narrow_end t.low c.0;
      high = narrow_end t.high d.0;
      projection = narrow_each t.projection d.1;
    }

narrow_segments : (ss : List Segment) → segments_are_narrow ss ≡ true → All (SegmentHas IsNarrow) ss
narrow_segments [] h = All-nil (SegmentHas IsNarrow)
narrow_segments (s ∷ ss) h = let parts = and_parts _ _ h in All-cons (SegmentHas IsNarrow) s ss (narrow_segment s parts.0) (narrow_segments ss parts.1)

narrow_intervals : (ts : List IntervalProof) → intervals_are_narrow ts ≡ true → All (IntervalHas IsNarrow) ts
narrow_intervals [] h = All-nil (IntervalHas IsNarrow)
narrow_intervals (t ∷ ts) h = let parts = and_parts _ _ h in All-cons (IntervalHas IsNarrow) t ts (narrow_interval t parts.0) (narrow_intervals ts parts.1)

narrow_cert : (c : Cert) → cert_is_narrow c ≡ true → CertHas IsNarrow c
narrow_cert c h = let parts = and_parts _ _ h in record { segments = narrow_segments c.segments parts.0; intervals = narrow_intervals c.intervals parts.1 }

-- ---- a certificate

good_in : (c : Cert) → AreLowest c → (narrow chained : Bool) → cert_is_narrow c ≡ narrow → (cert_is_narrow c ≡ false → CertHas IsReadable c)
    → CertHas (IsGood (width_of (layout_for narrow chained))) c
good_in c lowest true true e digits = cert_both IsLowest IsNarrow (IsGood Narrow) (λ x p q. record { lowest = p; read = q }) c lowest (narrow_cert c e)
good_in c lowest true false e digits = cert_both IsLowest IsNarrow (IsGood Narrow) (λ x p q. record { lowest = p; read = q }) c lowest (narrow_cert c e)
good_in c lowest false chained e digits = cert_both IsLowest IsReadable (IsGood Long) (λ x p q. record { lowest = p; read = q }) c lowest (digits e)

pub cert_good : (c : Cert) → AreLowest c → (cert_is_narrow c ≡ false → CertHas IsReadable c) → CertHas (IsGood (width_of (layout c))) c
cert_good c lowest digits = good_in c lowest (cert_is_narrow c) (is_chained (content c)) refl digits
