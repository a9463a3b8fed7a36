-- The tree of a certificate is read as that certificate.
use Rattle.std.proofs.Common.{◌≡◌, ℕ, ◌≤◌, ◌*◌, ◌^◌, All, Bool, List, [], ◌∷◌, Some, None, Ok, Err, codes, length, map, nat_lt, true, false, if◌then◌else◌, refl, sym, ap, subst, ◌∙◌, arith}
use Rattle.std.proofs.lemmas.List.{length-map, map-id}
use Rattle.std.proofs.lemmas.Bool.{le-ltb}
use Rattle.rational_laws.specs.Fraction.{Fraction}
use Rattle.loss_model.specs.declared.vertex.Vertex.{Vertex}
use Rattle.loss_model.specs.declared.process.Segment.{Segment}
use Rattle.loss_model.specs.declared.interval.Bound.{Bound}
use Rattle.loss_model.specs.declared.interval.Bound.TheVariants.{Finite, Infinite}
use Rattle.loss_model.specs.declared.interval.Beyond.{Beyond}
use Rattle.loss_model.specs.declared.interval.Beyond.TheVariants.{Outside, Ray}
use Rattle.loss_model.specs.declared.interval.End.{End}
use Rattle.loss_model.specs.declared.interval.IntervalProof.{IntervalProof}
use Rattle.serde_json.specs.Data.{Members, string}
use Rattle.serde_json.specs.Find.{as_object}
use Rattle.frac_core.specs.Values.{exact}
use Rattle.loss_model.specs.Values.{exact_row}
use Rattle.cert_text.specs.Reading.{Reading, on_read, or_shape, fraction, count, linked_list, list, no_more_keys}
use Rattle.cert_text.specs.Contents.{Content, content}
use Rattle.cert_text.specs.Kept.{IsListed, IsKeptSegment, IsKeptEnd, IsKeptInterval, is_finite, is_outside}
use Rattle.cert_text.specs.Certificates.{either_segments, is_linked, linked_segment, ratios, row, sides, width_of, segment, end_kind, finite_members, infinite_members, end_members, end_of, interval_members}
use Rattle.cert_text.specs.Certificates.{projected_members, interval, kind, anything, top_members, is_too_large, within_limits, version_of, cert_of_data}
use Rattle.cert_text.specs.Limits.{IsWithinLimits}
use Rattle.cert_text.specs.Trees.{later_tree, list_tree, row_tree, segment_tree, end_tree, interval_tree, cert_tree}
use Rattle.cert_text.specs.declared.fault.CertFault.TheVariants.{TooLarge}
use Rattle.cert_text.specs.declared.cert.Cert.{Cert}
use Rattle.cert_text.specs.Laws.{TreeReadsBack}
use Rattle.cert_text.specs.Certificates.{segments, layout_of, or_version}
use Rattle.cert_text.specs.Chains.{are_chained, is_chained}
use Rattle.cert_text.specs.Trees.{segments_tree, layout, layout_for, version}
use Rattle.cert_text.specs.declared.layout.Layout.{Layout}
use Rattle.cert_text.specs.declared.layout.Layout.TheVariants.{Full, Chained, Wide}
use Rattle.cert_text.specs.Numbers.{CertHas, EndHas, IntervalHas, SegmentHas, cert_is_narrow}
use Rattle.cert_text.specs.Ratios.{ratio}
use Rattle.cert_text.specs.declared.layout.Width.{Width}
use Rattle.cert_text.specs.declared.layout.Width.TheVariants.{Narrow, Long}
use Rattle.cert_text.proofs.PartsBack.{IsGood, step, list_back, fraction_back, ratio_back, ratios_back, sides_back, vertex_back, count_back, row_back, segment_back}
use Rattle.cert_text.proofs.ChainBack.{chain_back}
use Rattle.cert_text.proofs.Good.{cert_good}

-- ---- intervals

finite_back : end_kind (string (codes "finite")) ≡ Ok true
unfolding end_kind
finite_back = refl

infinite_back : end_kind (string (codes "infinite")) ≡ Ok false
unfolding end_kind
infinite_back = refl

module _ (width : Width) where
  ends_back : (v : Vertex) (inside : List Fraction) (bound : Bound Fraction) (beyond : Beyond) → IsListed v → is_finite bound ≡ is_outside beyond
      → let e : End = record { bound = bound; vertex = v; inside = inside; beyond = beyond } in EndHas (IsGood width) e → end_of width (end_tree e) ≡ Ok e
  unfolding end_of end_members finite_members infinite_members end_tree no_more_keys
  ends_back v inside (Finite x) (Outside xs) listed h has =
      step (codes "coef") (ratios width) _ _ v.coef _ (ratios_back width v.coef has.coef)
      ∙ step (codes "inside") (ratios width) _ _ inside _ (ratios_back width inside has.inside)
      ∙ step (codes "kind") end_kind _ _ true _ finite_back
      ∙ step (codes "outside") (ratios width) _ _ xs _ (ratios_back width xs has.beyond)
      ∙ step (codes "sides") sides _ _ v.sides _ (sides_back v.sides)
      ∙ step (codes "value") (ratio width) _ _ x _ (ratio_back width x has.bound)
      ∙ ap (λ w. Ok (record { bound = Finite x; vertex = w; inside = inside; beyond = Outside xs })) (vertex_back v listed)
  ends_back v inside (Finite x) (Ray xs) listed h has = absurd (cc h)
  ends_back v inside Infinite (Outside xs) listed h has = absurd (cc h)
  ends_back v inside Infinite (Ray xs) listed h has =
      step (codes "coef") (ratios width) _ _ v.coef _ (ratios_back width v.coef has.coef)
      ∙ step (codes "inside") (ratios width) _ _ inside _ (ratios_back width inside has.inside)
      ∙ step (codes "kind") end_kind _ _ false _ infinite_back
      ∙ step (codes "ray") (ratios width) _ _ xs _ (ratios_back width xs has.beyond)
      ∙ step (codes "sides") sides _ _ v.sides _ (sides_back v.sides)
      ∙ ap (λ w. Ok (record { bound = Infinite; vertex = w; inside = inside; beyond = Ray xs })) (vertex_back v listed)

  end_back : (e : End) → IsKeptEnd e → EndHas (IsGood width) e → end_of width (end_tree e) ≡ Ok e
  end_back e kept has = ends_back e.vertex e.inside e.bound e.beyond kept.0 kept.1 has

  -- an interval that is read back
  record IsGoodInterval (t : IntervalProof) : Type 0 where
    kept : IsKeptInterval t
    has : IntervalHas (IsGood width) t

  interval_back : (t : IntervalProof) → IsGoodInterval t → interval width (interval_tree t) ≡ Ok t
  unfolding interval interval_members projected_members interval_tree no_more_keys
  interval_back t good =
      step (codes "column") count _ _ t.column _ (count_back t.column good.kept.0)
      ∙ step (codes "crit") (ratio width) _ _ t.crit _ (ratio_back width t.crit good.has.crit)
      ∙ step (codes "high") (end_of width) _ _ t.high _ (end_back t.high good.kept.1.1 good.has.high)
      ∙ step (codes "low") (end_of width) _ _ t.low _ (end_back t.low good.kept.1.0 good.has.low)
      ∙ step (codes "projection") (ratios width) _ _ t.projection _ (ratios_back width t.projection good.has.projection)
      ∙ step (codes "tau") (ratio width) _ _ t.tau _ (ratio_back width t.tau good.has.tau)

  intervals_back : (ts : List IntervalProof) → All IsKeptInterval ts → All (IntervalHas (IsGood width)) ts → list (interval width) (list_tree interval_tree ts) ≡ Ok ts
  intervals_back ts kept has =
      list_back IsGoodInterval interval_tree (λ t. t) (interval width) interval_back ts (λ k d l. record { kept = kept k d l; has = has k d l }) ∙ ap Ok (map-id ts)

  -- a segment that is read back
  record IsGoodSegment (s : Segment) : Type 0 where
    kept : IsKeptSegment s
    has : SegmentHas (IsGood width) s

  full_back : (ss : List Segment) → All IsKeptSegment ss → All (SegmentHas (IsGood width)) ss → list (segment width None) (segments_tree false ss) ≡ Ok ss
  full_back ss kept has =
      list_back IsGoodSegment segment_tree (λ s. s) (segment width None) (λ s good. segment_back width None s good.kept good.has refl) ss (λ k d l. record { kept = kept k d l; has = has k d l })
      ∙ ap Ok (map-id ss)

-- ---- the certificate

kind_back : kind (string (codes "quantreg-certificate")) ≡ Ok tt
unfolding kind
kind_back = refl

version_back : (c : Cert) → version_of (cert_tree c) ≡ Ok (version (layout c))
unfolding version_of cert_tree
version_back c = refl

layout_back : (l : Layout) → layout_of (version l) ≡ Some l
layout_back Full = refl
layout_back Chained = refl
layout_back Wide = refl

-- ---- segments

full_is_not_linked : (ss : List Segment) → is_linked (segments_tree false ss) ≡ false
unfolding segment_tree
full_is_not_linked [] = refl
full_is_not_linked (s ∷ []) = refl
full_is_not_linked (s ∷ (t ∷ ss)) = refl

-- a chain of two segments or more says what changes, and one of fewer is written as in full
chain_is_linked : (s t : Segment) (ss : List Segment) → is_linked (segments_tree true (s ∷ (t ∷ ss))) ≡ true
unfolding later_tree
chain_is_linked s t ss = refl

module _ (rows : ℕ) (few : rows ≤ 2 ^ 32) where
  either_full : (ss : List Segment) → All IsKeptSegment ss → All (SegmentHas (IsGood Long)) ss → either_segments rows (segments_tree false ss) ≡ Ok ss
  either_full ss kept has =
      ap (λ b. if b then linked_list (linked_segment Long rows) (segments_tree false ss) else list (segment Long None) (segments_tree false ss)) (full_is_not_linked ss) ∙ full_back Long ss kept has

  either_chained : (ss : List Segment) → All IsKeptSegment ss → All (SegmentHas (IsGood Long)) ss → are_chained rows None ss ≡ true → either_segments rows (segments_tree true ss) ≡ Ok ss
  either_chained [] kept has chained = either_full [] kept has
  either_chained (s ∷ []) kept has chained = either_full (s ∷ []) kept has
  either_chained (s ∷ (t ∷ ss)) kept has chained =
      ap (λ b. if b then linked_list (linked_segment Long rows) (segments_tree true (s ∷ (t ∷ ss))) else list (segment Long None) (segments_tree true (s ∷ (t ∷ ss)))) (chain_is_linked s t ss)
      ∙ chain_back rows Long (s ∷ (t ∷ ss)) few kept has chained

  -- the segments, as the certificate is narrow and chained or not
  chosen_back : (ss : List Segment) → All IsKeptSegment ss → (narrow chained : Bool) → All (SegmentHas (IsGood (width_of (layout_for narrow chained)))) ss
      → are_chained rows None ss ≡ chained → segments (layout_for narrow chained) rows (segments_tree chained ss) ≡ Ok ss
  chosen_back ss kept true true has chain = chain_back rows Narrow ss few kept has chain
  chosen_back ss kept true false has chain = full_back Narrow ss kept has
  chosen_back ss kept false true has chain = either_chained ss kept has chain
  chosen_back ss kept false false has chain = either_full ss kept has

top_back : (c : Cert) → CertHas (IsGood (width_of (layout c))) c → IsWithinLimits c → on_read (or_shape (as_object (cert_tree c))) (top_members (layout c)) ≡ Ok (content c)
unfolding cert_tree top_members no_more_keys
top_back c has within =
    let rows = length (map exact_row c.problem.rows) in
    let few : rows ≤ 2 ^ 32 = omega (arith, within.rows, length-map c.problem.rows exact_row) in
    step (codes "columns") count _ _ c.problem.columns _ (count_back c.problem.columns (omega (arith, within.columns)))
    ∙ step (codes "hi") fraction _ _ (exact c.hi) _ (fraction_back c.hi)
    ∙ step (codes "intervals") (list (interval (width_of (layout c)))) _ _ c.intervals _ (intervals_back (width_of (layout c)) c.intervals c.ended has.intervals)
    ∙ step (codes "kind") kind _ _ tt _ kind_back
    ∙ step (codes "lo") fraction _ _ (exact c.lo) _ (fraction_back c.lo)
    ∙ step (codes "rows") (list row) _ _ (map exact_row c.problem.rows) _
    (list_back (λ _. Unit {0}) row_tree exact_row row (λ r _. row_back r) c.problem.rows (λ k d lt. tt))
    ∙ step (codes "segments") (segments (layout c) rows) _ _ c.segments _
    (chosen_back rows few c.segments c.listed (cert_is_narrow c) (is_chained (content c)) has.segments refl)
    ∙ step (codes "version") anything _ _ tt _ refl

not_too_large : (c : Cert) → IsWithinLimits c → is_too_large (content c) ≡ false
not_too_large c within =
    let same_rows = length-map c.problem.rows exact_row in
    let columns : nat_lt 128 c.problem.columns ≡ false = le-ltb 128 c.problem.columns within.columns in
    let rows : nat_lt 16384 (length (map exact_row c.problem.rows)) ≡ false = le-ltb 16384 _ (omega (arith, within.rows, same_rows)) in
    let segments : nat_lt (2 ^ 20) (length c.segments) ≡ false = le-ltb (2 ^ 20) _ within.segments in
    let intervals : nat_lt 8192 (length c.intervals) ≡ false = le-ltb 8192 _ within.intervals in
    let sides : nat_lt (2 ^ 30) (length (map exact_row c.problem.rows) * length c.segments) ≡ false =
    le-ltb (2 ^ 30) _ (subst (λ n. n ≤ 2 ^ 30) (sym (ap (λ m. m * length c.segments) same_rows)) within.sides) in
    rw (columns, rows, segments, intervals, sides) refl

joined : (m : Reading Members) (n : Reading ℕ) (t : Layout → Members → Reading Content) (l : Layout) (r : Content)
    → on_read m (t l) ≡ Ok r → n ≡ Ok (version l) → is_too_large r ≡ false
    → on_read m (λ ms. on_read n (λ n. on_read (or_version (layout_of n)) (λ l. on_read (t l ms) within_limits))) ≡ Ok r
joined (Ok ms) n t l r h e small =
    ap (λ z. on_read z (λ n. on_read (or_version (layout_of n)) (λ l. on_read (t l ms) within_limits))) e
    ∙ ap (λ o. on_read (or_version o) (λ l. on_read (t l ms) within_limits)) (layout_back l)
    ∙ ap (λ z. on_read z within_limits) h
    ∙ ap (λ b. if b then Err TooLarge else Ok r) small
joined (Err f) n t l r h e small = absurd (cc h)

pub back : TreeReadsBack
unfolding cert_of_data
back c lowest within =
    joined (or_shape (as_object (cert_tree c))) (version_of (cert_tree c)) top_members (layout c) (content c) (top_back c (cert_good c lowest within.digits) within) (version_back c) (not_too_large c within)
