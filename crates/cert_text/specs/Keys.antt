-- Inner. What is left of a reading where the keys of an object are read that have values of their own.
use Rattle.std.specs.Prelude.{ℕ, List, Option, Ok, codes, map}
use Rattle.rational_laws.specs.Fraction.{Fraction}
use Rattle.loss_model.specs.declared.process.Segment.{Segment}
use Rattle.loss_model.specs.declared.interval.Bound.TheVariants.{Finite, Infinite}
use Rattle.loss_model.specs.declared.interval.Beyond.TheVariants.{Outside, Ray}
use Rattle.loss_model.specs.declared.interval.End.{End}
use Rattle.loss_model.specs.declared.interval.IntervalProof.{IntervalProof}
use Rattle.serde_json.specs.Data.{Members}
use Rattle.frac_core.specs.Values.{exact}
use Rattle.loss_model.specs.Values.{exact_row}
use Rattle.cert_text.specs.Kept.{basic_rows}
use Rattle.cert_text.specs.Chains.{high_places, side_at, values_at, moved}
use Rattle.cert_text.specs.Contents.{Content}
use Rattle.cert_text.specs.Certificates.{anything, segments, sides, vertex_of, if_filled, if_as_many}
use Rattle.cert_text.specs.Reading.{Reading, on_read, field, fitting, no_more_keys}
use Rattle.cert_text.specs.Ratios.{ratio}
use Rattle.cert_text.specs.declared.layout.Layout.{Layout}
use Rattle.cert_text.specs.declared.layout.Width.{Width}
use Rattle.cert_text.specs.declared.place.Place.{Place}
use Rattle.cert_text.specs.declared.read.TopKeys.{TopKeys}
use Rattle.cert_text.specs.declared.segment.FrontKeys.{FrontKeys}
use Rattle.cert_text.specs.declared.segment.SegmentKeys.{SegmentKeys}
use Rattle.cert_text.specs.declared.later.LaterKeys.{LaterKeys}
use Rattle.cert_text.specs.declared.interval.FiniteKeys.{FiniteKeys}
use Rattle.cert_text.specs.declared.interval.InfiniteKeys.{InfiniteKeys}
use Rattle.cert_text.specs.declared.interval.ProjectionKeys.{ProjectionKeys}

-- the segment of these keys
abbrev pub segment_from : SegmentKeys → Segment
segment_from k = record {
  lo = k.back.ends.second;
  hi = k.back.ends.first;
  vertex = vertex_of k.back.sides.0 k.front.coef;
  basic_lo = k.front.basic_lo;
  basic_hi = k.front.basic_hi;
  loss_lo = k.back.losses.second;
  loss_hi = k.back.losses.first;
}

-- a segment of these keys, with these members behind them
abbrev pub segment_behind : Option ℕ → SegmentKeys → Members → Reading Segment
segment_behind rows k ms =
    on_read (fitting (codes "sides") (if_filled rows k.back.sides.0 k.front.basic_lo k.front.basic_hi)) (λ _.
    on_read (no_more_keys ms) (λ _.
    Ok (segment_from k)))

-- what is read behind two numbers
abbrev pub two_ratios : Width → List ℕ → List ℕ → Members → (Fraction → Fraction → Members → Reading Segment) → Reading Segment
two_ratios width first second ms behind =
    on_read (field first (ratio width) ms) (λ a. on_read (field second (ratio width) a.1) (λ b. behind a.0 b.0 b.1))

-- a segment of these numbers, with these members behind them
abbrev pub behind_losses : Option ℕ → FrontKeys → Fraction → Fraction → Fraction → Fraction → Members → Reading Segment
behind_losses rows front hi lo loss_hi loss_lo ms =
    on_read (field (codes "sides") sides ms) (λ signs.
    on_read (fitting (codes "sides") (if_filled rows signs.0 front.basic_lo front.basic_hi)) (λ _.
    on_read (no_more_keys signs.1) (λ _.
    Ok (record {
      lo = lo;
      hi = hi;
      vertex = vertex_of signs.0 front.coef;
      basic_lo = front.basic_lo;
      basic_hi = front.basic_hi;
      loss_lo = loss_lo;
      loss_hi = loss_hi;
    }))))

abbrev pub behind_ends : Width → Option ℕ → FrontKeys → Fraction → Fraction → Members → Reading Segment
behind_ends width rows front hi lo ms = two_ratios width (codes "loss_hi") (codes "loss_lo") ms (behind_losses rows front hi lo)

-- a segment whose first keys these are, with these members behind them
abbrev pub segment_behind_front : Width → Option ℕ → FrontKeys → Members → Reading Segment
segment_behind_front width rows front ms = two_ratios width (codes "hi") (codes "lo") ms (behind_ends width rows front)

-- the segment of these keys behind another one, whose rows lie here at its low end
abbrev pub later_from : Segment → LaterKeys → List (Place Fraction) → Segment
later_from before k low = record {
  lo = before.hi;
  hi = k.hi;
  vertex = vertex_of (map side_at low) k.coef;
  basic_lo = values_at low;
  basic_hi = k.basic_hi;
  loss_lo = before.loss_hi;
  loss_hi = k.loss_hi;
}

-- a segment of these keys behind another one, with these members behind them
abbrev pub later_behind : Segment → LaterKeys → Members → Reading Segment
later_behind before k ms =
    on_read (fitting (codes "moves") (moved 0 (high_places before) k.moves)) (λ low.
    on_read (fitting (codes "moves") (if_as_many (basic_rows (map side_at low)) k.basic_hi)) (λ _.
    on_read (no_more_keys ms) (λ _.
    Ok (later_from before k low))))

-- a finite end of these keys
abbrev pub finite_end : List Fraction → List Fraction → FiniteKeys → End
finite_end coef inside k =
    record { bound = Finite k.value; vertex = vertex_of k.sides.0 coef; inside = inside; beyond = Outside k.outside }

-- an infinite end of these keys
abbrev pub infinite_end : List Fraction → List Fraction → InfiniteKeys → End
infinite_end coef inside k =
    record { bound = Infinite; vertex = vertex_of k.sides.0 coef; inside = inside; beyond = Ray k.ray }

-- an interval of these ends and keys
abbrev pub interval_with : ℕ → Fraction → End → End → ProjectionKeys → IntervalProof
interval_with column crit high low k =
    record { column = column; tau = k.tau; crit = crit; low = low; high = high; projection = k.projection }

-- what a certificate says by these keys and segments
abbrev pub top_with : TopKeys → List Segment → Content
top_with k segments = record {
  problem = record { columns = k.columns; rows = map exact_row k.rows };
  lo = exact k.lo;
  hi = exact k.hi;
  segments = segments;
  intervals = k.intervals;
}

-- a certificate of these keys and of so many rows, with these members behind them
abbrev pub top_behind : Layout → ℕ → TopKeys → Members → Reading Content
top_behind layout rows k ms =
    on_read (field (codes "segments") (segments layout rows) ms) (λ segments.
    on_read (field (codes "version") anything segments.1) (λ version.
    on_read (no_more_keys version.1) (λ _.
    Ok (top_with k segments.0))))
