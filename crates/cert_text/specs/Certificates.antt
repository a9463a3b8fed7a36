-- Stated. The certificate that bytes are, or their first fault.
use Rattle.std.specs.Prelude.{ℕ, List, [], ◌∷◌, ◌==◌, ◌||◌, ◌*◌, Bool, true, false, Option, Some}
use Rattle.std.specs.Prelude.{None, Ok, Err, codes, length, map, nat_lt, is_some, option_and_then, option_map, ⊤, if◌then◌else◌}
use Rattle.std.specs.Str.{is_utf8, bytes_eq}
use Rattle.rational_laws.specs.Fraction.{Fraction}
use Rattle.rational_laws.specs.Rational.{ℚ}
use Rattle.frac_core.specs.Limits.{most_rows, most_columns}
use Rattle.loss_model.specs.declared.problem.Row.{Row}
use Rattle.loss_model.specs.declared.vertex.Side.{Side}
use Rattle.loss_model.specs.declared.vertex.Side.TheVariants.{Up, Down, Basic}
use Rattle.loss_model.specs.declared.vertex.Vertex.{Vertex}
use Rattle.loss_model.specs.declared.process.Segment.{Segment}
use Rattle.loss_model.specs.declared.interval.Bound.TheVariants.{Finite, Infinite}
use Rattle.loss_model.specs.declared.interval.Beyond.TheVariants.{Outside, Ray}
use Rattle.loss_model.specs.declared.interval.End.{End}
use Rattle.loss_model.specs.declared.interval.IntervalProof.{IntervalProof}
use Rattle.serde_json.specs.Data.{Data, Items, no_items, item, Members}
use Rattle.serde_json.specs.Find.{as_array, as_number, as_u64, as_str, as_object, get}
use Rattle.serde_json.specs.Read.{read}
use Rattle.cert_text.specs.Contents.{Content}
use Rattle.cert_text.specs.Kept.{basic_rows}
use Rattle.cert_text.specs.Chains.{is_filled, high_places, side_at, values_at, moved}
use Rattle.cert_text.specs.Limits.{most_segments, most_intervals, most_sides}
use Rattle.cert_text.specs.Paths.{key_step}
use Rattle.cert_text.specs.Reading.{Reading, Reader, on_read, under, or_shape, fraction, count, list, linked_list, field, fitting, no_more_keys, object_of}
use Rattle.cert_text.specs.declared.place.Place.{Place}
use Rattle.cert_text.specs.declared.place.Place.TheVariants.{Above, Below, On}
use Rattle.cert_text.specs.declared.moves.Move.{Move}
use Rattle.cert_text.specs.Ratios.{ratio}
use Rattle.cert_text.specs.declared.layout.Layout.{Layout}
use Rattle.cert_text.specs.declared.layout.Layout.TheVariants.{Full, Chained, Wide}
use Rattle.cert_text.specs.declared.layout.Width.{Width}
use Rattle.cert_text.specs.declared.layout.Width.TheVariants.{Narrow, Long}
use Rattle.cert_text.specs.declared.fault.CertFault.TheVariants.{NotJson, Version, TooLarge}

abbrev pub fractions : Reader (List ℚ)
fractions = list fraction

-- ---- rows

-- the keys of a row
unfoldable pub row_members : Members → Reading (Row ℚ)
row_members ms =
    on_read (field (codes "down0") fraction ms) (λ down0.
    on_read (field (codes "down1") fraction down0.1) (λ down1.
    on_read (field (codes "up0") fraction down1.1) (λ up0.
    on_read (field (codes "up1") fraction up0.1) (λ up1.
    on_read (field (codes "x") fractions up1.1) (λ x.
    on_read (field (codes "y") fraction x.1) (λ y.
    on_read (no_more_keys y.1) (λ _.
    Ok (record { x = x.0; y = y.0; up0 = up0.0; up1 = up1.0; down0 = down0.0; down1 = down1.0 }))))))))

unfoldable pub row : Reader (Row ℚ)
row = object_of row_members

-- ---- numbers of an answer

abbrev pub ratios : Width → Reader (List Fraction)
ratios width = list (ratio width)

-- ---- sides and vertices

-- a side by its sign: above the fit, below it, or on it
abbrev pub side_of : ℕ → Option Side
side_of b = if b == 43 then Some Up else (if b == 45 then Some Down else (if b == 42 then Some Basic else None))

-- a side for each sign, if each is one of the three
abbrev pub sides_of : List ℕ → Option (List Side)
sides_of [] = Some []
sides_of (b ∷ bs) = option_and_then (λ side. option_map (λ more. side ∷ more) (sides_of bs)) (side_of b)

-- a string of signs
unfoldable pub sides : Reader (List Side)
sides d = or_shape (option_and_then sides_of (as_str d))

-- the vertex with these sides, whose basis lists the Basic rows
abbrev pub vertex_of : List Side → List Fraction → Vertex
vertex_of signs coef = record { basis = record { rows = basic_rows signs }; sides = signs; coef = coef }

-- ---- segments

-- where the number of rows is told, there must be one side per row, and as many dual values as stars
abbrev pub if_filled : Option ℕ → List Side → List Fraction → List Fraction → Option ⊤
if_filled None signs lo hi = Some tt
if_filled (Some rows) signs lo hi = if is_filled rows signs lo hi then Some tt else None

-- the keys of a segment in full
unfoldable pub segment_members : Width → Option ℕ → Members → Reading Segment
segment_members width rows ms =
    on_read (field (codes "basic_hi") (ratios width) ms) (λ basic_hi.
    on_read (field (codes "basic_lo") (ratios width) basic_hi.1) (λ basic_lo.
    on_read (field (codes "coef") (ratios width) basic_lo.1) (λ coef.
    on_read (field (codes "hi") (ratio width) coef.1) (λ hi.
    on_read (field (codes "lo") (ratio width) hi.1) (λ lo.
    on_read (field (codes "loss_hi") (ratio width) lo.1) (λ loss_hi.
    on_read (field (codes "loss_lo") (ratio width) loss_hi.1) (λ loss_lo.
    on_read (field (codes "sides") sides loss_lo.1) (λ signs.
    on_read (fitting (codes "sides") (if_filled rows signs.0 basic_lo.0 basic_hi.0)) (λ _.
    on_read (no_more_keys signs.1) (λ _.
    Ok (record {
      lo = lo.0;
      hi = hi.0;
      vertex = vertex_of signs.0 coef.0;
      basic_lo = basic_lo.0;
      basic_hi = basic_hi.0;
      loss_lo = loss_lo.0;
      loss_hi = loss_hi.0;
    })))))))))))

unfoldable pub segment : Width → Option ℕ → Reader Segment
segment width rows = object_of (segment_members width rows)

-- ---- segments that say what changes

abbrev pub side_by_name : List ℕ → Option Side
side_by_name s = if bytes_eq s (codes "+") then Some Up else (if bytes_eq s (codes "-") then Some Down
    else (if bytes_eq s (codes "*") then Some Basic else None))

-- one sign
unfoldable pub side : Reader Side
side d = or_shape (option_and_then side_by_name (as_str d))

-- the keys of a move behind its side: a value exactly where the row is on the fit then
unfoldable pub place_members : Width → Side → Members → Reading (Place Fraction)
place_members width Up ms = on_read (no_more_keys ms) (λ _. Ok Above)
place_members width Down ms = on_read (no_more_keys ms) (λ _. Ok Below)
place_members width Basic ms = on_read (field (codes "value") (ratio width) ms) (λ value. on_read (no_more_keys value.1) (λ _. Ok (On value.0)))

-- the keys of a move
unfoldable pub move_members : Width → Members → Reading (Move Fraction)
move_members width ms =
    on_read (field (codes "row") count ms) (λ row.
    on_read (field (codes "side") side row.1) (λ signed.
    on_read (place_members width signed.0 signed.1) (λ place.
    Ok (record { row = row.0; place = place }))))

unfoldable pub one_move : Width → Reader (Move Fraction)
one_move width = object_of (move_members width)

-- the rows on the fit must be as many as the dual values
abbrev pub if_as_many : List ℕ → List Fraction → Option ⊤
if_as_many rows values = if length rows == length values then Some tt else None

-- the keys of a segment behind another one
unfoldable pub later_members : Width → Segment → Members → Reading Segment
later_members width before ms =
    on_read (field (codes "basic_hi") (ratios width) ms) (λ basic_hi.
    on_read (field (codes "coef") (ratios width) basic_hi.1) (λ coef.
    on_read (field (codes "hi") (ratio width) coef.1) (λ hi.
    on_read (field (codes "loss_hi") (ratio width) hi.1) (λ loss_hi.
    on_read (field (codes "moves") (list (one_move width)) loss_hi.1) (λ moves.
    on_read (fitting (codes "moves") (moved 0 (high_places before) moves.0)) (λ low.
    on_read (fitting (codes "moves") (if_as_many (basic_rows (map side_at low)) basic_hi.0)) (λ _.
    on_read (no_more_keys moves.1) (λ _.
    Ok (record {
      lo = before.hi;
      hi = hi.0;
      vertex = vertex_of (map side_at low) coef.0;
      basic_lo = values_at low;
      basic_hi = basic_hi.0;
      loss_lo = before.loss_hi;
      loss_hi = loss_hi.0;
    })))))))))

unfoldable pub later_segment : Width → Segment → Reader Segment
later_segment width before = object_of (later_members width before)

-- a segment of a chain: the first in full, and a later one by what changes from the one before it
abbrev pub linked_segment : Width → ℕ → Option Segment → Reader Segment
linked_segment width rows None = segment width (Some rows)
linked_segment width rows (Some before) = later_segment width before

-- the second item of a list
abbrev pub second_of : Items → Option Data
second_of no_items = None
second_of (item d no_items) = None
second_of (item d (item e ds)) = Some e

-- the second segment says what changes
abbrev pub is_linked : Data → Bool
is_linked d = is_some (option_and_then (get (codes "moves")) (option_and_then second_of (as_array d)))

-- segments of any size, in full, or each but the first by what changes
abbrev pub either_segments : ℕ → Reader (List Segment)
either_segments rows d = if is_linked d then linked_list (linked_segment Long rows) d else list (segment Long None) d

-- the segments of a problem with so many rows
abbrev pub segments : Layout → ℕ → Reader (List Segment)
segments Full rows = list (segment Narrow None)
segments Chained rows = linked_list (linked_segment Narrow rows)
segments Wide rows = either_segments rows

-- ---- intervals

abbrev pub finite_by_name : List ℕ → Option Bool
finite_by_name s = if bytes_eq s (codes "finite") then Some true else (if bytes_eq s (codes "infinite") then Some false else None)

-- whether an end is finite
unfoldable pub end_kind : Reader Bool
end_kind d = or_shape (option_and_then finite_by_name (as_str d))

-- the keys of a finite end behind its kind
unfoldable pub finite_members : Width → List Fraction → List Fraction → Members → Reading End
finite_members width coef inside ms =
    on_read (field (codes "outside") (ratios width) ms) (λ outside.
    on_read (field (codes "sides") sides outside.1) (λ signs.
    on_read (field (codes "value") (ratio width) signs.1) (λ value.
    on_read (no_more_keys value.1) (λ _.
    Ok (record { bound = Finite value.0; vertex = vertex_of signs.0 coef; inside = inside; beyond = Outside outside.0 })))))

-- the keys of an infinite end behind its kind
unfoldable pub infinite_members : Width → List Fraction → List Fraction → Members → Reading End
infinite_members width coef inside ms =
    on_read (field (codes "ray") (ratios width) ms) (λ ray.
    on_read (field (codes "sides") sides ray.1) (λ signs.
    on_read (no_more_keys signs.1) (λ _.
    Ok (record { bound = Infinite; vertex = vertex_of signs.0 coef; inside = inside; beyond = Ray ray.0 }))))

-- the keys of an end
unfoldable pub end_members : Width → Members → Reading End
end_members width ms =
    on_read (field (codes "coef") (ratios width) ms) (λ coef.
    on_read (field (codes "inside") (ratios width) coef.1) (λ inside.
    on_read (field (codes "kind") end_kind inside.1) (λ is_finite.
    if is_finite.0 then finite_members width coef.0 inside.0 is_finite.1 else infinite_members width coef.0 inside.0 is_finite.1)))

unfoldable pub end_of : Width → Reader End
end_of width = object_of (end_members width)

-- the keys of an interval behind its ends
unfoldable pub projected_members : Width → ℕ → Fraction → End → End → Members → Reading IntervalProof
projected_members width column crit high low ms =
    on_read (field (codes "projection") (ratios width) ms) (λ projection.
    on_read (field (codes "tau") (ratio width) projection.1) (λ tau.
    on_read (no_more_keys tau.1) (λ _.
    Ok (record { column = column; tau = tau.0; crit = crit; low = low; high = high; projection = projection.0 }))))

-- the keys of an interval
unfoldable pub interval_members : Width → Members → Reading IntervalProof
interval_members width ms =
    on_read (field (codes "column") count ms) (λ column.
    on_read (field (codes "crit") (ratio width) column.1) (λ crit.
    on_read (field (codes "high") (end_of width) crit.1) (λ high.
    on_read (field (codes "low") (end_of width) high.1) (λ low.
    projected_members width column.0 crit.0 high.0 low.0 low.1))))

unfoldable pub interval : Width → Reader IntervalProof
interval width = object_of (interval_members width)

-- ---- the certificate

abbrev pub if_certificate : List ℕ → Option ⊤
if_certificate s = if bytes_eq s (codes "quantreg-certificate") then Some tt else None

-- the kind of the text
unfoldable pub kind : Reader ⊤
kind d = or_shape (option_and_then if_certificate (as_str d))

-- the version is looked at before all else
abbrev pub anything : Reader ⊤
anything d = Ok tt

-- how wide numbers may be
abbrev pub width_of : Layout → Width
width_of Full = Narrow
width_of Chained = Narrow
width_of Wide = Long

-- the keys of the top
unfoldable pub top_members : Layout → Members → Reading Content
top_members layout ms =
    on_read (field (codes "columns") count ms) (λ columns.
    on_read (field (codes "hi") fraction columns.1) (λ hi.
    on_read (field (codes "intervals") (list (interval (width_of layout))) hi.1) (λ intervals.
    on_read (field (codes "kind") kind intervals.1) (λ kind.
    on_read (field (codes "lo") fraction kind.1) (λ lo.
    on_read (field (codes "rows") (list row) lo.1) (λ rows.
    on_read (field (codes "segments") (segments layout (length rows.0)) rows.1) (λ segments.
    on_read (field (codes "version") anything segments.1) (λ version.
    on_read (no_more_keys version.1) (λ _.
    Ok (record {
      problem = record { columns = columns.0; rows = rows.0 };
      lo = lo.0;
      hi = hi.0;
      segments = segments.0;
      intervals = intervals.0;
    }))))))))))

abbrev pub is_too_large : Content → Bool
is_too_large c =
    nat_lt most_columns c.problem.columns || (nat_lt most_rows (length c.problem.rows)
    || (nat_lt most_segments (length c.segments)
    || (nat_lt most_intervals (length c.intervals) || nat_lt most_sides (length c.problem.rows * length c.segments))))

-- at most 128 columns, 16,384 rows, 2^20 segments, 8,192 intervals and 2^30 rows times segments
abbrev pub within_limits : Content → Reading Content
within_limits c = if is_too_large c then Err TooLarge else Ok c

-- the version, which stands in the top as an unsigned number
unfoldable pub version_of : Data → Reading ℕ
version_of d = under (key_step (codes "version")) (or_shape (option_and_then as_u64 (option_and_then as_number (get (codes "version") d))))

-- the layout that a version has
abbrev pub layout_of : ℕ → Option Layout
layout_of n = if n == 1 then Some Full else (if n == 2 then Some Chained else (if n == 3 then Some Wide else None))

abbrev pub or_version : {A : Type 0} → Option A → Reading A
or_version (Some a) = Ok a
or_version None = Err Version

-- first the top and its version, then every key, and then the limits
unfoldable pub cert_of_data : Data → Reading Content
cert_of_data d =
    on_read (or_shape (as_object d)) (λ ms.
    on_read (version_of d) (λ n.
    on_read (or_version (layout_of n)) (λ layout.
    on_read (top_members layout ms) within_limits)))

-- the JSON that bytes are
unfoldable pub json_of : List ℕ → Option Data
json_of bytes = if is_utf8 bytes then read bytes else None

abbrev pub or_not_json : Option Data → Reading Data
or_not_json (Some d) = Ok d
or_not_json None = Err NotJson

-- the certificate that bytes are, or their first fault
unfoldable pub cert_of : List ℕ → Reading Content
cert_of bytes = on_read (or_not_json (json_of bytes)) cert_of_data
