-- Stated. How a segment follows the one before it: where each row lies, which rows move, and what stays as it was.
use Rattle.std.specs.Prelude.{ℕ, ◌+◌, List, [], ◌∷◌, ◌==◌, ◌&&◌, Bool, true}
use Rattle.std.specs.Prelude.{false, not, Option, Some, None, length, nat_le, slice_get, slice_set, if◌then◌else◌}
use Rattle.std.specs.Ordering.{int_cmp, nat_cmp, match_ordering}
use Rattle.rational_laws.specs.Fraction.{Fraction}
use Rattle.loss_model.specs.declared.vertex.Side.{Side}
use Rattle.loss_model.specs.declared.vertex.Side.TheVariants.{Up, Down, Basic}
use Rattle.loss_model.specs.declared.process.Segment.{Segment}
use Rattle.cert_text.specs.Kept.{basic_rows}
use Rattle.cert_text.specs.Contents.{Content}
use Rattle.cert_text.specs.declared.place.Place.{Place}
use Rattle.cert_text.specs.declared.place.Place.TheVariants.{Above, Below, On}
use Rattle.cert_text.specs.declared.moves.Move.{Move}

-- ---- places

-- where each row lies, with the dual values in turn for the rows that are Basic; a row without one ends the list
abbrev pub places : {F : Type 0} → List Side → List F → List (Place F)
places [] values = []
places (Up ∷ sides) values = Above ∷ places sides values
places (Down ∷ sides) values = Below ∷ places sides values
places (Basic ∷ sides) [] = []
places (Basic ∷ sides) (x ∷ values) = On x ∷ places sides values

-- the places at the low end
abbrev pub low_places : Segment → List (Place Fraction)
low_places s = places s.vertex.sides s.basic_lo

-- the places at the high end
abbrev pub high_places : Segment → List (Place Fraction)
high_places s = places s.vertex.sides s.basic_hi

abbrev pub side_at : {F : Type 0} → Place F → Side
side_at Above = Up
side_at Below = Down
side_at (On x) = Basic

-- the dual values of the rows on the fit
abbrev pub values_at : {F : Type 0} → List (Place F) → List F
values_at [] = []
values_at (Above ∷ ps) = values_at ps
values_at (Below ∷ ps) = values_at ps
values_at (On x ∷ ps) = x ∷ values_at ps

abbrev pub is_same_side : {F : Type 0} → Place F → Place F → Bool
is_same_side Above Above = true
is_same_side Below Below = true
is_same_side (On x) (On y) = true
is_same_side p q = false

-- ---- moves

-- each row from row i on whose side differs, and where it lies then
abbrev pub moves_from : {F : Type 0} → ℕ → List (Place F) → List (Place F) → List (Move F)
moves_from i [] qs = []
moves_from i (p ∷ ps) [] = []
moves_from i (p ∷ ps) (q ∷ qs) = if is_same_side p q then moves_from (i + 1) ps qs else record { row = i; place = q } ∷ moves_from (i + 1) ps qs

-- the moves from one segment to the next
abbrev pub moves_between : Segment → Segment → List (Move Fraction)
moves_between a b = moves_from 0 (high_places a) (low_places b)

-- a row is there, and has another side
abbrev pub is_elsewhere : {F : Type 0} → Option (Place F) → Place F → Bool
is_elsewhere None q = false
is_elsewhere (Some p) q = not (is_same_side p q)

-- a move may come next if it names a row that is there, from row i on, and gives it another side
abbrev pub may_move : {F : Type 0} → ℕ → List (Place F) → Move F → Bool
may_move i ps m = nat_le i m.row && is_elsewhere (slice_get ps m.row) m.place

-- the places after the moves, each of which must name a row above the one before it
abbrev pub moved : {F : Type 0} → ℕ → List (Place F) → List (Move F) → Option (List (Place F))
moved i ps [] = Some ps
moved i ps (m ∷ ms) = if may_move i ps m then moved (m.row + 1) (slice_set ps m.row m.place) ms else None

-- ---- chained certificates

-- fractions in lowest terms are equal where both parts are
abbrev pub is_equal : Fraction → Fraction → Bool
is_equal x y = match_ordering (int_cmp x.num y.num) false (match_ordering (nat_cmp x.den y.den) false true false) false

-- one side per row, and as many dual values at either end as rows that are Basic
abbrev pub is_filled : {F : Type 0} → ℕ → List Side → List F → List F → Bool
is_filled rows sides lo hi = (length sides == rows) && ((length (basic_rows sides) == length lo) && (length (basic_rows sides) == length hi))

-- a row that stays on the fit keeps its dual value
abbrev pub keeps_value : Place Fraction → Place Fraction → Bool
keeps_value (On x) (On y) = is_equal x y
keeps_value p q = true

abbrev pub keep_values : List (Place Fraction) → List (Place Fraction) → Bool
keep_values [] qs = true
keep_values (p ∷ ps) [] = true
keep_values (p ∷ ps) (q ∷ qs) = keeps_value p q && keep_values ps qs

-- a later segment begins where the one before it ends, with the same loss, and rows that stay on the fit keep their values
abbrev pub follows : Segment → Segment → Bool
follows a b = is_equal a.hi b.lo && (is_equal a.loss_hi b.loss_lo && keep_values (high_places a) (low_places b))

abbrev pub follows_any : Option Segment → Segment → Bool
follows_any None s = true
follows_any (Some before) s = follows before s

-- each segment is filled, and follows the one before it
abbrev pub are_chained : ℕ → Option Segment → List Segment → Bool
are_chained rows before [] = true
are_chained rows before (s ∷ ss) = is_filled rows s.vertex.sides s.basic_lo s.basic_hi && (follows_any before s && are_chained rows (Some s) ss)

-- a certificate whose text may say of each later segment only what changes
abbrev pub is_chained : Content → Bool
is_chained c = are_chained (length c.problem.rows) None c.segments
