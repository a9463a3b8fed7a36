-- No certificate has a float.
use Rattle.std.proofs.Common.{◌≡◌, ℕ, Bool, true, false, List, [], ◌∷◌, Option, Some, None, map, refl}
use Rattle.rational_laws.specs.Fraction.{Fraction}
use Rattle.frac_core.specs.declared.frac128.Frac128.{Frac128}
use Rattle.loss_model.specs.declared.problem.Row.{Row}
use Rattle.loss_model.specs.declared.process.Segment.{Segment}
use Rattle.loss_model.specs.declared.interval.Bound.{Bound}
use Rattle.loss_model.specs.declared.interval.Bound.TheVariants.{Finite, Infinite}
use Rattle.loss_model.specs.declared.interval.Beyond.{Beyond}
use Rattle.loss_model.specs.declared.interval.Beyond.TheVariants.{Outside, Ray}
use Rattle.loss_model.specs.declared.interval.End.{End}
use Rattle.loss_model.specs.declared.interval.IntervalProof.{IntervalProof}
use Rattle.serde_json.specs.Data.{Data, Members}
use Rattle.serde_json.specs.View.{items_of}
use Rattle.serde_json.specs.Written.{has_float, items_have_float, members_have_float}
use Rattle.cert_text.specs.Trees.{fraction_tree, fractions_tree, ratio_tree, ratios_tree, row_tree, segment_tree, move_tree, later_tree, linked_tree, linked_trees, segments_tree, value_member, beyond_members, end_tree, interval_tree, cert_tree}
use Rattle.cert_text.specs.declared.cert.Cert.{Cert}
use Rattle.cert_text.specs.Chains.{is_chained, moves_between}
use Rattle.cert_text.specs.Contents.{content}
use Rattle.cert_text.specs.declared.place.Place.{Place}
use Rattle.cert_text.specs.declared.place.Place.TheVariants.{Above, Below, On}

items_plain : {A : Type 0} (tree : A → Data) → ((a : A) → has_float (tree a) ≡ false) → (xs : List A) → items_have_float (items_of (map tree xs)) ≡ false
items_plain tree plain [] = refl
items_plain tree plain (x ∷ xs) = rw (plain x) (items_plain tree plain xs)

numbers_plain : (xs : List Frac128) → has_float (fractions_tree xs) ≡ false
numbers_plain = items_plain fraction_tree (λ x. refl)

ratios_plain : (xs : List Fraction) → has_float (ratios_tree xs) ≡ false
ratios_plain = items_plain ratio_tree (λ x. refl)

row_plain : (r : Row Frac128) → has_float (row_tree r) ≡ false
unfolding row_tree
row_plain r = rw (numbers_plain r.x) refl

segment_plain : (s : Segment) → has_float (segment_tree s) ≡ false
unfolding segment_tree
segment_plain s = rw (ratios_plain s.basic_hi, ratios_plain s.basic_lo, ratios_plain s.vertex.coef) refl

place_plain : (row : ℕ) (p : Place Fraction) → has_float (move_tree (record { row = row; place = p })) ≡ false
unfolding move_tree
place_plain row Above = refl
place_plain row Below = refl
place_plain row (On x) = refl

later_plain : (a b : Segment) → has_float (later_tree a b) ≡ false
unfolding later_tree
later_plain a b = rw (ratios_plain b.basic_hi, ratios_plain b.vertex.coef, items_plain move_tree (λ m. place_plain m.row m.place) (moves_between a b)) refl

linked_plain : (before : Option Segment) (s : Segment) → has_float (linked_tree before s) ≡ false
linked_plain None s = segment_plain s
linked_plain (Some a) s = later_plain a s

links_plain : (before : Option Segment) (ss : List Segment) → items_have_float (items_of (linked_trees before ss)) ≡ false
links_plain before [] = refl
links_plain before (s ∷ ss) = rw (linked_plain before s) (links_plain (Some s) ss)

segments_plain : (chained : Bool) (ss : List Segment) → has_float (segments_tree chained ss) ≡ false
segments_plain false ss = items_plain segment_tree segment_plain ss
segments_plain true ss = links_plain None ss

value_plain : (b : Bound Fraction) → members_have_float (value_member b) ≡ false
value_plain (Finite x) = refl
value_plain Infinite = refl

beyond_plain : (b : Beyond) (ms : Members) → members_have_float ms ≡ false → members_have_float (beyond_members b ms) ≡ false
beyond_plain (Outside xs) ms h = rw (ratios_plain xs, h) refl
beyond_plain (Ray xs) ms h = rw (ratios_plain xs, h) refl

end_plain : (e : End) → has_float (end_tree e) ≡ false
unfolding end_tree
end_plain e = rw (ratios_plain e.vertex.coef, ratios_plain e.inside, beyond_plain e.beyond _ (value_plain e.bound)) refl

interval_plain : (t : IntervalProof) → has_float (interval_tree t) ≡ false
unfolding interval_tree
interval_plain t = rw (end_plain t.high, end_plain t.low, ratios_plain t.projection) refl

pub cert_plain : (c : Cert) → has_float (cert_tree c) ≡ false
unfolding cert_tree
cert_plain c = rw (items_plain interval_tree interval_plain c.intervals, items_plain row_tree row_plain c.problem.rows, segments_plain (is_chained (content c)) c.segments) refl
