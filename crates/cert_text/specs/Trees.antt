-- Stated. The text of a certificate: compact JSON and a line feed.
use Rattle.std.specs.Prelude.{ℕ, Bool, true, false, List, [], ◌∷◌, ◌++◌, Option, Some, None, codes, map}
use Rattle.rational_laws.specs.Fraction.{Fraction}
use Rattle.frac_core.specs.NumberText.{number_text_of}
use Rattle.frac_core.specs.declared.frac128.Frac128.{Frac128}
use Rattle.loss_model.specs.declared.problem.Row.{Row}
use Rattle.loss_model.specs.declared.vertex.Side.{Side}
use Rattle.loss_model.specs.declared.vertex.Side.TheVariants.{Up, Down, Basic}
use Rattle.loss_model.specs.declared.process.Segment.{Segment}
use Rattle.loss_model.specs.declared.interval.Bound.{Bound}
use Rattle.loss_model.specs.declared.interval.Bound.TheVariants.{Finite, Infinite}
use Rattle.loss_model.specs.declared.interval.Beyond.{Beyond}
use Rattle.loss_model.specs.declared.interval.Beyond.TheVariants.{Outside, Ray}
use Rattle.loss_model.specs.declared.interval.End.{End}
use Rattle.loss_model.specs.declared.interval.IntervalProof.{IntervalProof}
use Rattle.ratio.specs.Text.{ratio_text}
use Rattle.serde_json.specs.Data.{Data, number, unsigned, string, array, object, Members, no_members, member}
use Rattle.serde_json.specs.View.{items_of}
use Rattle.serde_json.specs.Written.{compact_text}
use Rattle.cert_text.specs.Chains.{moves_between, is_chained}
use Rattle.cert_text.specs.Contents.{content}
use Rattle.cert_text.specs.Numbers.{cert_is_narrow}
use Rattle.cert_text.specs.declared.cert.Cert.{Cert}
use Rattle.cert_text.specs.declared.place.Place.{Place}
use Rattle.cert_text.specs.declared.place.Place.TheVariants.{Above, Below, On}
use Rattle.cert_text.specs.declared.moves.Move.{Move}
use Rattle.cert_text.specs.declared.layout.Layout.{Layout}
use Rattle.cert_text.specs.declared.layout.Layout.TheVariants.{Full, Chained, Wide}

-- a fraction is its canonical number text
abbrev pub fraction_tree : Frac128 → Data
fraction_tree x = string (number_text_of (record { num = x.num; den = x.den }))

abbrev pub list_tree : {A : Type 0} → (A → Data) → List A → Data
list_tree tree xs = array (items_of (map tree xs))

abbrev pub fractions_tree : List Frac128 → Data
fractions_tree = list_tree fraction_tree

-- a fraction of any size is its text, which is that number text where it has 127 bits
abbrev pub ratio_tree : Fraction → Data
ratio_tree x = string (ratio_text x)

abbrev pub ratios_tree : List Fraction → Data
ratios_tree = list_tree ratio_tree

-- a plus above the fit, a minus below it, and a star on it
abbrev pub sign_of : Side → ℕ
sign_of Up = 43
sign_of Down = 45
sign_of Basic = 42

abbrev pub sides_tree : List Side → Data
sides_tree signs = string (map sign_of signs)

unfoldable pub row_tree : Row Frac128 → Data
row_tree r = object
    (member (codes "down0") (fraction_tree r.down0)
    (member (codes "down1") (fraction_tree r.down1)
    (member (codes "up0") (fraction_tree r.up0)
    (member (codes "up1") (fraction_tree r.up1)
    (member (codes "x") (fractions_tree r.x)
    (member (codes "y") (fraction_tree r.y)
    no_members))))))

unfoldable pub segment_tree : Segment → Data
segment_tree s = object
    (member (codes "basic_hi") (ratios_tree s.basic_hi)
    (member (codes "basic_lo") (ratios_tree s.basic_lo)
    (member (codes "coef") (ratios_tree s.vertex.coef)
    (member (codes "hi") (ratio_tree s.hi)
    (member (codes "lo") (ratio_tree s.lo)
    (member (codes "loss_hi") (ratio_tree s.loss_hi)
    (member (codes "loss_lo") (ratio_tree s.loss_lo)
    (member (codes "sides") (sides_tree s.vertex.sides)
    no_members))))))))

-- the side of a place, and its value on the fit
abbrev pub place_members : Place Fraction → Members
place_members Above = member (codes "side") (string (codes "+")) no_members
place_members Below = member (codes "side") (string (codes "-")) no_members
place_members (On x) = member (codes "side") (string (codes "*")) (member (codes "value") (ratio_tree x) no_members)

unfoldable pub move_tree : Move Fraction → Data
move_tree m = object (member (codes "row") (number (unsigned m.row)) (place_members m.place))

-- a segment behind another one: its high end, its coefficients, and the rows that move
unfoldable pub later_tree : Segment → Segment → Data
later_tree before s = object
    (member (codes "basic_hi") (ratios_tree s.basic_hi)
    (member (codes "coef") (ratios_tree s.vertex.coef)
    (member (codes "hi") (ratio_tree s.hi)
    (member (codes "loss_hi") (ratio_tree s.loss_hi)
    (member (codes "moves") (list_tree move_tree (moves_between before s))
    no_members)))))

-- a segment of a chain: the first in full, and a later one by what changes
abbrev pub linked_tree : Option Segment → Segment → Data
linked_tree None s = segment_tree s
linked_tree (Some before) s = later_tree before s

abbrev pub linked_trees : Option Segment → List Segment → List Data
linked_trees before [] = []
linked_trees before (s ∷ ss) = linked_tree before s ∷ linked_trees (Some s) ss

-- the segments, chained or not
abbrev pub segments_tree : Bool → List Segment → Data
segments_tree false ss = list_tree segment_tree ss
segments_tree true ss = array (items_of (linked_trees None ss))

-- the value of a finite end
abbrev pub value_member : Bound Fraction → Members
value_member (Finite x) = member (codes "value") (ratio_tree x) no_members
value_member Infinite = no_members

-- the kind, and what lies beyond the end
abbrev pub beyond_members : Beyond → Members → Members
beyond_members (Outside xs) more = member (codes "kind") (string (codes "finite")) (member (codes "outside") (ratios_tree xs) more)
beyond_members (Ray xs) more = member (codes "kind") (string (codes "infinite")) (member (codes "ray") (ratios_tree xs) more)

unfoldable pub end_tree : End → Data
end_tree e = object
    (member (codes "coef") (ratios_tree e.vertex.coef)
    (member (codes "inside") (ratios_tree e.inside)
    (beyond_members e.beyond
    (member (codes "sides") (sides_tree e.vertex.sides)
    (value_member e.bound)))))

unfoldable pub interval_tree : IntervalProof → Data
interval_tree t = object
    (member (codes "column") (number (unsigned t.column))
    (member (codes "crit") (ratio_tree t.crit)
    (member (codes "high") (end_tree t.high)
    (member (codes "low") (end_tree t.low)
    (member (codes "projection") (ratios_tree t.projection)
    (member (codes "tau") (ratio_tree t.tau)
    no_members))))))

-- the layout of the text: of any size where a number is wider than 127 bits, else chained where the certificate is
abbrev pub layout_for : Bool → Bool → Layout
layout_for false chained = Wide
layout_for true true = Chained
layout_for true false = Full

abbrev pub layout : Cert → Layout
layout c = layout_for (cert_is_narrow c) (is_chained (content c))

abbrev pub version : Layout → ℕ
version Full = 1
version Chained = 2
version Wide = 3

unfoldable pub cert_tree : Cert → Data
cert_tree c = object
    (member (codes "columns") (number (unsigned c.problem.columns))
    (member (codes "hi") (fraction_tree c.hi)
    (member (codes "intervals") (list_tree interval_tree c.intervals)
    (member (codes "kind") (string (codes "quantreg-certificate"))
    (member (codes "lo") (fraction_tree c.lo)
    (member (codes "rows") (list_tree row_tree c.problem.rows)
    (member (codes "segments") (segments_tree (is_chained (content c)) c.segments)
    (member (codes "version") (number (unsigned (version (layout c))))
    no_members))))))))

-- the text
abbrev pub cert_text : Cert → List ℕ
cert_text c = compact_text (cert_tree c) ++ 10 ∷ []
