-- The tree of a certificate has numbers that are read back, and nests little.
use Rattle.std.proofs.Common.{◌≡◌, ℕ, ◌<◌, ◌≤◌, ◌^◌, All, Bool, true, false, List, [], ◌∷◌, Option, Some, None, codes, length, map, refl, arith}
use Rattle.std.proofs.lemmas.Bool.{and_parts}
use Rattle.std.proofs.lemmas.List.{length-map}
use Rattle.rational_laws.specs.Fraction.{Fraction}
use Rattle.frac_core.specs.declared.frac128.Frac128.{Frac128}
use Rattle.json.specs.Tree.{HasNumbers, ItemsHaveNumbers, MembersHaveNumbers}
use Rattle.json.proofs.Printed.Decimals.{IsNumber-decimal}
use Rattle.loss_model.specs.declared.problem.Row.{Row}
use Rattle.loss_model.specs.declared.process.Segment.{Segment}
use Rattle.loss_model.specs.declared.interval.Bound.{Bound}
use Rattle.loss_model.specs.declared.interval.Bound.TheVariants.{Finite, Infinite}
use Rattle.loss_model.specs.declared.interval.Beyond.{Beyond}
use Rattle.loss_model.specs.declared.interval.Beyond.TheVariants.{Outside, Ray}
use Rattle.loss_model.specs.declared.interval.End.{End}
use Rattle.loss_model.specs.declared.interval.IntervalProof.{IntervalProof}
use Rattle.serde_json.specs.Data.{Data, number, unsigned, Members, member, depth, items_depth, members_depth}
use Rattle.serde_json.specs.View.{items_of}
use Rattle.serde_json.specs.Written.{outline, items_outline, members_outline}
use Rattle.loss_model.specs.Values.{exact_row}
use Rattle.cert_text.specs.Trees.{fraction_tree, fractions_tree, ratio_tree, ratios_tree, sides_tree, row_tree, segment_tree, move_tree, later_tree, linked_tree, linked_trees}
use Rattle.cert_text.specs.Trees.{segments_tree, layout, version, value_member, beyond_members, end_tree, interval_tree, cert_tree}
use Rattle.cert_text.specs.declared.cert.Cert.{Cert}
use Rattle.cert_text.specs.Chains.{high_places, low_places, moves_between, are_chained, is_chained}
use Rattle.cert_text.specs.declared.place.Place.{Place}
use Rattle.cert_text.specs.declared.place.Place.TheVariants.{Above, Below, On}
use Rattle.cert_text.specs.declared.layout.Layout.{Layout}
use Rattle.cert_text.specs.declared.layout.Layout.TheVariants.{Full, Chained, Wide}
use Rattle.cert_text.specs.Contents.{content}
use Rattle.cert_text.specs.Limits.{IsWithinLimits}
use Rattle.cert_text.proofs.ChainBack.{few_places, moves_below, IsReady, one_each}
use Rattle.cert_text.proofs.Lists.{first_holds, rest_hold}

-- ---- numbers

items_numbers : {A : Type 0} (P : A → Type 0) (tree : A → Data) → ((a : A) → P a → HasNumbers (outline (tree a))) → (xs : List A) → All P xs → ItemsHaveNumbers (items_outline (items_of (map tree xs)))
items_numbers P tree h [] all = tt
items_numbers P tree h (x ∷ xs) all = (h x (first_holds P x xs all), items_numbers P tree h xs (rest_hold P x xs all))

all_have : {A : Type 0} (tree : A → Data) → ((a : A) → HasNumbers (outline (tree a))) → (xs : List A) → ItemsHaveNumbers (items_outline (items_of (map tree xs)))
all_have tree h [] = tt
all_have tree h (x ∷ xs) = (h x, all_have tree h xs)

fractions_numbers : (xs : List Frac128) → HasNumbers (outline (fractions_tree xs))
fractions_numbers = all_have fraction_tree (λ x. tt)

ratios_numbers : (xs : List Fraction) → HasNumbers (outline (ratios_tree xs))
ratios_numbers = all_have ratio_tree (λ x. tt)

row_numbers : (r : Row Frac128) → HasNumbers (outline (row_tree r))
unfolding row_tree
row_numbers r = (tt, (tt, (tt, (tt, (fractions_numbers r.x, (tt, tt))))))

segment_numbers : (s : Segment) → HasNumbers (outline (segment_tree s))
unfolding segment_tree
segment_numbers s = (ratios_numbers s.basic_hi, (ratios_numbers s.basic_lo, (ratios_numbers s.vertex.coef, (tt, (tt, (tt, (tt, (tt, tt))))))))

place_numbers : (row : ℕ) (p : Place Fraction) → row < 2 ^ 32 → HasNumbers (outline (move_tree (record { row = row; place = p })))
unfolding move_tree
place_numbers row Above l = (IsNumber-decimal row (omega (arith, l)), (tt, tt))
place_numbers row Below l = (IsNumber-decimal row (omega (arith, l)), (tt, tt))
place_numbers row (On x) l = (IsNumber-decimal row (omega (arith, l)), (tt, (tt, tt)))

later_numbers : (a b : Segment) → length a.vertex.sides ≤ 2 ^ 32 → HasNumbers (outline (later_tree a b))
unfolding later_tree
later_numbers a b few = (
  ratios_numbers b.basic_hi,
  (
    ratios_numbers b.vertex.coef,
    (
      tt,
      (
        tt,
        (
          items_numbers (λ m. m.row < 2 ^ 32) move_tree (λ m l. place_numbers m.row m.place l) (moves_between a b)
              (moves_below (2 ^ 32) 0 (high_places a) (low_places b) (omega (arith, few, few_places a.vertex.sides a.basic_hi))),
          tt,
        ),
      ),
    ),
  ),
)

module _ (rows : ℕ) (few : rows ≤ 2 ^ 32) where
  linked_numbers : (before : Option Segment) (s : Segment) → IsReady rows before → HasNumbers (outline (linked_tree before s))
  linked_numbers None s ready = segment_numbers s
  linked_numbers (Some a) s ready = later_numbers a s (omega (arith, few, one_each rows a ready))

  links_numbers : (before : Option Segment) (ss : List Segment) → IsReady rows before
      → are_chained rows before ss ≡ true → ItemsHaveNumbers (items_outline (items_of (linked_trees before ss)))
  links_numbers before [] ready chained = tt
  links_numbers before (s ∷ ss) ready chained =
      let first = and_parts _ _ chained in
      (linked_numbers before s ready, links_numbers (Some s) ss first.0 (and_parts _ _ first.1).1)

-- the segments, as the certificate is chained or not
chosen_numbers : (c : Cert) → IsWithinLimits c → (b : Bool) → is_chained (content c) ≡ b → HasNumbers (outline (segments_tree b c.segments))
chosen_numbers c within true chained =
    links_numbers (length (map exact_row c.problem.rows)) (omega (arith, within.rows, length-map c.problem.rows exact_row)) None c.segments tt chained
chosen_numbers c within false chained = all_have segment_tree segment_numbers c.segments

version_numbers : (l : Layout) → HasNumbers (outline (number (unsigned (version l))))
version_numbers Full = IsNumber-decimal 1 (omega arith)
version_numbers Chained = IsNumber-decimal 2 (omega arith)
version_numbers Wide = IsNumber-decimal 3 (omega arith)

value_numbers : (b : Bound Fraction) → MembersHaveNumbers (members_outline (value_member b))
value_numbers (Finite x) = (tt, tt)
value_numbers Infinite = tt

beyond_numbers : (b : Beyond) (ms : Members) → MembersHaveNumbers (members_outline ms) → MembersHaveNumbers (members_outline (beyond_members b ms))
beyond_numbers (Outside xs) ms h = (tt, (ratios_numbers xs, h))
beyond_numbers (Ray xs) ms h = (tt, (ratios_numbers xs, h))

end_numbers : (e : End) → HasNumbers (outline (end_tree e))
unfolding end_tree
end_numbers e = (ratios_numbers e.vertex.coef, (ratios_numbers e.inside, beyond_numbers e.beyond _ (tt, value_numbers e.bound)))

interval_numbers : (t : IntervalProof) → t.column < 2 ^ 32 → HasNumbers (outline (interval_tree t))
unfolding interval_tree
interval_numbers t l = (IsNumber-decimal t.column (omega (arith, l)), (tt, (end_numbers t.high, (end_numbers t.low, (ratios_numbers t.projection, (tt, tt))))))

pub cert_numbers : (c : Cert) → IsWithinLimits c → HasNumbers (outline (cert_tree c))
unfolding cert_tree
cert_numbers c within = (
  IsNumber-decimal c.problem.columns (omega (arith, within.columns)),
  (
    tt,
    (
      items_numbers (λ t. t.column < 2 ^ 32) interval_tree interval_numbers c.intervals (λ k d lt. (c.ended k d lt).0),
      (
        tt,
        (
          tt,
          (
            all_have row_tree row_numbers c.problem.rows,
            (
              chosen_numbers c within (is_chained (content c)) refl,
              (version_numbers (layout c), tt),
            ),
          ),
        ),
      ),
    ),
  ),
)

-- ---- depth

items_shallow : {A : Type 0} (tree : A → Data) (k : ℕ) → ((a : A) → depth (tree a) ≤ k) → (xs : List A) → items_depth (items_of (map tree xs)) ≤ k
items_shallow tree k h [] = omega arith
items_shallow tree k h (x ∷ xs) = omega (arith, h x, items_shallow tree k h xs)

fractions_shallow : (xs : List Frac128) → depth (fractions_tree xs) ≤ 1
fractions_shallow xs = omega (arith, items_shallow fraction_tree 0 (λ x. omega arith) xs)

ratios_shallow : (xs : List Fraction) → depth (ratios_tree xs) ≤ 1
ratios_shallow xs = omega (arith, items_shallow ratio_tree 0 (λ x. omega arith) xs)

row_shallow : (r : Row Frac128) → depth (row_tree r) ≤ 2
unfolding row_tree
row_shallow r = omega (arith, fractions_shallow r.x)

segment_shallow : (s : Segment) → depth (segment_tree s) ≤ 2
unfolding segment_tree
segment_shallow s = omega (arith, ratios_shallow s.basic_hi, ratios_shallow s.basic_lo, ratios_shallow s.vertex.coef)

place_shallow : (row : ℕ) (p : Place Fraction) → depth (move_tree (record { row = row; place = p })) ≤ 1
unfolding move_tree
place_shallow row Above = omega arith
place_shallow row Below = omega arith
place_shallow row (On x) = omega arith

later_shallow : (a b : Segment) → depth (later_tree a b) ≤ 3
unfolding later_tree
later_shallow a b =
    omega (arith, ratios_shallow b.basic_hi, ratios_shallow b.vertex.coef, items_shallow move_tree 1 (λ m. place_shallow m.row m.place) (moves_between a b))

linked_shallow : (before : Option Segment) (s : Segment) → depth (linked_tree before s) ≤ 3
linked_shallow None s = omega (arith, segment_shallow s)
linked_shallow (Some a) s = later_shallow a s

links_shallow : (before : Option Segment) (ss : List Segment) → items_depth (items_of (linked_trees before ss)) ≤ 3
links_shallow before [] = omega arith
links_shallow before (s ∷ ss) = omega (arith, linked_shallow before s, links_shallow (Some s) ss)

segments_shallow : (chained : Bool) (ss : List Segment) → depth (segments_tree chained ss) ≤ 4
segments_shallow false ss = omega (arith, items_shallow segment_tree 2 segment_shallow ss)
segments_shallow true ss = omega (arith, links_shallow None ss)

value_shallow : (b : Bound Fraction) → members_depth (value_member b) ≤ 1
value_shallow (Finite x) = omega arith
value_shallow Infinite = omega arith

beyond_shallow : (b : Beyond) (ms : Members) → members_depth ms ≤ 1 → members_depth (beyond_members b ms) ≤ 1
beyond_shallow (Outside xs) ms h = omega (arith, ratios_shallow xs, h)
beyond_shallow (Ray xs) ms h = omega (arith, ratios_shallow xs, h)

end_shallow : (e : End) → depth (end_tree e) ≤ 2
unfolding end_tree
end_shallow e =
    let last = member (codes "sides") (sides_tree e.vertex.sides) (value_member e.bound) in
    let small : members_depth last ≤ 1 = omega (arith, value_shallow e.bound) in
    omega (arith, ratios_shallow e.vertex.coef, ratios_shallow e.inside, beyond_shallow e.beyond last small)

interval_shallow : (t : IntervalProof) → depth (interval_tree t) ≤ 3
unfolding interval_tree
interval_shallow t = omega (arith, end_shallow t.high, end_shallow t.low, ratios_shallow t.projection)

pub cert_shallow : (c : Cert) → depth (cert_tree c) ≤ 127
unfolding cert_tree
cert_shallow c =
    omega (arith, items_shallow interval_tree 3 interval_shallow c.intervals, items_shallow row_tree 2 row_shallow c.problem.rows, segments_shallow (is_chained (content c)) c.segments)
