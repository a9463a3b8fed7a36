-- The trees of a chain are read as its segments.
use Rattle.std.proofs.Common.{◌≡◌, ℕ, suc, ◌+◌, ◌<◌, ◌≤◌, ◌^◌, ◌&&◌, not, All, Bool, true, false, List, [], ◌∷◌, ◌++◌, Option}
use Rattle.std.proofs.Common.{Some, None, Ok, codes, length, map, nat_le, slice_get, slice_set, if◌then◌else◌, refl, sym, ap, ap₂, ◌∙◌, append_assoc, arith}
use Rattle.std.specs.Ordering.{int_cmp, nat_cmp, match_ordering}
use Rattle.std.specs.declared.cmp.Ordering.{Ordering}
use Rattle.std.specs.declared.cmp.Ordering.TheVariants.{Less, Equal, Greater}
use Rattle.std.proofs.lemmas.Map.Lookups.{exact_signed, exact_unsigned}
use Rattle.std.proofs.Math.Seq.{set-append_seam}
use Rattle.std.proofs.lemmas.Bool.{and_parts, and_from, le-leb, eqb-true, eq-eqb}
use Rattle.std.proofs.lemmas.List.{length_push, map-id}
use Rattle.std.proofs.lemmas.List.Elements.{All-cons, All-nil}
use Rattle.rational_laws.specs.Fraction.{Fraction}
use Rattle.loss_model.specs.declared.vertex.Side.{Side}
use Rattle.loss_model.specs.declared.vertex.Side.TheVariants.{Up, Down, Basic}
use Rattle.loss_model.specs.declared.process.Segment.{Segment}
use Rattle.serde_json.specs.Data.{string}
use Rattle.serde_json.specs.View.{items_of}
use Rattle.cert_text.specs.Paths.{item_step}
use Rattle.cert_text.specs.Reading.{on_read, under, count, items_from, linked_list, list, fitting, no_more_keys}
use Rattle.cert_text.specs.Chains.{places, high_places, low_places, side_at, values_at, is_same_side, is_elsewhere, moves_from, moves_between, moved, is_equal, is_filled, keeps_value, keep_values, follows, follows_any, are_chained}
use Rattle.cert_text.specs.Kept.{basic_from, basic_rows, IsKeptSegment}
use Rattle.cert_text.specs.Certificates.{ratios, vertex_of, side, place_members, move_members, one_move, if_as_many, later_members, later_segment, linked_segment}
use Rattle.cert_text.specs.Trees.{list_tree, move_tree, later_tree, linked_tree, linked_trees, segments_tree}
use Rattle.cert_text.specs.declared.place.Place.{Place}
use Rattle.cert_text.specs.declared.place.Place.TheVariants.{Above, Below, On}
use Rattle.cert_text.specs.declared.moves.Move.{Move}
use Rattle.cert_text.specs.Numbers.{SegmentHas}
use Rattle.cert_text.specs.Ratios.{ratio}
use Rattle.cert_text.specs.declared.layout.Width.{Width}
use Rattle.cert_text.proofs.Lists.{first_holds, rest_hold}
use Rattle.cert_text.proofs.PartsBack.{IsGood, step, list_back, ratio_back, ratios_back, vertex_back, count_back, segment_back}

-- ---- what the tests tell

equal_tells : (x y : Fraction) → is_equal x y ≡ true → x ≡ y
equal_tells x y = by (int_cmp x.num y.num) (nat_cmp x.den y.den) refl refl
  where
    by : (o p : Ordering) → int_cmp x.num y.num ≡ o → nat_cmp x.den y.den ≡ p → match_ordering o false (match_ordering p false true false) false ≡ true → x ≡ y
    by Less p a b h = absurd (cc h)
    by Greater p a b h = absurd (cc h)
    by Equal Less a b h = absurd (cc h)
    by Equal Greater a b h = absurd (cc h)
    by Equal Equal a b h =
        let num = exact_signed x.num y.num a in
        let den = exact_unsigned x.den y.den b in
        λ i. record { num = num i; den = den i }

same_place : (p q : Place Fraction) → is_same_side p q ≡ true → keeps_value p q ≡ true → p ≡ q
same_place Above Above h k = refl
same_place Above Below h k = absurd (cc h)
same_place Above (On y) h k = absurd (cc h)
same_place Below Above h k = absurd (cc h)
same_place Below Below h k = refl
same_place Below (On y) h k = absurd (cc h)
same_place (On x) Above h k = absurd (cc h)
same_place (On x) Below h k = absurd (cc h)
same_place (On x) (On y) h k = ap On (equal_tells x y k)

-- ---- the places of a filled end

module _ {F : Type 0} where
  as_many_places : (i : ℕ) (ss : List Side) (xs : List F) → length (basic_from i ss) ≡ length xs → length (places ss xs) ≡ length ss
  as_many_places i [] xs h = refl
  as_many_places i (Up ∷ ss) xs h = ap suc (as_many_places (i + 1) ss xs h)
  as_many_places i (Down ∷ ss) xs h = ap suc (as_many_places (i + 1) ss xs h)
  as_many_places i (Basic ∷ ss) [] h = absurd (cc h)
  as_many_places i (Basic ∷ ss) (x ∷ xs) h = ap suc (as_many_places (i + 1) ss xs (omega (arith, h)))

  same_sides : (i : ℕ) (ss : List Side) (xs : List F) → length (basic_from i ss) ≡ length xs → map side_at (places ss xs) ≡ ss
  same_sides i [] xs h = refl
  same_sides i (Up ∷ ss) xs h = ap (λ l. Up ∷ l) (same_sides (i + 1) ss xs h)
  same_sides i (Down ∷ ss) xs h = ap (λ l. Down ∷ l) (same_sides (i + 1) ss xs h)
  same_sides i (Basic ∷ ss) [] h = absurd (cc h)
  same_sides i (Basic ∷ ss) (x ∷ xs) h = ap (λ l. Basic ∷ l) (same_sides (i + 1) ss xs (omega (arith, h)))

  same_values : (i : ℕ) (ss : List Side) (xs : List F) → length (basic_from i ss) ≡ length xs → values_at (places ss xs) ≡ xs
  same_values i [] [] h = refl
  same_values i [] (x ∷ xs) h = absurd (cc h)
  same_values i (Up ∷ ss) xs h = same_values (i + 1) ss xs h
  same_values i (Down ∷ ss) xs h = same_values (i + 1) ss xs h
  same_values i (Basic ∷ ss) [] h = absurd (cc h)
  same_values i (Basic ∷ ss) (x ∷ xs) h = ap (λ l. x ∷ l) (same_values (i + 1) ss xs (omega (arith, h)))

  pub few_places : (ss : List Side) (xs : List F) → length (places ss xs) ≤ length ss
  few_places [] xs = omega arith
  few_places (Up ∷ ss) xs = omega (arith, few_places ss xs)
  few_places (Down ∷ ss) xs = omega (arith, few_places ss xs)
  few_places (Basic ∷ ss) [] = omega arith
  few_places (Basic ∷ ss) (x ∷ xs) = omega (arith, few_places ss xs)

-- ---- moves that are made again

place_there : {F : Type 0} (pre : List (Place F)) (p : Place F) (ps : List (Place F)) → slice_get (pre ++ p ∷ ps) (length pre) ≡ Some p
place_there [] p ps = refl
place_there (q ∷ pre) p ps = place_there pre p ps

module _ (pre ps qs : List (Place Fraction)) (p q : Place Fraction) (least : ℕ)
    (again : (l : ℕ) → l ≤ length (pre ++ q ∷ []) → moved l ((pre ++ q ∷ []) ++ ps) (moves_from (length (pre ++ q ∷ [])) ps qs) ≡ Some ((pre ++ q ∷ []) ++ qs)) where
  further_on : (l : ℕ) → l ≤ length pre + 1 → moved l (pre ++ q ∷ ps) (moves_from (length pre + 1) ps qs) ≡ Some (pre ++ q ∷ qs)
  further_on l small =
      ap₂ (λ ls n. moved l ls (moves_from n ps qs)) (sym (append_assoc pre (q ∷ []) ps)) (sym (length_push pre q))
      ∙ again l (omega (arith, small, length_push pre q)) ∙ ap Some (append_assoc pre (q ∷ []) qs)

  one_move_again : (b : Bool) → is_same_side p q ≡ b → least ≤ length pre → keeps_value p q ≡ true
      → moved least (pre ++ p ∷ ps) (if b then moves_from (length pre + 1) ps qs else record { row = length pre; place = q } ∷ moves_from (length pre + 1) ps qs)
      ≡ Some (pre ++ q ∷ qs)
  one_move_again true e small kept =
      ap (λ r. moved least (pre ++ r ∷ ps) (moves_from (length pre + 1) ps qs)) (same_place p q e kept) ∙ further_on least (omega (arith, small))
  one_move_again false e small kept =
      let rest = moves_from (length pre + 1) ps qs in
      let may : (nat_le least (length pre) && is_elsewhere (slice_get (pre ++ p ∷ ps) (length pre)) q) ≡ true =
      and_from _ _ (le-leb least (length pre) small) (ap (λ o. is_elsewhere o q) (place_there pre p ps) ∙ ap not e) in
      ap (λ b. if b then moved (length pre + 1) (slice_set (pre ++ p ∷ ps) (length pre) q) rest else None) may
      ∙ ap (λ l. moved (length pre + 1) l rest) (set-append_seam pre p ps q)
      ∙ further_on (length pre + 1) (omega arith)

moves_again : (pre ps qs : List (Place Fraction)) (least : ℕ) → least ≤ length pre → length ps ≡ length qs → keep_values ps qs ≡ true
    → moved least (pre ++ ps) (moves_from (length pre) ps qs) ≡ Some (pre ++ qs)
moves_again pre [] [] least small as_many kept = refl
moves_again pre [] (q ∷ qs) least small as_many kept = absurd (cc as_many)
moves_again pre (p ∷ ps) [] least small as_many kept = absurd (cc as_many)
moves_again pre (p ∷ ps) (q ∷ qs) least small as_many kept =
    let both = and_parts (keeps_value p q) (keep_values ps qs) kept in
    one_move_again pre ps qs p q least (λ l sl. moves_again (pre ++ q ∷ []) ps qs l sl (omega (arith, as_many)) both.1) (is_same_side p q) refl small both.0

-- ---- moves as trees

up_back : side (string (codes "+")) ≡ Ok Up
unfolding side
up_back = refl

down_back : side (string (codes "-")) ≡ Ok Down
unfolding side
down_back = refl

basic_back : side (string (codes "*")) ≡ Ok Basic
unfolding side
basic_back = refl

-- what holds of the value of a row on the fit
abbrev PlaceHas : (Fraction → Type 0) → Place Fraction → Type 0
PlaceHas P Above = Unit {0}
PlaceHas P Below = Unit {0}
PlaceHas P (On x) = P x

-- a move that is read back
record IsGoodMove (width : Width) (m : Move Fraction) : Type 0 where
  row : m.row < 2 ^ 32
  place : PlaceHas (IsGood width) m.place

module _ (width : Width) where
  place_back : (row : ℕ) (p : Place Fraction) → row < 2 ^ 32 → PlaceHas (IsGood width) p → one_move width (move_tree (record { row = row; place = p })) ≡ Ok (record { row = row; place = p })
  unfolding one_move move_members place_members move_tree no_more_keys
  place_back row Above l good = step (codes "row") count _ _ row _ (count_back row l) ∙ step (codes "side") side _ _ Up _ up_back
  place_back row Below l good = step (codes "row") count _ _ row _ (count_back row l) ∙ step (codes "side") side _ _ Down _ down_back
  place_back row (On x) l good =
      step (codes "row") count _ _ row _ (count_back row l) ∙ step (codes "side") side _ _ Basic _ basic_back
      ∙ ap (λ r. on_read r (λ p. Ok (record { row = row; place = p }))) (step (codes "value") (ratio width) _ _ x _ (ratio_back width x good))

  moves_back : (ms : List (Move Fraction)) → All (IsGoodMove width) ms → list (one_move width) (list_tree move_tree ms) ≡ Ok ms
  moves_back ms all = list_back (IsGoodMove width) move_tree (λ m. m) (one_move width) (λ m good. place_back m.row m.place good.row good.place) ms all ∙ ap Ok (map-id ms)

places_hold : (P : Fraction → Type 0) (ss : List Side) (xs : List Fraction) → All P xs → All (PlaceHas P) (places ss xs)
places_hold P [] xs all = All-nil (PlaceHas P)
places_hold P (Up ∷ ss) xs all = All-cons (PlaceHas P) Above (places ss xs) tt (places_hold P ss xs all)
places_hold P (Down ∷ ss) xs all = All-cons (PlaceHas P) Below (places ss xs) tt (places_hold P ss xs all)
places_hold P (Basic ∷ ss) [] all = All-nil (PlaceHas P)
places_hold P (Basic ∷ ss) (x ∷ xs) all = All-cons (PlaceHas P) (On x) (places ss xs) (first_holds P x xs all) (places_hold P ss xs (rest_hold P x xs all))

moves_hold : (Q : Place Fraction → Type 0) (i : ℕ) (ps qs : List (Place Fraction)) → All Q qs → All (λ (m : Move Fraction). Q m.place) (moves_from i ps qs)
moves_hold Q i [] qs all = All-nil (λ m. Q m.place)
moves_hold Q i (p ∷ ps) [] all = All-nil (λ m. Q m.place)
moves_hold Q i (p ∷ ps) (q ∷ qs) all = kept_hold (is_same_side p q) (moves_hold Q (i + 1) ps qs (rest_hold Q q qs all))
  where
    kept_hold : (b : Bool) → All (λ (m : Move Fraction). Q m.place) (moves_from (i + 1) ps qs)
        → All (λ (m : Move Fraction). Q m.place) (if b then moves_from (i + 1) ps qs else record { row = i; place = q } ∷ moves_from (i + 1) ps qs)
    kept_hold true h = h
    kept_hold false h = All-cons (λ m. Q m.place) (record { row = i; place = q }) (moves_from (i + 1) ps qs) (first_holds Q q qs all) h

pub moves_below : (k i : ℕ) (ps qs : List (Place Fraction)) → i + length ps ≤ k → All (λ (m : Move Fraction). m.row < k) (moves_from i ps qs)
moves_below k i [] qs l = All-nil (λ m. m.row < k)
moves_below k i (p ∷ ps) [] l = All-nil (λ m. m.row < k)
moves_below k i (p ∷ ps) (q ∷ qs) l = kept_below (is_same_side p q) (moves_below k (i + 1) ps qs (omega (arith, l)))
  where
    kept_below : (b : Bool) → All (λ (m : Move Fraction). m.row < k) (moves_from (i + 1) ps qs)
        → All (λ (m : Move Fraction). m.row < k) (if b then moves_from (i + 1) ps qs else record { row = i; place = q } ∷ moves_from (i + 1) ps qs)
    kept_below true h = h
    kept_below false h = All-cons (λ m. m.row < k) (record { row = i; place = q }) (moves_from (i + 1) ps qs) (omega (arith, l)) h

-- ---- segments as trees

module _ (rows : ℕ) where
  -- what a filled segment has
  abbrev pub IsFilled : Segment → Type 0
  IsFilled s = is_filled rows s.vertex.sides s.basic_lo s.basic_hi ≡ true

  pub one_each : (s : Segment) → IsFilled s → length s.vertex.sides ≡ rows
  one_each s h = eqb-true _ _ (and_parts _ _ h).0

  low_many : (s : Segment) → IsFilled s → length (basic_rows s.vertex.sides) ≡ length s.basic_lo
  low_many s h = eqb-true _ _ (and_parts _ _ (and_parts _ _ h).1).0

  high_many : (s : Segment) → IsFilled s → length (basic_rows s.vertex.sides) ≡ length s.basic_hi
  high_many s h = eqb-true _ _ (and_parts _ _ (and_parts _ _ h).1).1

  module _ (width : Width) (a b : Segment) (few : rows ≤ 2 ^ 32) (fa : IsFilled a) (fb : IsFilled b) (after : follows a b ≡ true) where
    as_many_here : length (places a.vertex.sides a.basic_hi) ≡ length (places b.vertex.sides b.basic_lo)
    as_many_here =
        as_many_places 0 a.vertex.sides a.basic_hi (high_many a fa) ∙ one_each a fa ∙ sym (one_each b fb)
        ∙ sym (as_many_places 0 b.vertex.sides b.basic_lo (low_many b fb))

    same_lo : a.hi ≡ b.lo
    same_lo = equal_tells _ _ (and_parts _ _ after).0

    same_loss : a.loss_hi ≡ b.loss_lo
    same_loss = equal_tells _ _ (and_parts _ _ (and_parts _ _ after).1).0

    values_kept : keep_values (places a.vertex.sides a.basic_hi) (places b.vertex.sides b.basic_lo) ≡ true
    values_kept = (and_parts _ _ (and_parts _ _ after).1).1

    made_again : moved 0 (high_places a) (moves_between a b) ≡ Some (low_places b)
    made_again =
        moves_again [] (high_places a) (low_places b) 0 (omega arith) as_many_here values_kept

    good_moves : SegmentHas (IsGood width) b → All (IsGoodMove width) (moves_between a b)
    good_moves has = λ k d l. record {
      row = moves_below (2 ^ 32) 0 (high_places a) (low_places b) (omega (arith, few_places a.vertex.sides a.basic_hi, one_each a fa, few)) k d l;
      place = moves_hold (PlaceHas (IsGood width)) 0 (high_places a) (low_places b) (places_hold (IsGood width) b.vertex.sides b.basic_lo has.basic_lo) k d l;
    }

    -- the segment with these sides and low values
    with_low : List Side → List Fraction → Segment
    with_low signs lo = record {
      lo = a.hi;
      hi = b.hi;
      vertex = vertex_of signs b.vertex.coef;
      basic_lo = lo;
      basic_hi = b.basic_hi;
      loss_lo = a.loss_hi;
      loss_hi = b.loss_hi;
    }

    later_back : IsKeptSegment b → SegmentHas (IsGood width) b → later_segment width a (later_tree a b) ≡ Ok b
    unfolding later_segment later_members later_tree no_more_keys with_low
    later_back kept has =
        step (codes "basic_hi") (ratios width) _ _ b.basic_hi _ (ratios_back width b.basic_hi has.basic_hi)
        ∙ step (codes "coef") (ratios width) _ _ b.vertex.coef _ (ratios_back width b.vertex.coef has.coef)
        ∙ step (codes "hi") (ratio width) _ _ b.hi _ (ratio_back width b.hi has.hi)
        ∙ step (codes "loss_hi") (ratio width) _ _ b.loss_hi _ (ratio_back width b.loss_hi has.loss_hi)
        ∙ step (codes "moves") (list (one_move width)) _ _ (moves_between a b) _ (moves_back width (moves_between a b) (good_moves has))
        ∙ ap (λ o. on_read (fitting (codes "moves") o) (λ low. on_read (fitting (codes "moves") (if_as_many (basic_rows (map side_at low)) b.basic_hi))
        (λ _. Ok (with_low (map side_at low) (values_at low))))) made_again
        ∙ ap₂ (λ signs lo. on_read (fitting (codes "moves") (if_as_many (basic_rows signs) b.basic_hi)) (λ _. Ok (with_low signs lo)))
        (same_sides 0 b.vertex.sides b.basic_lo (low_many b fb)) (same_values 0 b.vertex.sides b.basic_lo (low_many b fb))
        ∙ ap (λ t. on_read (fitting (codes "moves") (if t then Some tt else None)) (λ _. Ok (with_low b.vertex.sides b.basic_lo))) (eq-eqb _ _ (high_many b fb))
        ∙ ap Ok (λ i. record {
          lo = same_lo i;
          hi = b.hi;
          vertex = vertex_back b.vertex kept i;
          basic_lo = b.basic_lo;
          basic_hi = b.basic_hi;
          loss_lo = same_loss i;
          loss_hi = b.loss_hi;
        })

  -- the segment before is filled, if there is one
  abbrev pub IsReady : Option Segment → Type 0
  IsReady None = Unit {0}
  IsReady (Some a) = IsFilled a

  link_back : (width : Width) (before : Option Segment) (s : Segment) → rows ≤ 2 ^ 32 → IsReady before → IsFilled s
      → follows_any before s ≡ true → IsKeptSegment s → SegmentHas (IsGood width) s
      → linked_segment width rows before (linked_tree before s) ≡ Ok s
  link_back width None s few ready filled after kept has = segment_back width (Some rows) s kept has (ap (λ t. if t then Some tt else None) filled)
  link_back width (Some a) s few ready filled after kept has = later_back width a s few ready filled after kept has

  links_back : (width : Width) (before : Option Segment) (i : ℕ) (ss : List Segment) → rows ≤ 2 ^ 32 → IsReady before → All IsKeptSegment ss → All (SegmentHas (IsGood width)) ss
      → are_chained rows before ss ≡ true
      → items_from (linked_segment width rows) before i (items_of (linked_trees before ss)) ≡ Ok ss
  unfolding items_from
  links_back width before i [] few ready all good chained = refl
  links_back width before i (s ∷ ss) few ready all good chained =
      let first = and_parts _ _ chained in
      let more = and_parts _ _ first.1 in
      ap (λ z. on_read (under (item_step i) z) (λ a. on_read (items_from (linked_segment width rows) (Some a) (i + 1) (items_of (linked_trees (Some s) ss))) (λ more. Ok (a ∷ more))))
      (link_back width before s few ready first.0 more.0 (first_holds IsKeptSegment s ss all) (first_holds (SegmentHas (IsGood width)) s ss good))
      ∙ ap (λ z. on_read z (λ more. Ok (s ∷ more))) (links_back width (Some s) (i + 1) ss few first.0 (rest_hold IsKeptSegment s ss all) (rest_hold (SegmentHas (IsGood width)) s ss good) more.1)

  pub chain_back : (width : Width) (ss : List Segment) → rows ≤ 2 ^ 32 → All IsKeptSegment ss → All (SegmentHas (IsGood width)) ss → are_chained rows None ss ≡ true
      → linked_list (linked_segment width rows) (segments_tree true ss) ≡ Ok ss
  unfolding linked_list
  chain_back width ss few all good chained = links_back width None 0 ss few tt all good chained
