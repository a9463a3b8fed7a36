-- The numbers of a certificate that was read have no more digits than are read.
use Rattle.std.proofs.Common.{◌≡◌, ◌<◌, ◌≤◌, ◌/◌, ◌^◌, ◌*◌, ◌-◌, ◌+◌, ℕ, zero, suc, Bool, true, false, pos, neg_ℤ, unsigned_abs, nat_lt, nat_le, IfSome, List, [], ◌∷◌, All, Option, Some, None, Ok, Err, codes, length, map, option_map, slice_set, ◌%◌, ◌&&◌, if◌then◌else◌}
use Rattle.std.proofs.Common.{arith, refl, ap, subst}
use Rattle.std.specs.Prelude.{⊤}
use Rattle.std.specs.List.{list_any, before_first, after_first}
use Rattle.std.specs.Str.{all_ascii_digits}
use Rattle.std.specs.Char.{is_ascii_digit}
use Rattle.std.specs.Str.Parse.{AllDigits, digits_value, starts_with_minus, without_leading_sign}
use Rattle.std.proofs.Math.Nat.{div-le_self, pow-suc}
use Rattle.std.proofs.lemmas.Bool.{and_parts, leb-true, ltb-false, ltb-true}
use Rattle.std.proofs.lemmas.Bool.Decides.{nat_tests}
use Rattle.std.proofs.lemmas.Int.{ints}
use Rattle.std.proofs.lemmas.Int.Digits.{digits_value-lt}
use Rattle.std.proofs.lemmas.List.{length-append}
use Rattle.std.proofs.lemmas.List.Elements.{All-cons, All-head, All-nil, All-set, All-tail}
use Rattle.rational_laws.specs.Fraction.{Fraction}
use Rattle.rational_laws.specs.Rational.{ℚ}
use Rattle.frac_core.specs.Gcd.{gcd}
use Rattle.frac_core.specs.NumberText.{is_slash, with_sign, written}
use Rattle.natural.specs.Decimal.{decimal_text, glyphs}
use Rattle.natural.proofs.Digits.{glyphs-zero, glyphs_step, text-glyphs, text-zero}
use Rattle.ratio.specs.Signed.{signed}
use Rattle.serde_json.specs.Data.{Data, Items, no_items, item, Members}
use Rattle.serde_json.specs.Find.{as_array, as_object, as_str}
use Rattle.loss_model.specs.declared.vertex.Side.{Side}
use Rattle.loss_model.specs.declared.vertex.Side.TheVariants.{Up, Down, Basic}
use Rattle.loss_model.specs.declared.problem.Problem.{Problem}
use Rattle.loss_model.specs.declared.process.Segment.{Segment}
use Rattle.loss_model.specs.declared.vertex.Vertex.{Vertex}
use Rattle.loss_model.specs.declared.interval.Bound.{Bound}
use Rattle.loss_model.specs.declared.interval.Bound.TheVariants.{Finite, Infinite}
use Rattle.loss_model.specs.declared.interval.Beyond.{Beyond}
use Rattle.loss_model.specs.declared.interval.Beyond.TheVariants.{Outside, Ray}
use Rattle.loss_model.specs.declared.interval.End.{End}
use Rattle.loss_model.specs.declared.interval.IntervalProof.{IntervalProof}
use Rattle.cert_text.specs.Certificates.{end_kind, end_members, end_of, finite_members, if_as_many, if_filled, infinite_members, interval, interval_members, is_linked, later_members, later_segment, linked_segment, move_members, one_move, place_members, projected_members, ratios, segment, segment_members, segments, side, sides, top_members, vertex_of, width_of}
use Rattle.cert_text.specs.Chains.{high_places, may_move, moved, places, side_at, values_at}
use Rattle.cert_text.specs.Contents.{Content}
use Rattle.cert_text.specs.Kept.{basic_rows}
use Rattle.cert_text.specs.Numbers.{EndHas, IntervalHas, IsReadable, SegmentHas}
use Rattle.cert_text.specs.Paths.{item_step, key_step}
use Rattle.cert_text.specs.Ratios.{digits_number, if_narrow, is_narrow, lowest, most_digits, or_number, plain, plain_body, plain_fraction, plain_whole, ratio, written_in}
use Rattle.cert_text.specs.Reading.{Reader, Reading, count, field, fitting, items_from, linked_list, list, next, no_more_keys, on_read, or_shape, under}
use Rattle.cert_text.specs.declared.layout.Layout.{Layout}
use Rattle.cert_text.specs.declared.layout.Layout.TheVariants.{Full, Chained, Wide}
use Rattle.cert_text.specs.declared.layout.Width.{Width}
use Rattle.cert_text.specs.declared.layout.Width.TheVariants.{Narrow, Long}
use Rattle.cert_text.specs.declared.moves.Move.{Move}
use Rattle.cert_text.specs.declared.place.Place.{Place}
use Rattle.cert_text.specs.declared.place.Place.TheVariants.{Above, Below, On}

-- ---- how many digits a number has

tenth : (p n : ℕ) → n < p * 10 → n / 10 < p
tenth p n h = omega arith

next_power : (k : ℕ) → 10 ^ suc k ≡ 10 ^ k * 10
next_power k = pow-suc 10 k

few_glyphs : (k n : ℕ) → n < 10 ^ k → length (glyphs n) ≤ k
few_glyphs zero n h = let none : n ≡ 0 = omega (arith, h) in omega (arith, ap (λ m. length (glyphs m)) none, ap length glyphs-zero)
few_glyphs (suc k) n h = by (nat_lt 0 n) refl (few_glyphs k (n / 10) (tenth (10 ^ k) n (omega (arith, h, next_power k))))
  where
    by : (b : Bool) → nat_lt 0 n ≡ b → length (glyphs (n / 10)) ≤ k → length (glyphs n) ≤ suc k
    by true e before = omega (arith, before, ap length (glyphs_step n (ltb-true 0 n e)), length-append (glyphs (n / 10)) ((48 + n % 10) ∷ []))
    by false e before =
        let none : n ≡ 0 = omega (arith, ltb-false 0 n e) in omega (arith, ap (λ m. length (glyphs m)) none, ap length glyphs-zero)

few_digits : (k n : ℕ) → 0 < k → n < 10 ^ k → length (decimal_text n) ≤ k
few_digits k n some h = by (nat_lt 0 n) refl
  where
    by : (b : Bool) → nat_lt 0 n ≡ b → length (decimal_text n) ≤ k
    by true e = omega (arith, ap length (text-glyphs n (ltb-true 0 n e)), few_glyphs k n h)
    by false e = omega (arith, ap length (text-zero n (omega (arith, ltb-false 0 n e))), some)

-- this number and every lesser one has few digits
abbrev IsFine : ℕ → Type 0
IsFine n = (m : ℕ) → m ≤ n → length (decimal_text m) ≤ most_digits

abbrev AreFine : Fraction → Type 0
AreFine x = IsFine (unsigned_abs x.num) × IsFine x.den

fine_below : (k n : ℕ) → 0 < k → k ≤ most_digits → n < 10 ^ k → IsFine n
fine_below k n some few h m le = omega (arith, few_digits k m some (omega (arith, h, le)), few)

-- ---- numbers

all_digits : (t : List ℕ) → all_ascii_digits t ≡ true → AllDigits 10 t
all_digits [] h = tt
all_digits (c ∷ t) h = let parts = and_parts (is_ascii_digit c) (all_ascii_digits t) h in (grind (arith, nat_tests, parts.0), all_digits t parts.1)

digits_fine : (t : List ℕ) (n : ℕ) → digits_number t ≡ Some n → IsFine n
digits_fine t n = by (nat_lt 0 (length t)) (all_ascii_digits t) (nat_le (length t) most_digits) refl refl refl
  where
    by : (a b c : Bool) → nat_lt 0 (length t) ≡ a → all_ascii_digits t ≡ b → nat_le (length t) most_digits ≡ c → (if (a && b) && c then Some (digits_value 10 t) else None) ≡ Some n → IsFine n
    by true true true some all few h =
        subst IsFine (cc h) (fine_below (length t) (digits_value 10 t) (ltb-true 0 (length t) some) (leb-true (length t) most_digits few) (digits_value-lt 10 t (all_digits t all)))
    by true true false some all few h = absurd (cc h)
    by true false c some all few h = absurd (cc h)
    by false b c some all few h = absurd (cc h)

abbrev over : ℕ → ℕ → Fraction
over n d = record { num = pos n; den = d }

fraction_fine : (a b : Option ℕ) (x : Fraction) → ((n : ℕ) → a ≡ Some n → IsFine n) → ((n : ℕ) → b ≡ Some n → IsFine n) → plain_fraction a b ≡ Some x → AreFine x
fraction_fine None b x f g h = absurd (cc h)
fraction_fine (Some n) None x f g h = absurd (cc h)
fraction_fine (Some n) (Some d) x f g h = by (nat_lt 0 d) h
  where
    by : (b : Bool) → (if b then Some (record { num = pos n; den = d }) else None) ≡ Some x → AreFine x
    by true h = let same : over n d ≡ x = cc h in subst AreFine same (f n refl, g d refl)
    by false h = absurd (cc h)

whole_fine : (a : Option ℕ) (x : Fraction) → ((n : ℕ) → a ≡ Some n → IsFine n) → plain_whole a ≡ Some x → AreFine x
whole_fine None x f h = absurd (cc h)
whole_fine (Some n) x f h = let same : over n 1 ≡ x = cc h in subst AreFine same (f n refl, fine_below 1 1 (omega arith) (omega arith) (omega arith))

body_fine : (t : List ℕ) (x : Fraction) → plain_body t ≡ Some x → AreFine x
unfolding plain_body
body_fine t x = by (list_any is_slash t)
  where
    by : (b : Bool) → (if b then plain_fraction (digits_number (before_first is_slash t)) (digits_number (after_first is_slash t)) else plain_whole (digits_number t)) ≡ Some x → AreFine x
    by true h = fraction_fine (digits_number (before_first is_slash t)) (digits_number (after_first is_slash t)) x (digits_fine (before_first is_slash t)) (digits_fine (after_first is_slash t)) h
    by false h = whole_fine (digits_number t) x (digits_fine t) h

signed_fine : (negative : Bool) (o : Option Fraction) (x : Fraction) → ((y : Fraction) → o ≡ Some y → AreFine y) → option_map (with_sign negative) o ≡ Some x → AreFine x
signed_fine negative None x f h = absurd (cc h)
signed_fine true (Some y) x f h =
    let same : with_sign true y ≡ x = cc h in
    let size : unsigned_abs y.num ≡ unsigned_abs (neg_ℤ y.num) = omega (arith, ints) in
    subst AreFine same (subst IsFine size (f y refl).0, (f y refl).1)
signed_fine false (Some y) x f h = let same : with_sign false y ≡ x = cc h in subst AreFine same (f y refl)

narrow_fine : (n : ℕ) → nat_le n (2 ^ 127 - 1) ≡ true → IsFine n
narrow_fine n h = fine_below 39 n (omega arith) (omega arith) (omega (arith, leb-true n (2 ^ 127 - 1) h))

if_narrow_fine : (o : Option Fraction) (x : Fraction) → if_narrow o ≡ Some x → AreFine x
if_narrow_fine None x h = absurd (cc h)
if_narrow_fine (Some y) x h = by (is_narrow y) refl h
  where
    by : (b : Bool) → is_narrow y ≡ b → (if b then Some y else None) ≡ Some x → AreFine x
    by true e h =
        let parts = and_parts (nat_le (unsigned_abs y.num) (2 ^ 127 - 1)) (nat_le y.den (2 ^ 127 - 1)) e in
        let same : y ≡ x = cc h in subst AreFine same (narrow_fine (unsigned_abs y.num) parts.0, narrow_fine y.den parts.1)
    by false e h = absurd (cc h)

written_fine : (width : Width) (t : List ℕ) (x : Fraction) → written_in width t ≡ Some x → AreFine x
unfolding plain
written_fine Narrow t x h = if_narrow_fine (written t) x h
written_fine Long t x h = signed_fine (starts_with_minus t) (plain_body (without_leading_sign t)) x (body_fine (without_leading_sign t)) h

signed_short : (b : Bool) (m : ℕ) → length (decimal_text m) ≤ most_digits → length (decimal_text (unsigned_abs (signed b m))) ≤ most_digits
signed_short true zero h = h
signed_short true (suc m) h = h
signed_short false m h = h

lowest_readable : (x : Fraction) → AreFine x → IsReadable (lowest x)
unfolding lowest
lowest_readable x fine =
    let divisor = gcd (unsigned_abs x.num) x.den in
    record {
      num = signed_short _ (unsigned_abs x.num / divisor) (fine.0 (unsigned_abs x.num / divisor) (div-le_self (unsigned_abs x.num) divisor));
      den = fine.1 (x.den / divisor) (div-le_self x.den divisor);
    }

-- ---- readings

abbrev ok : {A : Type 0} → A → Reading A
ok a = Ok a

-- what was read was read step by step
pub read_both : {A B : Type 0} (r : Reading A) (f : A → Reading B) (x : B) → on_read r f ≡ Ok x → (a : A) × (r ≡ Ok a) × (f a ≡ Ok x)
read_both (Ok a) f x h = (a, refl, h)
read_both (Err e) f x h = absurd (cc h)

ok_same : {A : Type 0} (a b : A) → ok a ≡ ok b → a ≡ b
ok_same a b h = cc h

under_ok : {A : Type 0} (step : List ℕ) (r : Reading A) (a : A) → under step r ≡ Ok a → r ≡ Ok a
under_ok step (Ok b) a h = h
under_ok step (Err e) a h = absurd (cc h)

shape_ok : {A : Type 0} (o : Option A) (a : A) → or_shape o ≡ Ok a → o ≡ Some a
shape_ok None a h = absurd (cc h)
shape_ok (Some b) a h = ap Some (cc h)

ratio_readable : (width : Width) (d : Data) (x : Fraction) → ratio width d ≡ Ok x → IsReadable x
unfolding ratio
ratio_readable width d x h =
    let text = read_both (or_shape (as_str d)) _ x h in by (written_in width text.0) (written_fine width text.0) text.2
  where
    by : (o : Option Fraction) → ((y : Fraction) → o ≡ Some y → AreFine y) → or_number (option_map lowest o) ≡ Ok x → IsReadable x
    by None f h = absurd (cc h)
    by (Some y) f h = let same : lowest y ≡ x = cc h in subst IsReadable same (lowest_readable y (f y refl))

module _ {A : Type 0} (read : Option A → Reader A) (Q : A → Type 0) (good : (before : Option A) → IfSome before Q → (d : Data) (a : A) → read before d ≡ Ok a → Q a) where
  items_good : (before : Option A) → IfSome before Q → (i : ℕ) (ds : Items) (xs : List A) → items_from read before i ds ≡ Ok xs → All Q xs
  unfolding items_from
  items_good before h i no_items xs e = let none : [] ≡ xs = cc e in subst (All Q) none (All-nil Q)
  items_good before h i (item d ds) xs e =
      let first = read_both (under (item_step i) (read before d)) _ xs e in
      let rest = read_both (items_from read (Some first.0) (i + 1) ds) _ xs first.2 in
      let here = good before h d first.0 (under_ok (item_step i) (read before d) first.0 first.1) in
      let made : (first.0 ∷ rest.0) ≡ xs = cc rest.2 in
      subst (All Q) made (All-cons Q first.0 rest.0 here (items_good (Some first.0) here (i + 1) ds rest.0 rest.1))

  linked_good : (d : Data) (xs : List A) → linked_list read d ≡ Ok xs → All Q xs
  unfolding linked_list
  linked_good d xs h = let all = read_both (or_shape (as_array d)) _ xs h in items_good None tt 0 all.0 xs all.2

list_good : {A : Type 0} (read : Reader A) (Q : A → Type 0) → ((d : Data) (a : A) → read d ≡ Ok a → Q a) → (d : Data) (xs : List A) → list read d ≡ Ok xs → All Q xs
list_good read Q good = linked_good (λ before. read) Q (λ before h. good)

field_good : {A : Type 0} (key : List ℕ) (read : Reader A) (Q : A → Type 0) → ((d : Data) (a : A) → read d ≡ Ok a → Q a) → (ms : Members) (p : A × Members) → field key read ms ≡ Ok p → Q p.0
unfolding field
field_good key read Q good ms p h =
    let found = read_both (next key ms) _ p h in
    let value = read_both (under (key_step key) (read found.0.0)) _ p found.2 in
    let made : (value.0, found.0.1) ≡ p = cc value.2 in
    subst (λ q. Q q.0) made (good found.0.0 value.0 (under_ok (key_step key) (read found.0.0) value.0 value.1))

module _ (width : Width) where
  number_good : (key : List ℕ) (ms : Members) (p : Fraction × Members) → field key (ratio width) ms ≡ Ok p → IsReadable p.0
  number_good key = field_good key (ratio width) IsReadable (ratio_readable width)

  numbers_good : (key : List ℕ) (ms : Members) (p : List Fraction × Members) → field key (ratios width) ms ≡ Ok p → All IsReadable p.0
  numbers_good key = field_good key (ratios width) (All IsReadable) (list_good (ratio width) IsReadable (ratio_readable width))

  -- ---- segments

  abbrev whole_segment : Fraction → Fraction → Vertex → List Fraction → List Fraction → Fraction → Fraction → Segment
  whole_segment lo hi vertex basic_lo basic_hi loss_lo loss_hi =
      record { lo = lo; hi = hi; vertex = vertex; basic_lo = basic_lo; basic_hi = basic_hi; loss_lo = loss_lo; loss_hi = loss_hi }

  segment_good : (rows : Option ℕ) (d : Data) (s : Segment) → segment width rows d ≡ Ok s → SegmentHas IsReadable s
  unfolding segment segment_members
  segment_good rows d s h =
      let top = read_both (or_shape (as_object d)) _ s h in
      let basic_hi = read_both (field (codes "basic_hi") (ratios width) top.0) _ s top.2 in
      let basic_lo = read_both (field (codes "basic_lo") (ratios width) basic_hi.0.1) _ s basic_hi.2 in
      let coef = read_both (field (codes "coef") (ratios width) basic_lo.0.1) _ s basic_lo.2 in
      let hi = read_both (field (codes "hi") (ratio width) coef.0.1) _ s coef.2 in
      let lo = read_both (field (codes "lo") (ratio width) hi.0.1) _ s hi.2 in
      let loss_hi = read_both (field (codes "loss_hi") (ratio width) lo.0.1) _ s lo.2 in
      let loss_lo = read_both (field (codes "loss_lo") (ratio width) loss_hi.0.1) _ s loss_hi.2 in
      let signs = read_both (field (codes "sides") sides loss_lo.0.1) _ s loss_lo.2 in
      let fits = read_both (fitting (codes "sides") (if_filled rows signs.0.0 basic_lo.0.0 basic_hi.0.0)) _ s signs.2 in
      let last = read_both (no_more_keys signs.0.1) _ s fits.2 in
      let same : whole_segment lo.0.0 hi.0.0 (vertex_of signs.0.0 coef.0.0) basic_lo.0.0 basic_hi.0.0 loss_lo.0.0 loss_hi.0.0 ≡ s = ok_same _ s last.2 in
      subst (SegmentHas IsReadable) same
      (record {
        lo = number_good (codes "lo") hi.0.1 lo.0 lo.1;
        hi = number_good (codes "hi") coef.0.1 hi.0 hi.1;
        coef = numbers_good (codes "coef") basic_lo.0.1 coef.0 coef.1;
        basic_lo = numbers_good (codes "basic_lo") basic_hi.0.1 basic_lo.0 basic_lo.1;
        basic_hi = numbers_good (codes "basic_hi") top.0 basic_hi.0 basic_hi.1;
        loss_lo = number_good (codes "loss_lo") loss_hi.0.1 loss_lo.0 loss_lo.1;
        loss_hi = number_good (codes "loss_hi") lo.0.1 loss_hi.0 loss_hi.1;
      })

  PlaceHas : Place Fraction → Type 0
  PlaceHas Above = ⊤
  PlaceHas Below = ⊤
  PlaceHas (On x) = IsReadable x

  MoveHas : Move Fraction → Type 0
  MoveHas m = PlaceHas m.place

  place_good : (side : Side) (ms : Members) (p : Place Fraction) → place_members width side ms ≡ Ok p → PlaceHas p
  unfolding place_members PlaceHas
  place_good Up ms p h = let last = read_both (no_more_keys ms) _ p h in let same : Above ≡ p = cc last.2 in subst PlaceHas same tt
  place_good Down ms p h = let last = read_both (no_more_keys ms) _ p h in let same : Below ≡ p = cc last.2 in subst PlaceHas same tt
  place_good Basic ms p h =
      let value = read_both (field (codes "value") (ratio width) ms) _ p h in
      let last = read_both (no_more_keys value.0.1) _ p value.2 in
      let same : On value.0.0 ≡ p = cc last.2 in
      subst PlaceHas same (number_good (codes "value") ms value.0 value.1)

  abbrev moved_row : ℕ → Place Fraction → Move Fraction
  moved_row row place = record { row = row; place = place }

  move_good : (d : Data) (m : Move Fraction) → one_move width d ≡ Ok m → MoveHas m
  unfolding one_move move_members MoveHas
  move_good d m h =
      let top = read_both (or_shape (as_object d)) _ m h in
      let row = read_both (field (codes "row") count top.0) _ m top.2 in
      let signed = read_both (field (codes "side") side row.0.1) _ m row.2 in
      let place = read_both (place_members width signed.0.0 signed.0.1) _ m signed.2 in
      let same : moved_row row.0.0 place.0 ≡ m = cc place.2 in
      subst (λ (m : Move Fraction). PlaceHas m.place) same (place_good signed.0.0 signed.0.1 place.0 place.1)

  places_good : (signs : List Side) (values : List Fraction) → All IsReadable values → All PlaceHas (places signs values)
  unfolding PlaceHas
  places_good [] values h = All-nil PlaceHas
  places_good (Up ∷ signs) values h = All-cons PlaceHas Above (places signs values) tt (places_good signs values h)
  places_good (Down ∷ signs) values h = All-cons PlaceHas Below (places signs values) tt (places_good signs values h)
  places_good (Basic ∷ signs) [] h = All-nil PlaceHas
  places_good (Basic ∷ signs) (x ∷ values) h =
      All-cons PlaceHas (On x) (places signs values) (All-head IsReadable x values h) (places_good signs values (All-tail IsReadable x values h))

  moved_good : (i : ℕ) (ps : List (Place Fraction)) (ms : List (Move Fraction)) (qs : List (Place Fraction)) → All PlaceHas ps → All MoveHas ms → moved i ps ms ≡ Some qs → All PlaceHas qs
  unfolding MoveHas
  moved_good i ps [] qs h k e = let same : ps ≡ qs = cc e in subst (All PlaceHas) same h
  moved_good i ps (m ∷ ms) qs h k e =
      by (may_move i ps m) e (moved_good (m.row + 1) (slice_set ps m.row m.place) ms qs (All-set PlaceHas ps m.row m.place (All-head MoveHas m ms k) h) (All-tail MoveHas m ms k))
    where
      by : (b : Bool) → (if b then moved (m.row + 1) (slice_set ps m.row m.place) ms else None) ≡ Some qs → (moved (m.row + 1) (slice_set ps m.row m.place) ms ≡ Some qs → All PlaceHas qs) → All PlaceHas qs
      by true e f = f e
      by false e f = absurd (cc e)

  values_good : (ps : List (Place Fraction)) → All PlaceHas ps → All IsReadable (values_at ps)
  unfolding PlaceHas
  values_good [] h = All-nil IsReadable
  values_good (Above ∷ ps) h = values_good ps (All-tail PlaceHas Above ps h)
  values_good (Below ∷ ps) h = values_good ps (All-tail PlaceHas Below ps h)
  values_good (On x ∷ ps) h = All-cons IsReadable x (values_at ps) (All-head PlaceHas (On x) ps h) (values_good ps (All-tail PlaceHas (On x) ps h))

  later_good : (before : Segment) → SegmentHas IsReadable before → (d : Data) (s : Segment) → later_segment width before d ≡ Ok s → SegmentHas IsReadable s
  unfolding later_segment later_members
  later_good before was d s h =
      let top = read_both (or_shape (as_object d)) _ s h in
      let basic_hi = read_both (field (codes "basic_hi") (ratios width) top.0) _ s top.2 in
      let coef = read_both (field (codes "coef") (ratios width) basic_hi.0.1) _ s basic_hi.2 in
      let hi = read_both (field (codes "hi") (ratio width) coef.0.1) _ s coef.2 in
      let loss_hi = read_both (field (codes "loss_hi") (ratio width) hi.0.1) _ s hi.2 in
      let moves = read_both (field (codes "moves") (list (one_move width)) loss_hi.0.1) _ s loss_hi.2 in
      let low = read_both (fitting (codes "moves") (moved 0 (high_places before) moves.0.0)) _ s moves.2 in
      let fits = read_both (fitting (codes "moves") (if_as_many (basic_rows (map side_at low.0)) basic_hi.0.0)) _ s low.2 in
      let last = read_both (no_more_keys moves.0.1) _ s fits.2 in
      let there = shape_ok (moved 0 (high_places before) moves.0.0) low.0 (under_ok (key_step (codes "moves")) (or_shape (moved 0 (high_places before) moves.0.0)) low.0 low.1) in
      let all_moves = field_good (codes "moves") (list (one_move width)) (All MoveHas) (list_good (one_move width) MoveHas move_good) loss_hi.0.1 moves.0 moves.1 in
      let same : whole_segment before.hi hi.0.0 (vertex_of (map side_at low.0) coef.0.0) (values_at low.0) basic_hi.0.0 before.loss_hi loss_hi.0.0 ≡ s = ok_same _ s last.2 in
      subst (SegmentHas IsReadable) same
      (record {
        lo = was.hi;
        hi = number_good (codes "hi") coef.0.1 hi.0 hi.1;
        coef = numbers_good (codes "coef") basic_hi.0.1 coef.0 coef.1;
        basic_lo = values_good low.0 (moved_good 0 (high_places before) moves.0.0 low.0 (places_good before.vertex.sides before.basic_hi was.basic_hi) all_moves there);
        basic_hi = numbers_good (codes "basic_hi") top.0 basic_hi.0 basic_hi.1;
        loss_lo = was.loss_hi;
        loss_hi = number_good (codes "loss_hi") hi.0.1 loss_hi.0 loss_hi.1;
      })

  any_segment : (rows : ℕ) (before : Option Segment) → IfSome before (SegmentHas IsReadable) → (d : Data) (s : Segment) → linked_segment width rows before d ≡ Ok s → SegmentHas IsReadable s
  any_segment rows None h = segment_good (Some rows)
  any_segment rows (Some before) h = later_good before h

  in_full : (d : Data) (ss : List Segment) → list (segment width None) d ≡ Ok ss → All (SegmentHas IsReadable) ss
  in_full = list_good (segment width None) (SegmentHas IsReadable) (segment_good None)

  by_moves : (rows : ℕ) (d : Data) (ss : List Segment) → linked_list (linked_segment width rows) d ≡ Ok ss → All (SegmentHas IsReadable) ss
  by_moves rows = linked_good (linked_segment width rows) (SegmentHas IsReadable) (any_segment rows)

  -- ---- intervals

  abbrev whole_end : Bound Fraction → Vertex → List Fraction → Beyond → End
  whole_end bound vertex inside beyond = record { bound = bound; vertex = vertex; inside = inside; beyond = beyond }

  end_good : (d : Data) (e : End) → end_of width d ≡ Ok e → EndHas IsReadable e
  unfolding end_of end_members finite_members infinite_members
  end_good d e h =
      let top = read_both (or_shape (as_object d)) _ e h in
      let coef = read_both (field (codes "coef") (ratios width) top.0) _ e top.2 in
      let inside = read_both (field (codes "inside") (ratios width) coef.0.1) _ e coef.2 in
      let finite = read_both (field (codes "kind") end_kind inside.0.1) _ e inside.2 in
      by coef.0.0 inside.0.0 (numbers_good (codes "coef") top.0 coef.0 coef.1) (numbers_good (codes "inside") coef.0.1 inside.0 inside.1) finite.0.1 finite.0.0 finite.2
    where
      by : (coef inside : List Fraction) → All IsReadable coef → All IsReadable inside → (ms : Members) (b : Bool) → (if b then finite_members width coef inside ms else infinite_members width coef inside ms) ≡ Ok e → EndHas IsReadable e
      by coef inside h k ms true is =
          let outside = read_both (field (codes "outside") (ratios width) ms) _ e is in
          let signs = read_both (field (codes "sides") sides outside.0.1) _ e outside.2 in
          let value = read_both (field (codes "value") (ratio width) signs.0.1) _ e signs.2 in
          let last = read_both (no_more_keys value.0.1) _ e value.2 in
          let same : whole_end (Finite value.0.0) (vertex_of signs.0.0 coef) inside (Outside outside.0.0) ≡ e = ok_same _ e last.2 in
          subst (EndHas IsReadable) same
          (record { bound = number_good (codes "value") signs.0.1 value.0 value.1; coef = h; inside = k; beyond = numbers_good (codes "outside") ms outside.0 outside.1 })
      by coef inside h k ms false is =
          let ray = read_both (field (codes "ray") (ratios width) ms) _ e is in
          let signs = read_both (field (codes "sides") sides ray.0.1) _ e ray.2 in
          let last = read_both (no_more_keys signs.0.1) _ e signs.2 in
          let same : whole_end Infinite (vertex_of signs.0.0 coef) inside (Ray ray.0.0) ≡ e = ok_same _ e last.2 in
          subst (EndHas IsReadable) same (record { bound = tt; coef = h; inside = k; beyond = numbers_good (codes "ray") ms ray.0 ray.1 })

  abbrev whole_interval : ℕ → Fraction → Fraction → End → End → List Fraction → IntervalProof
  whole_interval column tau crit low high projection = record { column = column; tau = tau; crit = crit; low = low; high = high; projection = projection }

  interval_good : (d : Data) (t : IntervalProof) → interval width d ≡ Ok t → IntervalHas IsReadable t
  unfolding interval interval_members projected_members
  interval_good d t h =
      let top = read_both (or_shape (as_object d)) _ t h in
      let column = read_both (field (codes "column") count top.0) _ t top.2 in
      let crit = read_both (field (codes "crit") (ratio width) column.0.1) _ t column.2 in
      let high = read_both (field (codes "high") (end_of width) crit.0.1) _ t crit.2 in
      let low = read_both (field (codes "low") (end_of width) high.0.1) _ t high.2 in
      let projection = read_both (field (codes "projection") (ratios width) low.0.1) _ t low.2 in
      let tau = read_both (field (codes "tau") (ratio width) projection.0.1) _ t projection.2 in
      let last = read_both (no_more_keys tau.0.1) _ t tau.2 in
      let same : whole_interval column.0.0 tau.0.0 crit.0.0 low.0.0 high.0.0 projection.0.0 ≡ t = ok_same _ t last.2 in
      subst (IntervalHas IsReadable) same
      (record {
        tau = number_good (codes "tau") projection.0.1 tau.0 tau.1;
        crit = number_good (codes "crit") column.0.1 crit.0 crit.1;
        low = field_good (codes "low") (end_of width) (EndHas IsReadable) end_good high.0.1 low.0 low.1;
        high = field_good (codes "high") (end_of width) (EndHas IsReadable) end_good crit.0.1 high.0 high.1;
        projection = numbers_good (codes "projection") low.0.1 projection.0 projection.1;
      })

-- ---- the certificate

segments_good : (layout : Layout) (rows : ℕ) (d : Data) (ss : List Segment) → segments layout rows d ≡ Ok ss → All (SegmentHas IsReadable) ss
segments_good Full rows d ss h = in_full Narrow d ss h
segments_good Chained rows d ss h = by_moves Narrow rows d ss h
segments_good Wide rows d ss h = by (is_linked d) h
  where
    by : (b : Bool) → (if b then linked_list (linked_segment Long rows) d else list (segment Long None) d) ≡ Ok ss → All (SegmentHas IsReadable) ss
    by true h = by_moves Long rows d ss h
    by false h = in_full Long d ss h

pub record AreReadable (c : Content) : Type 0 where
  pub segments : All (SegmentHas IsReadable) c.segments
  pub intervals : All (IntervalHas IsReadable) c.intervals

abbrev whole_content : Problem ℚ → ℚ → ℚ → List Segment → List IntervalProof → Content
whole_content problem lo hi segments intervals = record { problem = problem; lo = lo; hi = hi; segments = segments; intervals = intervals }

pub top_readable : (layout : Layout) (ms : Members) (c : Content) → top_members layout ms ≡ Ok c → AreReadable c
unfolding top_members
top_readable layout ms c h =
    let columns = read_both (field (codes "columns") _ ms) _ c h in
    let hi = read_both (field (codes "hi") _ columns.0.1) _ c columns.2 in
    let intervals = read_both (field (codes "intervals") (list (interval (width_of layout))) hi.0.1) _ c hi.2 in
    let kind = read_both (field (codes "kind") _ intervals.0.1) _ c intervals.2 in
    let lo = read_both (field (codes "lo") _ kind.0.1) _ c kind.2 in
    let rows = read_both (field (codes "rows") _ lo.0.1) _ c lo.2 in
    let all = read_both (field (codes "segments") (segments layout (length rows.0.0)) rows.0.1) _ c rows.2 in
    let version = read_both (field (codes "version") _ all.0.1) _ c all.2 in
    let last = read_both (no_more_keys version.0.1) _ c version.2 in
    let same : whole_content (record { columns = columns.0.0; rows = rows.0.0 }) lo.0.0 hi.0.0 all.0.0 intervals.0.0 ≡ c = ok_same _ c last.2 in
    subst AreReadable same
    (record {
      segments = field_good (codes "segments") (segments layout (length rows.0.0)) (All (SegmentHas IsReadable)) (segments_good layout (length rows.0.0)) rows.0.1 all.0 all.1;
      intervals = field_good (codes "intervals") (list (interval (width_of layout))) (All (IntervalHas IsReadable))
          (list_good (interval (width_of layout)) (IntervalHas IsReadable) (interval_good (width_of layout))) hi.0.1 intervals.0 intervals.1;
    })
