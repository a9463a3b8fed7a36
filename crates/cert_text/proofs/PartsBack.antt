-- The trees of numbers, lists, rows and segments are read as these.
use Rattle.std.proofs.Common.{◌≡◌, ℕ, ◌+◌, ◌-◌, ◌<◌, ◌≤◌, ◌^◌, All, true, unsigned_abs, nat_le, List, [], ◌∷◌, Option, Some, None, Ok, Err, codes, map, option_and_then, option_map, if◌then◌else◌, refl, sym, ap, ◌∙◌, arith}
use Rattle.std.proofs.Math.Dec.{lit<}
use Rattle.std.proofs.lemmas.Bool.{and_parts, lt-ltb}
use Rattle.std.proofs.lemmas.Bool.Decides.{nat_tests}
use Rattle.std.proofs.lemmas.List.{map-id}
use Rattle.std.specs.Ordering.{nat_cmp, match_ordering, ordering_reverse}
use Rattle.std.specs.declared.cmp.Ordering.{Ordering}
use Rattle.std.specs.declared.cmp.Ordering.TheVariants.{Less, Equal, Greater}
use Rattle.std.specs.Cmp.Lexicographic.{slice_cmp, nat_list_cmp_total}
use Rattle.frac_core.specs.declared.frac128.Frac128.{Frac128}
use Rattle.rational_laws.specs.Fraction.{Fraction}
use Rattle.frac_core.specs.NumberText.{number_of, written}
use Rattle.frac_core.specs.Overflow.{IsWithin}
use Rattle.frac_core.proofs.NumberLaws.{reads_back}
use Rattle.natural.proofs.Texts.{decimal_is_std}
use Rattle.ratio.specs.Lowest.{IsLowest}
use Rattle.ratio.specs.Text.{ratio_text}
use Rattle.ratio.proofs.Texts.{ratio_is_number_text}
use Rattle.loss_model.specs.declared.problem.Row.{Row}
use Rattle.loss_model.specs.declared.vertex.Side.{Side}
use Rattle.loss_model.specs.declared.vertex.Side.TheVariants.{Up, Down, Basic}
use Rattle.loss_model.specs.declared.vertex.Vertex.{Vertex}
use Rattle.loss_model.specs.declared.process.Segment.{Segment}
use Rattle.serde_json.specs.Data.{Data, Members, member, number, unsigned}
use Rattle.serde_json.specs.View.{items_of}
use Rattle.frac_core.specs.Values.{exact}
use Rattle.loss_model.specs.Values.{exact_row}
use Rattle.cert_text.specs.Paths.{key_step, item_step}
use Rattle.cert_text.specs.Reading.{Reading, Reader, or_number as in_rationals, on_read, under, or_shape, fraction, count, items_from, linked_list, list, next, field, fitting, no_more_keys}
use Rattle.cert_text.specs.Certificates.{if_filled}
use Rattle.cert_text.specs.Numbers.{IsReadable, SegmentHas}
use Rattle.cert_text.specs.Ratios.{if_narrow, is_narrow, lowest, or_number, ratio}
use Rattle.cert_text.specs.declared.layout.Width.{Width}
use Rattle.cert_text.specs.declared.layout.Width.TheVariants.{Narrow, Long}
use Rattle.cert_text.specs.Kept.{IsListed, IsKeptSegment}
use Rattle.cert_text.specs.Certificates.{fractions, ratios, row_members, row, side_of, sides_of, sides, vertex_of, segment_members, segment}
use Rattle.cert_text.specs.Trees.{fraction_tree, list_tree, fractions_tree, ratio_tree, ratios_tree, sign_of, sides_tree, row_tree, segment_tree}
use Rattle.cert_text.specs.declared.fault.CertFault.TheVariants.{Shape}
use Rattle.cert_text.proofs.Lists.{first_holds, rest_hold}
use Rattle.cert_text.proofs.LongTexts.{long_read}
use Rattle.cert_text.proofs.NarrowTexts.{narrow_read}

-- ---- keys and items

own_reverse : (o : Ordering) → o ≡ ordering_reverse o → o ≡ Equal
own_reverse Less h = absurd (cc h)
own_reverse Equal h = refl
own_reverse Greater h = absurd (cc h)

same_key : (k : List ℕ) → slice_cmp nat_cmp k k ≡ Equal
same_key k = own_reverse (slice_cmp nat_cmp k k) (nat_list_cmp_total.antisymm k k)

next_back : (k : List ℕ) (d : Data) (ms : Members) → next k (member k d ms) ≡ Ok (d, ms)
unfolding next
next_back k d ms = ap (λ o. match_ordering o (Err (Shape (key_step k))) (Ok (d, ms)) (Err (Shape (key_step k)))) (same_key k)

pub step : {A B : Type 0} (k : List ℕ) (read : Reader A) (d : Data) (ms : Members) (a : A) (f : A × Members → Reading B)
    → read d ≡ Ok a → on_read (field k read (member k d ms)) f ≡ f (a, ms)
unfolding field
step k read d ms a f h =
    ap (λ z. on_read (on_read z (λ p. on_read (under (key_step k) (read p.0)) (λ a. Ok (a, p.1)))) f) (next_back k d ms)
    ∙ ap (λ z. on_read (on_read (under (key_step k) z) (λ a. Ok (a, ms))) f) h

items_back : {T A : Type 0} (P : T → Type 0) (tree : T → Data) (show : T → A) (read : Reader A) → ((t : T) → P t → read (tree t) ≡ Ok (show t))
    → (before : Option A) (i : ℕ) (xs : List T) → All P xs → items_from (λ o. read) before i (items_of (map tree xs)) ≡ Ok (map show xs)
unfolding items_from
items_back P tree show read h before i [] all = refl
items_back P tree show read h before i (x ∷ xs) all =
    ap (λ z. on_read (under (item_step i) z) (λ a. on_read (items_from (λ o. read) (Some a) (i + 1) (items_of (map tree xs))) (λ more. Ok (a ∷ more)))) (h x (first_holds P x xs all))
    ∙ ap (λ z. on_read z (λ more. Ok (show x ∷ more))) (items_back P tree show read h (Some (show x)) (i + 1) xs (rest_hold P x xs all))

pub list_back : {T A : Type 0} (P : T → Type 0) (tree : T → Data) (show : T → A) (read : Reader A) → ((t : T) → P t → read (tree t) ≡ Ok (show t))
    → (xs : List T) → All P xs → list read (list_tree tree xs) ≡ Ok (map show xs)
unfolding linked_list
list_back P tree show read h xs all = items_back P tree show read h None 0 xs all

-- ---- parts

pub fraction_back : (x : Frac128) → fraction (fraction_tree x) ≡ Ok (exact x)
unfolding fraction
fraction_back x = ap in_rationals (reads_back (2 ^ 127 - 1) (record { num = x.num; den = x.den }) (omega arith) x.within)

pub fractions_back : (xs : List Frac128) → fractions (fractions_tree xs) ≡ Ok (map exact xs)
fractions_back xs = list_back (λ _. Unit {0}) fraction_tree exact fraction (λ x _. fraction_back x) xs (λ k d lt. tt)

-- what is written is read in this width
abbrev pub IsRead : Width → Fraction → Type 0
IsRead Narrow x = is_narrow x ≡ true
IsRead Long x = IsReadable x

-- a number that is read back
pub record IsGood (width : Width) (x : Fraction) : Type 0 where
  pub lowest : IsLowest x
  pub read : IsRead width x

narrow_back : (x : Fraction) → IsLowest x → is_narrow x ≡ true → option_map lowest (if_narrow (written (ratio_text x))) ≡ Some x
narrow_back x h narrow =
    let parts = and_parts (nat_le (unsigned_abs x.num) (2 ^ 127 - 1)) (nat_le x.den (2 ^ 127 - 1)) narrow in
    let num : unsigned_abs x.num ≤ 2 ^ 127 - 1 = grind (arith, nat_tests) in
    let den : x.den ≤ 2 ^ 127 - 1 = grind (arith, nat_tests) in
    let most : 2 ^ 127 < 10 ^ 64 = lit< tt in
    let within : IsWithin (2 ^ 127 - 1) x = record { positive = h.positive; lowest = h.lowest; num_fits = num; den_fits = den } in
    narrow_read x h (ratio_text x) (ap (number_of (2 ^ 127 - 1)) (ratio_is_number_text decimal_is_std x (omega arith) (omega arith)) ∙ reads_back (2 ^ 127 - 1) x (omega arith) within)

pub ratio_back : (width : Width) (x : Fraction) → IsGood width x → ratio width (ratio_tree x) ≡ Ok x
unfolding ratio
ratio_back Narrow x h = ap or_number (narrow_back x h.lowest h.read)
ratio_back Long x h = ap or_number (long_read x h.lowest h.read)

pub ratios_back : (width : Width) (xs : List Fraction) → All (IsGood width) xs → ratios width (ratios_tree xs) ≡ Ok xs
ratios_back width xs all = list_back (IsGood width) ratio_tree (λ x. x) (ratio width) (ratio_back width) xs all ∙ ap Ok (map-id xs)

sign_back : (s : Side) → side_of (sign_of s) ≡ Some s
sign_back Up = refl
sign_back Down = refl
sign_back Basic = refl

signs_back : (ss : List Side) → sides_of (map sign_of ss) ≡ Some ss
signs_back [] = refl
signs_back (s ∷ ss) =
    ap (λ o. option_and_then (λ side. option_map (λ more. side ∷ more) (sides_of (map sign_of ss))) o) (sign_back s)
    ∙ ap (option_map (λ more. s ∷ more)) (signs_back ss)

pub sides_back : (ss : List Side) → sides (sides_tree ss) ≡ Ok ss
unfolding sides
sides_back ss = ap or_shape (signs_back ss)

pub vertex_back : (v : Vertex) → IsListed v → vertex_of v.sides v.coef ≡ v
vertex_back v listed = λ i. record { basis = record { rows = sym listed i }; sides = v.sides; coef = v.coef }

pub count_back : (n : ℕ) → n < 2 ^ 32 → count (number (unsigned n)) ≡ Ok n
unfolding count
count_back n l = ap (λ b. or_shape (if b then Some n else None)) (lt-ltb n (2 ^ 32) l)

-- ---- rows and segments

pub row_back : (r : Row Frac128) → row (row_tree r) ≡ Ok (exact_row r)
unfolding row row_members row_tree no_more_keys
row_back r =
    step (codes "down0") fraction _ _ (exact r.down0) _ (fraction_back r.down0)
    ∙ step (codes "down1") fraction _ _ (exact r.down1) _ (fraction_back r.down1)
    ∙ step (codes "up0") fraction _ _ (exact r.up0) _ (fraction_back r.up0)
    ∙ step (codes "up1") fraction _ _ (exact r.up1) _ (fraction_back r.up1)
    ∙ step (codes "x") fractions _ _ (map exact r.x) _ (fractions_back r.x)
    ∙ step (codes "y") fraction _ _ (exact r.y) _ (fraction_back r.y)

pub segment_back : (width : Width) (rows : Option ℕ) (s : Segment) → IsKeptSegment s → SegmentHas (IsGood width) s → if_filled rows s.vertex.sides s.basic_lo s.basic_hi ≡ Some tt
    → segment width rows (segment_tree s) ≡ Ok s
unfolding segment segment_members segment_tree no_more_keys
segment_back width rows s kept has filled =
    step (codes "basic_hi") (ratios width) _ _ s.basic_hi _ (ratios_back width s.basic_hi has.basic_hi)
    ∙ step (codes "basic_lo") (ratios width) _ _ s.basic_lo _ (ratios_back width s.basic_lo has.basic_lo)
    ∙ step (codes "coef") (ratios width) _ _ s.vertex.coef _ (ratios_back width s.vertex.coef has.coef)
    ∙ step (codes "hi") (ratio width) _ _ s.hi _ (ratio_back width s.hi has.hi)
    ∙ step (codes "lo") (ratio width) _ _ s.lo _ (ratio_back width s.lo has.lo)
    ∙ step (codes "loss_hi") (ratio width) _ _ s.loss_hi _ (ratio_back width s.loss_hi has.loss_hi)
    ∙ step (codes "loss_lo") (ratio width) _ _ s.loss_lo _ (ratio_back width s.loss_lo has.loss_lo)
    ∙ step (codes "sides") sides _ _ s.vertex.sides _ (sides_back s.vertex.sides)
    ∙ ap (λ o. on_read (fitting (codes "sides") o) (λ _. Ok (record {
      lo = s.lo;
      hi = s.hi;
      vertex = vertex_of s.vertex.sides s.vertex.coef;
      basic_lo = s.basic_lo;
      basic_hi = s.basic_hi;
      loss_lo = s.loss_lo;
      loss_hi = s.loss_hi;
    }))) filled
    ∙ ap (λ v. Ok (record {
      lo = s.lo;
      hi = s.hi;
      vertex = v;
      basic_lo = s.basic_lo;
      basic_hi = s.basic_hi;
      loss_lo = s.loss_lo;
      loss_hi = s.loss_hi;
    })) (vertex_back s.vertex kept)
