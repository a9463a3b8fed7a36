-- The text of a certificate has 64 bytes for each of its segments, and more, if each has a coefficient and a dual value.
use Rattle.std.proofs.Common.{◌≡◌, ℕ, zero, suc, ◌+◌, ◌*◌, ◌≤◌, ◌/◌, ◌%◌, ◌==◌, Bool, true, false, cond, nat_lt, ℤ, pos, int_lt}
use Rattle.std.proofs.Common.{unsigned_abs, List, [], ◌∷◌, ◌++◌, All, Option, Some, None, codes, length, map, flat_map, if◌then◌else◌, arith, refl, ap, ◌∙◌}
use Rattle.std.specs.Char.{digit_char}
use Rattle.std.proofs.lemmas.List.{length-append}
use Rattle.json.specs.Print.{escape_byte, escape_letter, quoted}
use Rattle.serde_json.specs.Data.{Data, Items, item, no_items, Members, member, no_members, number, unsigned, string}
use Rattle.serde_json.specs.View.{items_of}
use Rattle.serde_json.specs.Written.{comma_if, compact_text, items_text, members_text}
use Rattle.rational_laws.specs.Fraction.{Fraction}
use Rattle.natural.specs.Decimal.{decimal_text, glyphs}
use Rattle.natural.proofs.Digits.{glyphs_step, text-glyphs, text-zero}
use Rattle.ratio.specs.Text.{integer_text, ratio_text}
use Rattle.loss_model.specs.declared.process.Segment.{Segment}
use Rattle.cert_text.specs.Chains.{is_chained, moves_between}
use Rattle.cert_text.specs.Contents.{content}
use Rattle.cert_text.specs.Trees.{cert_text, cert_tree, fraction_tree, interval_tree, later_tree, layout, linked_tree, linked_trees, list_tree, move_tree, ratio_tree, ratios_tree, row_tree, segment_tree, segments_tree, sides_tree, version}
use Rattle.cert_text.specs.declared.cert.Cert.{Cert}

-- ---- strings

either_long : (b : Bool) (xs ys : List ℕ) → 1 ≤ length xs → 1 ≤ length ys → 1 ≤ length (cond b xs ys)
either_long true xs ys h k = h
either_long false xs ys h k = k

byte_long : (x : ℕ) → 1 ≤ length (escape_byte x)
unfolding escape_byte
byte_long x =
    either_long (nat_lt 0 (escape_letter x)) (92 ∷ escape_letter x ∷ []) _ (omega arith)
    (either_long (nat_lt x 32) (92 ∷ 117 ∷ 48 ∷ 48 ∷ digit_char (x / 16) ∷ digit_char (x % 16) ∷ []) (x ∷ []) (omega arith) (omega arith))

escape_long : (s : List ℕ) → length s ≤ length (flat_map escape_byte s)
escape_long [] = omega arith
escape_long (x ∷ s) = omega (arith, byte_long x, escape_long s, length-append (escape_byte x) (flat_map escape_byte s))

quoted_long : (s : List ℕ) → length s + 2 ≤ length (quoted s)
quoted_long s = omega (arith, escape_long s, length-append (flat_map escape_byte s) (34 ∷ []))

-- ---- numbers

digits_long : (n : ℕ) → 1 ≤ length (decimal_text n)
digits_long zero = omega (arith, ap length (text-zero 0 refl))
digits_long (suc n) =
    let last = text-glyphs (suc n) (omega arith) ∙ glyphs_step (suc n) (omega arith) in
    omega (arith, ap length last, length-append (glyphs (suc n / 10)) ((48 + suc n % 10) ∷ []))

whole_long : (n : ℤ) → 1 ≤ length (integer_text n)
unfolding integer_text
whole_long n = by (int_lt n (pos 0))
  where
    by : (b : Bool) → 1 ≤ length (if b then 45 ∷ decimal_text (unsigned_abs n) else decimal_text (unsigned_abs n))
    by true = omega arith
    by false = digits_long (unsigned_abs n)

-- the text of a number isn't empty
number_long : (x : Fraction) → 3 ≤ length (compact_text (ratio_tree x))
unfolding ratio_text
number_long x = by (x.den == 1)
  where
    over : 1 ≤ length (integer_text x.num)
    over = whole_long x.num

    by : (b : Bool) → 3 ≤ length (quoted (if b then integer_text x.num else (integer_text x.num ++ 47 ∷ decimal_text x.den)))
    by true = omega (arith, over, quoted_long (integer_text x.num))
    by false =
        omega (arith, over, quoted_long (integer_text x.num ++ 47 ∷ decimal_text x.den), length-append (integer_text x.num) (47 ∷ decimal_text x.den))

-- a list of items ends with a bracket
items_end : (later : Bool) (ds : Items) → 1 ≤ length (items_text later ds)
items_end later no_items = omega arith
items_end later (item d ds) =
    let behind = items_text true ds in
    omega (arith, items_end true ds, length-append (compact_text d) behind, length-append (comma_if later) (compact_text d ++ behind))

numbers_long : (xs : List Fraction) → 1 ≤ length xs → 5 ≤ length (compact_text (ratios_tree xs))
numbers_long [] some = absurd (omega (arith, some))
numbers_long (x ∷ xs) some =
    let others = items_of (map ratio_tree xs) in
    omega (arith, number_long x, items_end true others, length-append (compact_text (ratio_tree x)) (items_text true others))

-- ---- objects

-- a member has its key, its value, and the members behind it, and a later one has a comma
member_long : (later : Bool) (k : List ℕ) (d : Data) (ms : Members)
    → length (comma_if later) + length k + 3 + length (compact_text d) + length (members_text true ms) ≤ length (members_text later (member k d ms))
member_long later k d ms =
    let behind = compact_text d ++ members_text true ms in
    omega (
      arith,
      quoted_long k,
      length-append (compact_text d) (members_text true ms),
      length-append (quoted k) (58 ∷ behind),
      length-append (comma_if later) (quoted k ++ 58 ∷ behind),
    )

-- a segment has eight keys of 43 bytes together
segment_long : (s : Segment) → 64 ≤ length (compact_text (segment_tree s))
unfolding segment_tree
segment_long s =
    let basic_hi : length (codes "basic_hi") ≡ 8 = refl in
    let basic_lo : length (codes "basic_lo") ≡ 8 = refl in
    let coef : length (codes "coef") ≡ 4 = refl in
    let hi : length (codes "hi") ≡ 2 = refl in
    let lo : length (codes "lo") ≡ 2 = refl in
    let loss_hi : length (codes "loss_hi") ≡ 7 = refl in
    let loss_lo : length (codes "loss_lo") ≡ 7 = refl in
    let sides : length (codes "sides") ≡ 5 = refl in
    let m7 = member (codes "sides") (sides_tree s.vertex.sides) no_members in
    let m6 = member (codes "loss_lo") (ratio_tree s.loss_lo) m7 in
    let m5 = member (codes "loss_hi") (ratio_tree s.loss_hi) m6 in
    let m4 = member (codes "lo") (ratio_tree s.lo) m5 in
    let m3 = member (codes "hi") (ratio_tree s.hi) m4 in
    let m2 = member (codes "coef") (ratios_tree s.vertex.coef) m3 in
    let m1 = member (codes "basic_lo") (ratios_tree s.basic_lo) m2 in
    omega (
      arith,
      basic_hi,
      basic_lo,
      coef,
      hi,
      lo,
      loss_hi,
      loss_lo,
      sides,
      member_long false (codes "basic_hi") (ratios_tree s.basic_hi) m1,
      member_long true (codes "basic_lo") (ratios_tree s.basic_lo) m2,
      member_long true (codes "coef") (ratios_tree s.vertex.coef) m3,
      member_long true (codes "hi") (ratio_tree s.hi) m4,
      member_long true (codes "lo") (ratio_tree s.lo) m5,
      member_long true (codes "loss_hi") (ratio_tree s.loss_hi) m6,
      member_long true (codes "loss_lo") (ratio_tree s.loss_lo) m7,
      member_long true (codes "sides") (sides_tree s.vertex.sides) no_members,
    )

-- one that says only what changes has five keys of 26 bytes together, and two lists that aren't empty
later_long : (before s : Segment) → 1 ≤ length s.basic_hi → 1 ≤ length s.vertex.coef → 64 ≤ length (compact_text (later_tree before s))
unfolding later_tree
later_long before s valued some =
    let comma : length (comma_if true) ≡ 1 = refl in
    let basic_hi : length (codes "basic_hi") ≡ 8 = refl in
    let coef : length (codes "coef") ≡ 4 = refl in
    let hi : length (codes "hi") ≡ 2 = refl in
    let loss_hi : length (codes "loss_hi") ≡ 7 = refl in
    let moves : length (codes "moves") ≡ 5 = refl in
    let moved = list_tree move_tree (moves_between before s) in
    let m4 = member (codes "moves") moved no_members in
    let m3 = member (codes "loss_hi") (ratio_tree s.loss_hi) m4 in
    let m2 = member (codes "hi") (ratio_tree s.hi) m3 in
    let m1 = member (codes "coef") (ratios_tree s.vertex.coef) m2 in
    omega (
      arith,
      comma,
      basic_hi,
      coef,
      hi,
      loss_hi,
      moves,
      numbers_long s.basic_hi valued,
      numbers_long s.vertex.coef some,
      number_long s.hi,
      number_long s.loss_hi,
      items_end false (items_of (map move_tree (moves_between before s))),
      member_long false (codes "basic_hi") (ratios_tree s.basic_hi) m1,
      member_long true (codes "coef") (ratios_tree s.vertex.coef) m2,
      member_long true (codes "hi") (ratio_tree s.hi) m3,
      member_long true (codes "loss_hi") (ratio_tree s.loss_hi) m4,
      member_long true (codes "moves") moved no_members,
    )

-- ---- lists

items_long : (later : Bool) (xs : List Segment) → 64 * length xs ≤ length (items_text later (items_of (map segment_tree xs)))
items_long later [] = omega arith
items_long later (x ∷ xs) =
    let d = compact_text (segment_tree x) in
    let behind = items_text true (items_of (map segment_tree xs)) in
    omega (arith, segment_long x, items_long true xs, length-append d behind, length-append (comma_if later) (d ++ behind))

-- a segment has a dual value at its high end, and a coefficient
abbrev pub HasEntries : Segment → Type 0
HasEntries s = (1 ≤ length s.basic_hi) × (1 ≤ length s.vertex.coef)

linked_long : (before : Option Segment) (s : Segment) → HasEntries s → 64 ≤ length (compact_text (linked_tree before s))
linked_long None s h = segment_long s
linked_long (Some before) s h = later_long before s h.0 h.1

chain_long : (later : Bool) (before : Option Segment) (ss : List Segment) → All HasEntries ss → 64 * length ss ≤ length (items_text later (items_of (linked_trees before ss)))
chain_long later before [] h = omega arith
chain_long later before (s ∷ ss) h =
    let d = compact_text (linked_tree before s) in
    let behind = items_text true (items_of (linked_trees (Some s) ss)) in
    omega (
      arith,
      linked_long before s (h 0 s (omega arith)),
      chain_long true (Some s) ss (λ k e l. h (suc k) e (omega (arith, l))),
      length-append d behind,
      length-append (comma_if later) (d ++ behind),
    )

segments_long : (chained : Bool) (ss : List Segment) → All HasEntries ss → 64 * length ss ≤ length (compact_text (segments_tree chained ss))
segments_long true ss h = omega (arith, chain_long false None ss h)
segments_long false ss h = omega (arith, items_long false ss)

pub cert_long : (c : Cert) → All HasEntries c.segments → 64 * length c.segments ≤ length (cert_text c)
unfolding cert_tree
cert_long c h =
    let laid_out = segments_tree (is_chained (content c)) c.segments in
    let m7 = member (codes "version") (number (unsigned (version (layout c)))) no_members in
    let m6 = member (codes "segments") laid_out m7 in
    let m5 = member (codes "rows") (list_tree row_tree c.problem.rows) m6 in
    let m4 = member (codes "lo") (fraction_tree c.lo) m5 in
    let m3 = member (codes "kind") (string (codes "quantreg-certificate")) m4 in
    let m2 = member (codes "intervals") (list_tree interval_tree c.intervals) m3 in
    let m1 = member (codes "hi") (fraction_tree c.hi) m2 in
    omega (
      arith,
      segments_long (is_chained (content c)) c.segments h,
      member_long false (codes "columns") (number (unsigned c.problem.columns)) m1,
      member_long true (codes "hi") (fraction_tree c.hi) m2,
      member_long true (codes "intervals") (list_tree interval_tree c.intervals) m3,
      member_long true (codes "kind") (string (codes "quantreg-certificate")) m4,
      member_long true (codes "lo") (fraction_tree c.lo) m5,
      member_long true (codes "rows") (list_tree row_tree c.problem.rows) m6,
      member_long true (codes "segments") laid_out m7,
      length-append (compact_text (cert_tree c)) (10 ∷ []),
    )
