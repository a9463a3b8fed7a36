-- The numbers of the tested columns that words ask for ascend, and where all of them are columns, so do these.
use Rattle.std.proofs.Common.{◌≡◌, ◌∙◌, ℕ, zero, suc, ◌+◌, ◌-◌, ◌^◌, ◌<◌, ◌≤◌, ◌==◌, ◌&&◌, Bool, true, false, List, [], ◌∷◌}
use Rattle.std.proofs.Common.{Option, Some, None, Ok, refl, ap, ap₂, subst, arith, codes, length, map, nat_le, ok_or, if◌then◌else◌, option_and_then, option_map}
use Rattle.std.specs.List.{AllByRecursion, slice_index, slice_split}
use Rattle.std.specs.List.Sorted.{IsStrictlyIncreasing}
use Rattle.std.specs.Option.{option_map_or}
use Rattle.std.specs.Str.Parse.{digits_value}
use Rattle.std.proofs.lemmas.Bool.{leb-true, and_parts}
use Rattle.std.proofs.lemmas.Bool.Decides.{nat_tests}
use Rattle.clap.specs.Words.{Row, Text, first_of}
use Rattle.contrasts.specs.declared.Coding.{Coding}
use Rattle.rq_words.specs.Requests.{OptionNumbers, Request, TestRequest, given_number}
use Rattle.rq_words.specs.Requests as request
use Rattle.rq_words.specs.Words.{all_read, column_numbers, count, has_digits, ascends, ascends_from, column_of, request_for, words_of}
use Rattle.rq_words.specs.declared.command.Kind.{Kind}
use Rattle.rq_words.specs.declared.command.Kind.TheVariants as kind
use Rattle.rq_words.specs.declared.job.WordFault.{WordFault}
use Rattle.rq_words.specs.declared.job.WordFault.TheVariants.{BadNumber}
use Rattle.rq_words.proofs.FewQuantiles.{joined_few}
use Rattle.rq_words.proofs.Requested.{requested, numbers_read}
use Rattle.rq_words.proofs.RankRequests.{are_sound}
use Rattle.rq_words.proofs.Parts.{IsAscending}

-- ---- numbers of at most three digits

abbrev AreSmall : List ℕ → Type 0
AreSmall xs = AllByRecursion (λ n. n ≤ 999) xs

small_by : (o : Option ℕ) (more : Option (List ℕ)) (xs : List ℕ) → option_and_then (λ x. option_map (λ ys. x ∷ ys) more) o ≡ Some xs
    → ((x : ℕ) → o ≡ Some x → x ≤ 999) → ((ys : List ℕ) → more ≡ Some ys → AreSmall ys) → AreSmall xs
small_by None more xs h one rest = absurd (cc h)
small_by (Some x) None xs h one rest = absurd (cc h)
small_by (Some x) (Some ys) xs h one rest = let is : x ∷ ys ≡ xs = cc h in subst AreSmall is (one x refl, rest ys refl)

picked : (b : Bool) (n x : ℕ) → (if b then Some n else None) ≡ Some x → (b ≡ true) × (n ≡ x)
picked true n x h = (refl, cc h)
picked false n x h = absurd (cc h)

count_small : (text : Text) (x : ℕ) → count 3 0 999 text ≡ Some x → x ≤ 999
unfolding count
count_small text x h =
    let n = digits_value 10 text in
    let is = picked (has_digits 3 text && nat_le 0 n && nat_le n 999) n x h in
    subst (λ n. n ≤ 999) is.1 (leb-true n 999 (and_parts (has_digits 3 text && nat_le 0 n) (nat_le n 999) is.0).1)

read_small : (texts : List Text) (xs : List ℕ) → all_read (count 3 0 999) texts ≡ Some xs → AreSmall xs
unfolding all_read
read_small [] xs h = let is : [] ≡ xs = cc h in subst AreSmall is tt
read_small (text ∷ rest) xs h = small_by (count 3 0 999 text) (all_read (count 3 0 999) rest) xs h (count_small text) (read_small rest)

option_small : (o : Option Text) (xs : List ℕ) (fault : WordFault) → option_map_or (λ text. ok_or (column_numbers text) fault) o (Ok []) ≡ Ok xs → AreSmall xs
option_small None xs fault h = let is : [] ≡ xs = cc h in subst AreSmall is tt
option_small (Some text) xs fault h = by (column_numbers text) refl h
  where
    by : (o : Option (List ℕ)) → column_numbers text ≡ o → ok_or o fault ≡ Ok xs → AreSmall xs
    by (Some ys) e h = let is : ys ≡ xs = cc h in subst AreSmall is (read_small (slice_split (λ b. b == 44) text) ys (joined_few 128 (count 3 0 999) text ys e).1)
    by None e h = absurd (cc h)

-- ---- the columns of such numbers

given_back : (n : ℕ) → n ≤ 999 → given_number (column_of n) ≡ n
given_back n h = by (n == 0) refl
  where
    later : (b : Bool) → (n - 1 == 2 ^ 32 - 1) ≡ b → (n == 0) ≡ false → (if b then 0 else n - 1 + 1) ≡ n
    later true e d = absurd (grind (arith, nat_tests))
    later false e d = grind (arith, nat_tests)

    by : (b : Bool) → (n == 0) ≡ b → given_number (if b then 2 ^ 32 - 1 else n - 1) ≡ n
    by true e = grind (arith, nat_tests)
    by false e = later (n - 1 == 2 ^ 32 - 1) refl e

all_given_back : (xs : List ℕ) → AreSmall xs → map given_number (map column_of xs) ≡ xs
all_given_back [] h = refl
all_given_back (x ∷ xs) h = ap₂ (λ (x : ℕ) (xs : List ℕ). x ∷ xs) (given_back x h.0) (all_given_back xs h.1)

-- ---- the request

request_ascending : (kind : Kind) (found : List Row) (n : OptionNumbers) (chosen : Coding) → AreSmall n.tested → ascends n.tested ≡ true → IsAscending (request_for kind found n chosen)
request_ascending kind.Test found n chosen small h = ap ascends (all_given_back n.tested small) ∙ h
request_ascending other found n chosen small h = tt

words_ascending : (words : List Text) (r : Request) → words_of words ≡ Ok r → IsAscending r
words_ascending words r h =
    let a = requested words r h in
    let small = option_small (first_of (codes "tested") a.found) a.numbers.tested (BadNumber (codes "tested")) (numbers_read a.found a.numbers a.counted).tested in
    subst IsAscending a.is (request_ascending a.kind a.found a.numbers a.chosen small (are_sound a.kind a.numbers a.sound).tested)

-- the numbers of the columns that a test asks for
pub test_ascending : (words : List Text) (t : TestRequest) → words_of words ≡ Ok (request.Test t) → ascends (map given_number t.tested) ≡ true
test_ascending words t h = words_ascending words (request.Test t) h

-- ---- columns that there are

module _ (columns : ℕ) (few : columns < 2 ^ 32) where
  number_within : (k : ℕ) → k < columns → given_number k ≡ k + 1
  number_within k h = by (k == 2 ^ 32 - 1) refl
    where
      by : (b : Bool) → (k == 2 ^ 32 - 1) ≡ b → (if b then 0 else k + 1) ≡ k + 1
      by true e = absurd (grind (arith, nat_tests))
      by false e = refl

  next_ascends : (least x : ℕ) (xs : List ℕ) → ascends_from least (map given_number (x ∷ xs)) ≡ true → ascends_from (given_number x + 1) (map given_number xs) ≡ true
  next_ascends least x xs h = (and_parts (nat_le least (given_number x)) _ h).1

  below_next : (x y : ℕ) (xs : List ℕ) → x < columns → y < columns → ascends_from (given_number x + 1) (map given_number (y ∷ xs)) ≡ true → x < y
  below_next x y xs p q h =
      let e : given_number x ≡ x + 1 = number_within x p in
      let f : given_number y ≡ y + 1 = number_within y q in
      let le = leb-true (given_number x + 1) (given_number y) (and_parts (nat_le (given_number x + 1) (given_number y)) _ h).0 in
      omega (arith, e, f, le)

  rising : (least : ℕ) (xs : List ℕ) → AllByRecursion (λ k. k < columns) xs → ascends_from least (map given_number xs) ≡ true
      → (k : ℕ) → k + 1 < length xs → slice_index xs k < slice_index xs (k + 1)
  rising least [] all h k lt = absurd (grind arith)
  rising least (x ∷ []) all h k lt = absurd (grind arith)
  rising least (x ∷ y ∷ xs) all h zero lt = below_next x y xs all.0 all.1.0 (next_ascends least x (y ∷ xs) h)
  rising least (x ∷ y ∷ xs) all h (suc k) lt =
      let e : suc k + 1 ≡ suc (k + 1) = omega arith in
      let rest = rising (given_number x + 1) (y ∷ xs) all.1 (next_ascends least x (y ∷ xs) h) k (omega arith) in
      rw e rest

  -- they ascend where their numbers do
  pub ascending_columns : (xs : List ℕ) → AllByRecursion (λ k. k < columns) xs → ascends (map given_number xs) ≡ true → IsStrictlyIncreasing xs
  ascending_columns xs all h = rising 0 xs all h
