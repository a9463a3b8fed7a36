-- What words say of a generated table that they ask for: how large it may be, and that its range is in order. It has a
-- record, for `--rows` must stand, and 0 is not read.
use Rattle.std.proofs.Common.{◌≡◌, ◌∙◌, ℕ, ◌≤◌, ◌&&◌, Bool, true, false, List, [], ◌∷◌, Option, Some, None, Ok, refl, sym, ap, subst, arith, codes, nat_le, ok_or, if◌then◌else◌}
use Rattle.std.specs.Option.{option_map_or}
use Rattle.std.specs.Str.Parse.{digits_value}
use Rattle.std.proofs.lemmas.Bool.{leb-true, and_parts}
use Rattle.clap.specs.Simple.{argument_words, built, names_of}
use Rattle.clap.specs.Words.{Kinds, Row, Text, first_of, matches_of}
use Rattle.clap.specs.Words as clap
use Rattle.clap.proofs.OnLiterals.{clap_on_literals}
use Rattle.rational_laws.specs.Rational.{◌≤ℚ◌}
use Rattle.frac_core.specs.Limits.{most_rows}
use Rattle.contrasts.specs.declared.Coding.{Coding}
use Rattle.rq_words.specs.Commands.{command_of, options_of, read_by, some_if_none}
use Rattle.rq_words.specs.Requests.{OptionNumbers, SampleRequest}
use Rattle.rq_words.specs.Requests as request
use Rattle.rq_words.specs.Words.{zero, one, count, has_digits, request_for, sample, words_of}
use Rattle.rq_words.specs.declared.command.Kind.{Kind}
use Rattle.rq_words.specs.declared.command.Kind.TheVariants as kind
use Rattle.rq_words.specs.declared.job.WordFault.{WordFault}
use Rattle.rq_words.specs.declared.job.WordFault.TheVariants.{BadNumber}
use Rattle.rq_words.proofs.GivenOptions.{option_given}
use Rattle.rq_words.proofs.Orders.{range_of, words_in_order}
use Rattle.rq_words.proofs.Requested.{AreRead, numbers_read, requested}

-- ---- numbers within their limits

counted : (b : Bool) (n r : ℕ) (fault : WordFault) → ok_or (if b then Some n else None) fault ≡ Ok r → (b ≡ true) × (n ≡ r)
counted true n r fault h = (refl, cc h)
counted false n r fault h = absurd (cc h)

-- a number that is read lies within its limits
count_within : (places least most r : ℕ) (text : Text) (fault : WordFault) → ok_or (count places least most text) fault ≡ Ok r → (least ≤ r) × (r ≤ most)
unfolding count
count_within places least most r text fault h =
    let n = digits_value 10 text in
    let is = counted (has_digits places text && nat_le least n && nat_le n most) n r fault h in
    let upper = and_parts (has_digits places text && nat_le least n) (nat_le n most) is.0 in
    let lower = and_parts (has_digits places text) (nat_le least n) upper.0 in
    subst (λ m. (least ≤ m) × (m ≤ most)) is.1 (leb-true least n lower.1, leb-true n most upper.1)

option_within : (places least most r : ℕ) (o : Option Text) (fault : WordFault) → option_map_or (λ text. ok_or (count places least most text) fault) o (Ok 0) ≡ Ok r → r ≤ most
option_within places least most r None fault h = let is : 0 ≡ r = cc h in subst (λ n. n ≤ most) is (omega arith)
option_within places least most r (Some text) fault h = (count_within places least most r text fault h).1

option_from : (places least most r : ℕ) (o : Option Text) (text : Text) (fault : WordFault) → o ≡ Some text → option_map_or (λ text. ok_or (count places least most text) fault) o (Ok 0) ≡ Ok r
    → least ≤ r
option_from places least most r None text fault is h = absurd (cc is)
option_from places least most r (Some other) text fault is h = (count_within places least most r other fault h).0

-- the numbers of a generated table are within their limits
record AreWithin (found : List Row) (n : OptionNumbers) : Type 0 where
  some : (text : Text) → first_of (codes "rows") found ≡ Some text → 1 ≤ n.rows
  rows : n.rows ≤ most_rows
  columns : n.columns ≤ 100

numbers_within : (found : List Row) (n : OptionNumbers) → AreRead found n → AreWithin found n
numbers_within found n read =
    record {
      some = λ text is. option_from 5 1 most_rows n.rows (first_of (codes "rows") found) text (BadNumber (codes "rows")) is read.rows;
      rows = option_within 5 1 most_rows n.rows (first_of (codes "rows") found) (BadNumber (codes "rows")) read.rows;
      columns = option_within 3 1 100 n.columns (first_of (codes "columns") found) (BadNumber (codes "columns")) read.columns;
    }

-- ---- the words of the command

faultless : (kinds : Kinds) (rows found : List Row) → some_if_none kinds rows ≡ Some found → (kinds ≡ []) × (rows ≡ found)
faultless [] rows found h = (refl, cc h)
faultless (k ∷ ks) rows found h = absurd (cc h)

-- the words of `sample` that are taken give the rows
rows_given : (words : List Text) (found : List Row) → read_by (command_of (options_of kind.Sample)) words ≡ Some found → (text : Text) × (first_of (codes "rows") found ≡ Some text)
unfolding read_by clap_on_literals
rows_given words found h =
    let app = command_of (options_of kind.Sample) in
    let read = faultless (clap.fault_of app words) (matches_of app words) found h in
    let given = option_given (built app).top (names_of (built app)) refl (argument_words app words) _ _ 1 _ refl refl refl read.0 in
    (given.0, ap (first_of (codes "rows")) (sym read.1) ∙ given.1)

-- ---- the request

-- what is known of a generated table that words ask for
pub record IsSoundSample (s : SampleRequest) : Type 0 where
  pub range : (zero ≤ℚ s.lo) × (s.lo ≤ℚ s.hi) × (s.hi ≤ℚ one)
  pub some : 1 ≤ s.rows
  pub rows : s.rows ≤ most_rows
  pub columns : s.columns ≤ 100

same_sample : (asked : Kind) (found : List Row) (n : OptionNumbers) (chosen : Coding) (s : SampleRequest) → request_for asked found n chosen ≡ request.Sample s → (asked ≡ kind.Sample) × (sample n ≡ s)
same_sample kind.Sample found n chosen s h = (refl, cc h)
same_sample other found n chosen s h = absurd (cc h)

-- so is what the words ask for
pub words_sample : (s : SampleRequest) (words : List Text) → words_of words ≡ Ok (request.Sample s) → IsSoundSample s
words_sample s words h =
    let a = requested words (request.Sample s) h in
    let within = numbers_within a.found a.numbers (numbers_read a.found a.numbers a.counted) in
    let same = same_sample a.kind a.found a.numbers a.chosen s a.is in
    let text = rows_given words a.found (subst (λ k. read_by (command_of (options_of k)) words ≡ Some a.found) same.0 a.read) in
    record {
      range = range_of s.lo s.hi (words_in_order words (request.Sample s) h);
      some = subst (λ (t : SampleRequest). 1 ≤ t.rows) same.1 (within.some text.0 text.1);
      rows = subst (λ (t : SampleRequest). t.rows ≤ most_rows) same.1 within.rows;
      columns = subst (λ (t : SampleRequest). t.columns ≤ 100) same.1 within.columns;
    }
