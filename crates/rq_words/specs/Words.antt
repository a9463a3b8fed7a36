-- Stated. The request of a list of words, or its first fault.
use Rattle.std.specs.Prelude.{ℕ, ◌+◌, ◌-◌, ◌^◌, ◌==◌, ◌&&◌, ◌||◌, not, Bool, true, false, List, [], ◌∷◌, Option, Some}
use Rattle.std.specs.Prelude.{None, Result, Ok, Err, pos, codes, drop, length, map, nat_le, is_some, if◌then◌else◌, option_and_then, option_map, ok_or}
use Rattle.std.specs.List.{slice_split, list_any}
use Rattle.std.specs.Option.{option_map_or}
use Rattle.std.specs.Result.{result_ok}
use Rattle.std.specs.Str.{bytes_eq}
use Rattle.std.specs.Str.Parse.{digits_value}
use Rattle.clap.specs.Words.{Row, Text, first_of}
use Rattle.rational_laws.specs.Rational.{ℚ, le_ℚ, whole}
use Rattle.frac_core.specs.NumberText.{are_digits, number_of}
use Rattle.frac_core.specs.Limits.{most_rows}
use Rattle.contrasts.specs.declared.Coding.{Coding}
use Rattle.contrasts.specs.declared.Coding.TheVariants.{Treatment, Sas, Sum, Helmert}
use Rattle.rq_words.specs.Commands.{found_in, kind_of}
use Rattle.rq_words.specs.Requests.{FitRequest, OptionNumbers, PathRequest, RankRequest, Request, SampleRequest, TestRequest}
use Rattle.rq_words.specs.Requests as request
use Rattle.rq_words.specs.declared.command.Kind.{Kind}
use Rattle.rq_words.specs.declared.command.Kind.TheVariants as kind
use Rattle.rq_words.specs.declared.job.WordFault.{WordFault}
use Rattle.rq_words.specs.declared.job.WordFault.TheVariants.{NoJob, UnknownJob, BadOption, BadNumber, BadContrasts}
use Rattle.rq_words.specs.declared.job.WordFault.TheVariants.{BadRange, RankHalf, BadTauForRank, NegativeLimit, NotAscending}

-- a step that may find a fault, and the next one
infixl 10 ◌>>=◌
abbrev pub ◌>>=◌ : {A B : Type 0} → Result A WordFault → (A → Result B WordFault) → Result B WordFault
(Ok x) >>= next = next x
(Err fault) >>= next = Err fault

-- 0
abbrev pub zero : ℚ
zero = whole (pos 0)

-- 1
abbrev pub one : ℚ
one = whole (pos 1)

-- ---- the texts of options

-- a number text within the range of 128 bits
unfoldable pub number_text : Text → Option ℚ
number_text text = result_ok (number_of (2 ^ 127 - 1) text)

-- texts one by one, all of which must read
unfoldable pub all_read : {X : Type 0} → (Text → Option X) → List Text → Option (List X)
all_read read [] = Some []
all_read read (text ∷ rest) = option_and_then (λ x. option_map (λ xs. x ∷ xs) (all_read read rest)) (read text)

-- 1 to `most` such texts with single commas between them
unfoldable pub joined : {X : Type 0} → ℕ → (Text → Option X) → Text → Option (List X)
joined most read text =
    let pieces = slice_split (λ b. b == 44) text in
    if nat_le (length pieces) most then all_read read pieces else None

-- 1 to 64 number texts with single commas between them
abbrev pub quantiles : Text → Option (List ℚ)
quantiles text = joined 64 number_text text

-- 1 to `places` digits
abbrev pub has_digits : ℕ → Text → Bool
has_digits places text = nat_le (length text) places && are_digits text

-- such digits of a number from `least` to `most`
unfoldable pub count : ℕ → ℕ → ℕ → Text → Option ℕ
count places least most text =
    let n = digits_value 10 text in
    if has_digits places text && nat_le least n && nat_le n most then Some n else None

-- 1 to 128 numbers of 1 to 3 digits with single commas between them
abbrev pub column_numbers : Text → Option (List ℕ)
column_numbers text = joined 128 (count 3 0 999) text

-- the contrasts of a name
unfoldable pub coding : Text → Option Coding
coding text = if bytes_eq text (codes "treatment") then Some Treatment
    else if bytes_eq text (codes "sas") then Some Sas
    else if bytes_eq text (codes "sum") then Some Sum
    else if bytes_eq text (codes "helmert") then Some Helmert else None

-- ---- the checks, in their order

-- what an option's text reads as, `other` where the option isn't given
abbrev pub option : {X : Type 0} → WordFault → List Row → Text → X → (Text → Option X) → Result X WordFault
option fault found name other read = option_map_or (λ text. ok_or (read text) fault) (first_of name found) (Ok other)

-- the same of an option that is a number
abbrev pub number_option : {X : Type 0} → List Row → Text → X → (Text → Option X) → Result X WordFault
number_option found name other read = option (BadNumber name) found name other read

-- a text that is read where it is given
abbrev pub given : {X : Type 0} → (Text → Option X) → Text → Option (Option X)
given read text = option_map (λ x. Some x) (read text)

-- the numbers of the options in the order in which they are read, or the first that can't be
unfoldable pub numbers_of : List Row → Result OptionNumbers WordFault
numbers_of found =
    number_option found (codes "lo") zero number_text >>= (λ lo.
    number_option found (codes "hi") one number_text >>= (λ hi.
    number_option found (codes "crit") None (given number_text) >>= (λ crit.
    number_option found (codes "rank-at") None (given quantiles) >>= (λ taus.
    number_option found (codes "pivots") 100000 (count 8 0 10000000) >>= (λ limit.
    number_option found (codes "number") 0 (count 10 0 (2 ^ 32 - 1)) >>= (λ number.
    number_option found (codes "rows") 0 (count 5 1 most_rows) >>= (λ rows.
    number_option found (codes "columns") 0 (count 3 1 100) >>= (λ columns.
    number_option found (codes "tested") [] column_numbers >>= (λ tested.
    number_option found (codes "tau") zero number_text >>= (λ tau.
    Ok (record {
      lo = lo;
      hi = hi;
      crit = crit;
      taus = taus;
      limit = limit;
      number = number;
      rows = rows;
      columns = columns;
      tested = tested;
      tau = tau;
    })))))))))))

-- 0 is at most lo, lo at most hi, and hi at most 1
abbrev pub is_in_order : ℚ → ℚ → Bool
is_in_order lo hi = le_ℚ zero lo && le_ℚ lo hi && le_ℚ hi one

-- tau lies in 0 to 1, 0 is below lo, and lo at most hi
abbrev pub is_lambda_range : ℚ → ℚ → ℚ → Bool
is_lambda_range tau lo hi = le_ℚ zero tau && le_ℚ tau one && not (le_ℚ lo zero) && le_ℚ lo hi

-- the range of the job is one of lambda, as a path's is
abbrev pub is_over_lambda : Kind → Bool
is_over_lambda kind.Path = true
is_over_lambda _ = false

-- the range is in order, as the job wants it
abbrev pub has_range : Kind → OptionNumbers → Bool
has_range kind n = if is_over_lambda kind then is_lambda_range n.tau n.lo n.hi else is_in_order n.lo n.hi

-- both are there, or neither
abbrev pub are_alike : Bool → Bool → Bool
are_alike true b = b
are_alike false b = not b

-- not strictly between 0 and 1
abbrev pub is_outside : ℚ → Bool
is_outside tau = le_ℚ tau zero || le_ℚ one tau

-- the numbers ascend, from `least` on
abbrev pub ascends_from : ℕ → List ℕ → Bool
ascends_from least [] = true
ascends_from least (x ∷ xs) = nat_le least x && ascends_from (x + 1) xs

-- each number is below the next
abbrev pub ascends : List ℕ → Bool
ascends xs = ascends_from 0 xs

-- what is wrong with the numbers of a job, if anything is
unfoldable pub fault_of : Kind → OptionNumbers → Option WordFault
fault_of kind n =
    if not (has_range kind n) then Some BadRange
    else if not (are_alike (is_some n.crit) (is_some n.taus)) then Some RankHalf
    else if option_map_or (list_any is_outside) n.taus false then Some BadTauForRank
    else if option_map_or (λ crit. not (le_ℚ zero crit)) n.crit false then Some NegativeLimit
    else if not (ascends n.tested) then Some NotAscending
    else None

-- ---- the request

-- the rank intervals that are asked for, where both options stand
abbrev pub rank_of : OptionNumbers → Option RankRequest
rank_of n = option_and_then (λ crit. option_map (λ taus. record { crit = crit; taus = taus }) n.taus) n.crit

-- the text of an option
abbrev pub text_or_empty : Option Text → Text
text_or_empty None = []
text_or_empty (Some text) = text

-- the fit of these options
abbrev pub fit : List Row → OptionNumbers → Coding → FitRequest
fit found n coding = record {
  formula = text_or_empty (first_of (codes "formula") found);
  lo = n.lo;
  hi = n.hi;
  weights = first_of (codes "weights") found;
  coding = coding;
  limit = n.limit;
  rank = rank_of n;
}

-- the generated table of these numbers
abbrev pub sample : OptionNumbers → SampleRequest
sample n = record {
  number = n.number;
  rows = n.rows;
  columns = n.columns;
  lo = n.lo;
  hi = n.hi;
  limit = n.limit;
}

-- the same numbers over the range 0 to 1
abbrev pub over_all : OptionNumbers → OptionNumbers
over_all n = record n { lo = zero; hi = one }

-- the same numbers without rank intervals
abbrev pub unranked : OptionNumbers → OptionNumbers
unranked n = record n { crit = None; taus = None }

-- the column of a number that counts from 1; of the number 0, which is none, the greatest number of 32 bits
abbrev pub column_of : ℕ → ℕ
column_of n = if n == 0 then 2 ^ 32 - 1 else n - 1

-- the test of these options
abbrev pub test : List Row → OptionNumbers → Coding → TestRequest
test found n coding = record { fit = fit found (over_all (unranked n)) coding; tested = map column_of n.tested }

-- the path of these options
abbrev pub path : List Row → OptionNumbers → Coding → PathRequest
path found n coding = record { fit = fit found (unranked n) coding; tau = n.tau }

-- the request of a job with these options; ranks and a test are taken over 0 to 1
abbrev pub request_for : Kind → List Row → OptionNumbers → Coding → Request
request_for kind.Process found n coding = request.Process (fit found n coding)
request_for kind.Ranks found n coding = request.Ranks (fit found (over_all n) coding)
request_for kind.Certify found n coding = request.Certify (fit found n coding)
request_for kind.Check found n coding = request.Check
request_for kind.Sample found n coding = request.Sample (sample n)
request_for kind.Test found n coding = request.Test (test found n coding)
request_for kind.Predict found n coding = request.Predict (fit found (unranked n) coding)
request_for kind.Path found n coding = request.Path (path found n coding)

-- the request of a job's options
unfoldable pub checked : Kind → List Row → Result Request WordFault
checked kind found =
    numbers_of found >>= (λ n.
    option BadContrasts found (codes "contrasts") Treatment coding >>= (λ coding.
    option_map_or (λ fault. Err fault) (fault_of kind n) (Ok (request_for kind found n coding))))

-- a word of 2^31 bytes or more
abbrev pub is_long : Text → Bool
is_long word = nat_le (2 ^ 31) (length word)

-- the request of a job's words, the first of which is the job
unfoldable pub words_of_job : Kind → List Text → Result Request WordFault
words_of_job kind words = if list_any is_long (drop 1 words) then Err BadOption
    else option_map_or (checked kind) (found_in kind words) (Err BadOption)

-- the request of the words after the program's name
unfoldable pub words_of : List Text → Result Request WordFault
words_of [] = Err NoJob
words_of (job ∷ rest) = option_map_or (λ kind. words_of_job kind (job ∷ rest)) (kind_of job) (Err UnknownJob)
