-- Words ask for intervals at 64 quantiles at most.
use Rattle.std.proofs.Common.{◌≡◌, ℕ, ◌==◌, ◌≤◌, Bool, true, false, List, [], ◌∷◌, Option, Some, None, Ok, refl, sym, ap, subst, suc, codes, length, nat_le, if◌then◌else◌, option_and_then, option_map, ok_or, arith}
use Rattle.std.specs.List.{slice_split}
use Rattle.std.specs.Option.{option_map_or}
use Rattle.std.proofs.lemmas.Bool.{leb-true}
use Rattle.clap.specs.Words.{Row, Text, first_of}
use Rattle.rational_laws.specs.Rational.{ℚ}
use Rattle.contrasts.specs.declared.Coding.{Coding}
use Rattle.rq_words.specs.Requests.{FitRequest, OptionNumbers, RankRequest, Request}
use Rattle.rq_words.specs.Requests as request
use Rattle.rq_words.specs.Words.{number_text, all_read, joined, quantiles, given, request_for, words_of}
use Rattle.rq_words.specs.declared.command.Kind.{Kind}
use Rattle.rq_words.specs.declared.command.Kind.TheVariants as kind
use Rattle.rq_words.specs.declared.job.WordFault.{WordFault}
use Rattle.rq_words.specs.declared.job.WordFault.TheVariants.{BadNumber}
use Rattle.rq_words.proofs.Requested.{requested, numbers_read}

-- a list of quantiles, if there is one
abbrev AreFew : Option (List ℚ) → Type 0
AreFew None = Unit {0}
AreFew (Some xs) = length xs ≤ 64

-- ---- the text of the option

pair_ok : {X : Type 0} (o : Option X) (more : Option (List X)) (xs : List X) → option_and_then (λ x. option_map (λ ys. x ∷ ys) more) o ≡ Some xs → (ys : List X) × (more ≡ Some ys) × (length xs ≡ suc (length ys))
pair_ok None more xs h = absurd (cc h)
pair_ok (Some x) None xs h = absurd (cc h)
pair_ok (Some x) (Some ys) xs h = let is : x ∷ ys ≡ xs = cc h in (ys, refl, sym (ap length is))

pub texts_length : {X : Type 0} (read : Text → Option X) (texts : List Text) (xs : List X) → all_read read texts ≡ Some xs → length xs ≡ length texts
unfolding all_read
texts_length read [] xs h = let is : [] ≡ xs = cc h in sym (ap length is)
texts_length read (text ∷ rest) xs h =
    let parts = pair_ok (read text) (all_read read rest) xs h in
    let tail = texts_length read rest parts.0 parts.1 in
    omega (arith, parts.2, tail)

few_by : {X : Type 0} (b : Bool) (o : Option (List X)) (xs : List X) → (if b then o else None) ≡ Some xs → (b ≡ true) × (o ≡ Some xs)
few_by true o xs h = (refl, h)
few_by false o xs h = absurd (cc h)

-- so many texts have so many values
pub joined_few : {X : Type 0} (most : ℕ) (read : Text → Option X) (text : Text) (xs : List X) → joined most read text ≡ Some xs
    → (length xs ≤ most) × (all_read read (slice_split (λ b. b == 44) text) ≡ Some xs)
unfolding joined
joined_few most read text xs h =
    let pieces = slice_split (λ b. b == 44) text in
    let found = few_by (nat_le (length pieces) most) (all_read read pieces) xs h in
    (omega (arith, leb-true (length pieces) most found.0, texts_length read pieces xs found.1), found.1)

given_few : (o : Option (List ℚ)) (r : Option (List ℚ)) (fault : WordFault) → ((xs : List ℚ) → o ≡ Some xs → length xs ≤ 64) → ok_or (option_map (λ xs. Some xs) o) fault ≡ Ok r → AreFew r
given_few (Some xs) r fault few h = let is : Some xs ≡ r = cc h in subst AreFew is (few xs refl)
given_few None r fault few h = absurd (cc h)

option_few : (o : Option Text) (r : Option (List ℚ)) (fault : WordFault) → option_map_or (λ text. ok_or (given quantiles text) fault) o (Ok None) ≡ Ok r → AreFew r
option_few None r fault h = let is : None ≡ r = cc h in subst AreFew is tt
option_few (Some text) r fault h = given_few (quantiles text) r fault (λ xs e. (joined_few 64 number_text text xs e).0) h

-- ---- the request

abbrev IsFewOf : Option RankRequest → Type 0
IsFewOf None = Unit {0}
IsFewOf (Some r) = length r.taus ≤ 64

rank_few : (crit : Option ℚ) (taus : Option (List ℚ)) → AreFew taus → IsFewOf (option_and_then (λ (crit : ℚ). option_map (λ (taus : List ℚ). record { crit = crit; taus = taus }) taus) crit)
rank_few None taus h = tt
rank_few (Some crit) None h = tt
rank_few (Some crit) (Some taus) h = h

-- the intervals of a certificate that is asked for
abbrev HasFew : Request → Type 0
HasFew (request.Certify f) = IsFewOf f.rank
HasFew other = Unit {0}

request_few : (kind : Kind) (found : List Row) (n : OptionNumbers) (chosen : Coding) → AreFew n.taus → HasFew (request_for kind found n chosen)
request_few kind.Certify found n chosen h = rank_few n.crit n.taus h
request_few other found n chosen h = tt

words_few : (words : List Text) (r : Request) → words_of words ≡ Ok r → HasFew r
words_few words r h =
    let a = requested words r h in
    let few = option_few (first_of (codes "rank-at") a.found) a.numbers.taus (BadNumber (codes "rank-at")) (numbers_read a.found a.numbers a.counted).taus in
    subst HasFew a.is (request_few a.kind a.found a.numbers a.chosen few)

pub certify_few : (words : List Text) (f : FitRequest) (r : RankRequest) → words_of words ≡ Ok (request.Certify f) → f.rank ≡ Some r → length r.taus ≤ 64
certify_few words f r h e = subst IsFewOf e (words_few words (request.Certify f) h)
