-- What words ask of rank intervals: a critical value of at least 0, and quantiles of which none is outside 0 to 1.
use Rattle.std.proofs.Common.{◌≡◌, Bool, true, false, not, List, Option, Some, None, Ok, refl, sym, subst, if◌then◌else◌, option_map, option_and_then}
use Rattle.std.specs.List.{list_any}
use Rattle.std.specs.Option.{option_map_or}
use Rattle.std.proofs.lemmas.Bool.{not-false}
use Rattle.clap.specs.Words.{Text}
use Rattle.rational_laws.specs.Rational.{ℚ, le_ℚ}
use Rattle.rq_words.specs.Requests.{FitRequest, OptionNumbers, RankRequest, Request, TestRequest}
use Rattle.rq_words.specs.Requests as request
use Rattle.rq_words.specs.Words.{zero, has_range, is_outside, ascends, fault_of, rank_of, words_of}
use Rattle.rq_words.specs.declared.command.Kind.{Kind}
use Rattle.rq_words.specs.declared.job.WordFault.{WordFault}
use Rattle.rq_words.specs.declared.job.WordFault.TheVariants.{BadRange, BadTauForRank, NegativeLimit, NotAscending, RankHalf}
use Rattle.rq_words.proofs.Requested.{requested}
use Rattle.rq_words.proofs.Parts.{IsFitOf, IsSound, IsSoundOf, IsUnranked, request_unranked, same_rank}

-- a test that finds no fault fails, and so do those behind it
untold : (b : Bool) (fault : WordFault) (rest : Option WordFault) → (if b then Some fault else rest) ≡ None → (b ≡ false) × (rest ≡ None)
untold true fault rest h = absurd (cc h)
untold false fault rest h = (refl, h)

-- ---- the request

-- of the numbers of the options
pub record AreSound (n : OptionNumbers) : Type 0 where
  pub taus : option_map_or (list_any is_outside) n.taus false ≡ false
  pub crit : option_map_or (λ crit. not (le_ℚ zero crit)) n.crit false ≡ false
  pub tested : ascends n.tested ≡ true

pub are_sound : (kind : Kind) (n : OptionNumbers) → fault_of kind n ≡ None → AreSound n
unfolding fault_of
are_sound kind n h =
    let range = untold (not (has_range kind n)) BadRange _ h in
    let half = untold _ RankHalf _ range.1 in
    let taus = untold (option_map_or (list_any is_outside) n.taus false) BadTauForRank _ half.1 in
    let crit = untold (option_map_or (λ crit. not (le_ℚ zero crit)) n.crit false) NegativeLimit _ taus.1 in
    let tested = untold (not (ascends n.tested)) NotAscending None crit.1 in
    record { taus = taus.0; crit = crit.0; tested = not-false (ascends n.tested) tested.0 }

sound_by : (crit : Option ℚ) (taus : Option (List ℚ)) → option_map_or (list_any is_outside) taus false ≡ false → option_map_or (λ crit. not (le_ℚ zero crit)) crit false ≡ false
    → (r : RankRequest) → option_and_then (λ (crit : ℚ). option_map (λ (taus : List ℚ). record { crit = crit; taus = taus }) taus) crit ≡ Some r → IsSound r
sound_by None taus inner sign r h = absurd (cc h)
sound_by (Some crit) None inner sign r h = absurd (cc h)
sound_by (Some crit) (Some taus) inner sign r h =
    let is : record { crit = crit; taus = taus } ≡ r = cc h in
    subst IsSound is (record { crit = record { le = not-false (le_ℚ zero crit) sign }; taus = inner })

sound_of : (kind : Kind) (n : OptionNumbers) → fault_of kind n ≡ None → (o : Option RankRequest) → rank_of n ≡ o → IsSoundOf o
sound_of kind n h None e = tt
sound_of kind n h (Some r) e = let sound = are_sound kind n h in sound_by n.crit n.taus sound.taus sound.crit r e

-- so is what the words ask for
pub words_sound : (r : Request) (f : FitRequest) → IsFitOf r f → (words : List Text) → words_of words ≡ Ok r → IsSoundOf f.rank
words_sound r f is words h =
    let a = requested words r h in
    same_rank a.kind a.found a.numbers a.chosen f (subst (λ r. IsFitOf r f) (sym a.is) is) (sound_of a.kind a.numbers a.sound (rank_of a.numbers) refl)

-- ---- jobs without rank intervals

words_unranked : (words : List Text) (r : Request) → words_of words ≡ Ok r → IsUnranked r
words_unranked words r h =
    let a = requested words r h in
    subst IsUnranked a.is (request_unranked a.kind a.found a.numbers a.chosen)

-- nor does a test
pub test_unranked : (words : List Text) (t : TestRequest) → words_of words ≡ Ok (request.Test t) → t.fit.rank ≡ None
test_unranked words t h = words_unranked words (request.Test t) h
