-- What words say of the job that they ask for, where it fits a table: its formula is short, its range lies in 0 to 1 and
-- is that for ranks, and it asks for rank intervals with a critical value of at least 0 at quantiles strictly between 0
-- and 1. A generated table is no larger than tables that are made.
use Rattle.std.proofs.Common.{◌≡◌, ℕ, ◌<◌, ◌^◌, false, All, List, [], ◌∷◌, Option, Some, None, length, map, option_map, refl}
use Rattle.std.specs.Prelude.{⊤}
use Rattle.std.specs.List.{list_any}
use Rattle.std.proofs.lemmas.List.Elements.{All-cons, All-nil}
use Rattle.std.proofs.lemmas.Bool.{or_parts}
use Rattle.rational_laws.specs.Fraction.{rational}
use Rattle.rational_laws.specs.Rational.{ℚ, le_ℚ}
use Rattle.frac_core.specs.declared.frac128.Frac128.{Frac128}
use Rattle.frac_core.specs.Values.{exact, value}
use Rattle.rq_words.specs.Requests.{fit_request, path_request, rank_request, sample_request, test_request}
use Rattle.rq_words.specs.Requests as request
use Rattle.rq_words.specs.Words.{zero, one, is_outside}
use Rattle.rq_words.specs.declared.job.Job.{Job}
use Rattle.rq_words.specs.declared.job.Job.TheVariants.{Process, Ranks, Certify, Check, Test, Predict, Path, Sample}
use Rattle.rq_words.specs.declared.job.RankAsk.{RankAsk}
use Rattle.rq_words.proofs.Orders.{path_range_of, range_of, words_in_order, words_over_all}
use Rattle.rq_words.proofs.Parts.{IsSoundOf}
use Rattle.rq_words.proofs.RankRequests.{test_unranked, words_sound}
use Rattle.rq_words.proofs.Samples.{words_sample}
use Rattle.rq_words.proofs.ShortWords.{request_formula}
use Rattle.rq_words.proofs.TestedColumns.{test_ascending}
use Rattle.rq_engine.specs.Asks.{IsFitAsk, IsInner, IsPathAsk, IsRankAskOf, IsTestAsk, IsUnitAsk}
use Rattle.rq_engine.specs.Jobs.{IsJobOf, sample_fit}
use Rattle.rq_engine.specs.SampleAsks.{IsSampleAsk}

inner_by : (tau : ℚ) → is_outside tau ≡ false → IsInner tau
inner_by tau h =
    let both = or_parts (le_ℚ tau zero) (le_ℚ one tau) h in
    (λ low. absurd (cc (low.le, both.0)), λ high. absurd (cc (high.le, both.1)))

all_inner : (taus : List Frac128) → list_any is_outside (map exact taus) ≡ false → All (λ tau. IsInner (rational (value tau))) taus
all_inner [] h = All-nil (λ tau. IsInner (rational (value tau)))
all_inner (tau ∷ taus) h =
    let both = or_parts (is_outside (exact tau)) (list_any is_outside (map exact taus)) h in
    All-cons (λ tau. IsInner (rational (value tau))) tau taus (inner_by (exact tau) both.0) (all_inner taus both.1)

rank_by : (rank : Option RankAsk) → IsSoundOf (option_map rank_request rank) → IsRankAskOf rank
rank_by None h = tt
rank_by (Some rank) h = record { crit = h.crit; taus = all_inner rank.taus h.taus }

none_by : (rank : Option RankAsk) → option_map rank_request rank ≡ None → IsRankAskOf rank
none_by None h = tt
none_by (Some rank) h = absurd (cc h)

-- what is known of a job that words ask for
abbrev pub IsAskedJob : Job → Type 0
IsAskedJob (Process fit) = IsFitAsk fit × (length fit.formula < 2 ^ 31)
IsAskedJob (Ranks fit) = IsUnitAsk fit × (length fit.formula < 2 ^ 31)
IsAskedJob (Certify fit) = IsFitAsk fit × (length fit.formula < 2 ^ 31)
IsAskedJob Check = ⊤
IsAskedJob (Test job) = IsTestAsk job × (length job.fit.formula < 2 ^ 31)
IsAskedJob (Predict fit) = IsFitAsk fit × (length fit.formula < 2 ^ 31)
IsAskedJob (Path job) = IsPathAsk job × (length job.fit.formula < 2 ^ 31)
IsAskedJob (Sample sample) = IsSampleAsk sample

pub asked_job : (words : List (List ℕ)) (job : Job) → IsJobOf words job → IsAskedJob job
asked_job words (Process fit) asked =
    let f = fit_request fit in
    let range = range_of f.lo f.hi (words_in_order words (request.Process f) asked) in
    let rank = rank_by fit.rank (words_sound (request.Process f) f refl words asked) in
    (record { low = range.0; ordered = range.1; high = range.2; rank = rank }, request_formula words (request.Process f) asked)
asked_job words (Ranks fit) asked =
    let f = fit_request fit in
    let range = words_over_all words (request.Ranks f) asked in
    let rank = rank_by fit.rank (words_sound (request.Ranks f) f refl words asked) in
    (record { low = range.0; high = range.1; rank = rank }, request_formula words (request.Ranks f) asked)
asked_job words (Certify fit) asked =
    let f = fit_request fit in
    let range = range_of f.lo f.hi (words_in_order words (request.Certify f) asked) in
    let rank = rank_by fit.rank (words_sound (request.Certify f) f refl words asked) in
    (record { low = range.0; ordered = range.1; high = range.2; rank = rank }, request_formula words (request.Certify f) asked)
asked_job words Check asked = tt
asked_job words (Test job) asked =
    let t = test_request job in
    let range = words_over_all words (request.Test t) asked in
    (record { unit = record { low = range.0; high = range.1; rank = none_by job.fit.rank (test_unranked words t asked) }; ascending = test_ascending words t asked }, request_formula words (request.Test t) asked)
asked_job words (Predict fit) asked =
    let f = fit_request fit in
    let range = range_of f.lo f.hi (words_in_order words (request.Predict f) asked) in
    let rank = rank_by fit.rank (words_sound (request.Predict f) f refl words asked) in
    (record { low = range.0; ordered = range.1; high = range.2; rank = rank }, request_formula words (request.Predict f) asked)
asked_job words (Path job) asked =
    let p = path_request job in
    let range = path_range_of p (words_in_order words (request.Path p) asked) in
    (record { low = range.low; ordered = range.ordered; tau_low = range.tau_low; tau_high = range.tau_high }, request_formula words (request.Path p) asked)
asked_job words (Sample sample) asked =
    let sound = words_sample (sample_request sample) words asked in
    let ask : IsFitAsk (sample_fit sample) = record { low = sound.range.0; ordered = sound.range.1; high = sound.range.2; rank = tt } in
    record { ask = ask; rows = sound.rows; columns = sound.columns }
