-- The certificate of a right fit is sound, within the limits, and passes.
use Rattle.std.proofs.Common.{◌≡◌, ◌≤◌, ◌*◌, ℕ, List, [], ◌∷◌, All, Option, Some, None, IfSome, get_or, length, option_map, slice_index, arith, refl, sym, ap, subst, ◌∙◌}
use Rattle.std.specs.List.{AllZip, range_with_len}
use Rattle.std.proofs.lemmas.List.{length-append, length-map}
use Rattle.std.proofs.lemmas.List.FromFn.{length-range_with_len}
use Rattle.std.proofs.lemmas.List.Elements.{All-cons, All-nil}
use Rattle.rational_laws.specs.Fraction.{Fraction, rational}
use Rattle.rational_laws.specs.Rational.{ℚ}
use Rattle.frac_core.specs.declared.frac128.Frac128.{Frac128}
use Rattle.frac_core.specs.Values.{exact, value}
use Rattle.loss_model.specs.declared.interval.Bound.{Bound}
use Rattle.loss_model.specs.declared.interval.Bound.TheVariants.{Finite, Infinite}
use Rattle.loss_model.specs.declared.interval.Beyond.{Beyond}
use Rattle.loss_model.specs.declared.interval.Beyond.TheVariants.{Outside, Ray}
use Rattle.loss_model.specs.declared.interval.End.{End}
use Rattle.loss_model.specs.declared.interval.Interval.{Interval}
use Rattle.loss_model.specs.declared.interval.IntervalProof.{IntervalProof}
use Rattle.loss_model.specs.declared.problem.Problem.{Problem}
use Rattle.loss_model.specs.declared.process.Segment.{Segment}
use Rattle.loss_model.specs.declared.vertex.Vertex.{Vertex}
use Rattle.loss_model.specs.Problem.{sample, IsWellShaped}
use Rattle.pivot_model.specs.declared.direction.Direction.{Direction}
use Rattle.pivot_model.specs.Duals.{HasCosts}
use Rattle.pivot_model.specs.Trails.{AtBasis}
use Rattle.rank_walk_model.specs.Ends.{IsEndAt, IsHandedOut}
use Rattle.rank_walk_model.specs.Intervals.{stated, statement}
use Rattle.rank_walk_model.specs.RankWalks.{Way}
use Rattle.rank_walk_model.proofs.Intervals.{conditions, stated_each}
use Rattle.rank_inversion.specs.declared.column_test.Asked.{Asked}
use Rattle.cert_text.specs.Laws.{SameContent}
use Rattle.cert_text.specs.Limits.{IsWithinLimits}
use Rattle.cert_text.specs.Trees.{cert_text}
use Rattle.cert_text.specs.declared.cert.Cert.{Cert}
use Rattle.cert_checker.specs.Intervals.{beyond_list}
use Rattle.rq_words.specs.Requests.{fit_request, rank_request}
use Rattle.rq_words.specs.declared.job.FitJob.{FitJob}
use Rattle.rq_words.specs.declared.job.RankAsk.{RankAsk}
use Rattle.rq_words.specs.declared.job.Job.TheVariants as jobs
use Rattle.rq_words.proofs.FewQuantiles.{certify_few}
use Rattle.report_text.specs.declared.report.Fit.{Fit}
use Rattle.report_text.specs.declared.report.Report.TheVariants as reports
use Rattle.rq_input.specs.declared.input.Input.{Input}
use Rattle.rq_engine.specs.Asks.{IsFitAsk}
use Rattle.rq_engine.specs.Fit.{IsRightFit, IsRightSegment}
use Rattle.rq_engine.specs.Intervals.{AreRightIntervals, IsRightInterval, asked_at, asked_by, asked_over}
use Rattle.rq_engine.proofs.Costs.{high_costs, low_costs}
use Rattle.rq_input.proofs.Lists.{zip_length}
use Rattle.rq_engine.specs.Answers.{IsCertified, IsRight}
use Rattle.rq_engine.specs.Certificates.{IsWritten}
use Rattle.rq_engine.specs.Jobs.{IsJobOf}
use Rattle.rq_engine.proofs.Asked.{asked_job}
use Rattle.run_laws.specs.Certificates.{Passes}
use Rattle.run_laws.specs.Sound.{AreCosts, AreSound, IsSound, IsSoundEnding, IsSoundInterval, IsSoundSegment}
use Rattle.run_laws.proofs.All.{all_true}
use Rattle.run_laws.proofs.Checking.{one_report, undecided}
use Rattle.run_laws.proofs.Lengths.{HasEntries, cert_long}
use Rattle.run_laws.proofs.Readable.{few_digits}

-- ---- segments

sound_segment : (p : Problem Frac128) (s : Segment) → IsRightSegment value p s → IsSoundSegment p s
sound_segment p s h = record {
  vertex = h.vertex;
  at_lo = record { size = h.at_lo.basic; dual = h.at_lo.dual; lost = h.at_lo.lost };
  at_hi = record { size = h.at_hi.basic; dual = h.at_hi.dual; lost = h.at_hi.lost };
}

-- a segment has a dual value and a coefficient, since the problem has a column
sound_entries : (p : Problem Frac128) → IsWellShaped p → (s : Segment) → IsSoundSegment p s → HasEntries s
sound_entries p shaped s h = (omega (arith, shaped.some, h.at_hi.size, h.vertex.size), omega (arith, shaped.some, h.vertex.coef))

have_entries : (c : Cert) → IsSound c → All HasEntries c.segments
have_entries c h = λ k d l. sound_entries c.problem h.segments.shaped (get_or c.segments k d) (h.segments.each k d l)

-- the costs of an input's rows, of which the problem is one
costs_of : (input : Input) (p : Problem Frac128) (theta : ℚ) → p ≡ input.problem → HasCosts (sample value input.problem) theta → AreCosts p theta
costs_of input p theta same costs =
    let h = subst (λ (q : Problem Frac128). HasCosts (sample value q) theta) (sym same) costs in
    λ i l. (h.up i l, h.down i l)

-- ---- intervals

beyond_size : (p : Problem Frac128) (way : Way) (j : ℕ) (tau bound : ℚ) (at : ℕ → ℕ) (a : ℕ → ℕ → ℚ) (t u : ℚ) (k : ℕ) (d : Direction) (v : Vertex) (inside : List Fraction) (b : Bound Fraction) (e : Beyond)
    → length v.basis.rows ≡ p.columns → IsHandedOut value p way j tau bound at a t u k d v inside b e
    → (length inside ≡ p.columns) × (length (beyond_list e) ≡ p.columns)
beyond_size p way j tau bound at a t u k d v inside (Finite x) (Outside f) size h = (h.1.size ∙ size, h.2.size ∙ size)
beyond_size p way j tau bound at a t u k d v inside Infinite (Ray r) size h = (h.0.size ∙ size, h.4)
beyond_size p way j tau bound at a t u k d v inside (Finite x) (Ray r) size h = absurd h
beyond_size p way j tau bound at a t u k d v inside Infinite (Outside f) size h = absurd h

sound_ending : (p : Problem Frac128) (way : Way) (j : ℕ) (tau bound : ℚ) (basis : List ℕ) (t : ℚ) (end : End)
    → AtBasis (sample value p) basis (λ a. IsEndAt value p way j tau bound basis a t end) → IsSoundEnding p end
sound_ending p way j tau bound basis t end at =
    let h = at.holds in
    let sizes = beyond_size p way j tau bound (slice_index basis) at.a t h.u h.k h.d end.vertex end.inside end.bound end.beyond h.vertex.shape.size h.handed in
    record { vertex = h.vertex.shape; inside = sizes.0; beyond = sizes.1 }

sound_interval : (p : Problem Frac128) (limit : ℕ) (asked : Asked Frac128) (r : Interval) → IsRightInterval value p limit asked r
    → (factors : List Fraction) → r.projection ≡ Some factors → IsSoundInterval p (stated r factors)
sound_interval p limit asked r h factors there = record {
  meets = (conditions value p r factors there h.lawful.lawful).0 h.lawful.conditions;
  projection = subst (λ (o : Option (List Fraction)). IfSome o (λ list. length list ≡ p.columns)) there h.lawful.size;
  low = sound_ending p _ _ _ _ _ _ r.low h.lawful.lawful.right.low;
  high = sound_ending p _ _ _ _ _ _ r.high h.lawful.lawful.right.high;
}

sound_intervals : (p : Problem Frac128) (limit : ℕ) (asked : List (Asked Frac128)) (rs : List Interval) (xs : List IntervalProof) → AreRightIntervals value p limit asked rs
    → AllZip (λ r x. (factors : List Fraction) × (r.projection ≡ Some factors) × (x ≡ stated r factors)) rs xs → All (IsSoundInterval p) xs
sound_intervals p limit [] [] [] h is = All-nil (IsSoundInterval p)
sound_intervals p limit asked [] (x ∷ xs) h is = absurd is
sound_intervals p limit asked (r ∷ rs) [] h is = absurd is
sound_intervals p limit [] (r ∷ rs) (x ∷ xs) h is = absurd h
sound_intervals p limit (a ∷ others) [] [] h is = absurd h
sound_intervals p limit (a ∷ others) (r ∷ rs) (x ∷ xs) h ((factors, there, same), is) =
    All-cons (IsSoundInterval p) x xs (subst (IsSoundInterval p) (sym same) (sound_interval p limit a r h.0 factors there)) (sound_intervals p limit others rs xs h.1 is)

-- how many are asked for
asked_count : (crit : Frac128) (n : ℕ) (taus : List Frac128) → n ≤ 128 → length (asked_over crit n taus) ≤ 128 * length taus
asked_count crit n [] few = omega arith
asked_count crit n (tau ∷ taus) few =
    let made : length (asked_at crit n tau) ≡ length (range_with_len 0 n) = length-map (range_with_len 0 n) _ in
    omega (arith, few, made, asked_count crit n taus few, length-append (asked_at crit n tau) (asked_over crit n taus), length-range_with_len 0 n)

module _ (words : List (List ℕ)) (job : FitJob) (asked : IsJobOf words (jobs.Certify job)) where
  few_asked : (n : ℕ) → n ≤ 128 → (rank : Option RankAsk) → job.rank ≡ rank → length (asked_by rank n) ≤ 8192
  few_asked n few None e = omega arith
  few_asked n few (Some rank) e =
      let taus = certify_few words (fit_request job) (rank_request rank) asked (ap (option_map rank_request) e) in
      omega (arith, asked_count rank.crit n rank.taus few, taus, length-map rank.taus exact)

  -- ---- the certificate of a right fit

  module _ (input : Input) (cert : Cert) (certified : IsCertified job input cert) where
    abbrev fit : Fit
    fit = certified.fit

    right : IsRightFit value job certified.fit
    right = certified.right.right

    ask : IsFitAsk job
    ask = (asked_job words (jobs.Certify job) asked).0

    are_sound : AreSound certified.fit.problem job.lo job.hi certified.fit.process.segments
    are_sound =
        let same = certified.right.under.problem_is in
        record {
          shaped = right.shaped;
          ordered = ask.ordered;
          costs_lo = costs_of input certified.fit.problem (rational (value job.lo)) same (low_costs job ask input certified.rows);
          costs_hi = costs_of input certified.fit.problem (rational (value job.hi)) same (high_costs job ask input certified.rows);
          covers = right.process.covers;
          each = λ k d l. sound_segment certified.fit.problem _ (right.process.segments k d l);
        }

    is_sound : IsSound cert
    is_sound =
        let is = certified.is in
        record {
          segments =
              subst (λ (p : Problem Frac128). AreSound p cert.lo cert.hi cert.segments) (sym is.problem)
              (subst (λ (x : Frac128). AreSound certified.fit.problem x cert.hi cert.segments) (sym is.lo)
              (subst (λ (x : Frac128). AreSound certified.fit.problem job.lo x cert.segments) (sym is.hi)
              (subst (AreSound certified.fit.problem job.lo job.hi) (sym is.segments) are_sound)));
          intervals =
              subst (λ (p : Problem Frac128). All (IsSoundInterval p) cert.intervals) (sym is.problem)
              (sound_intervals certified.fit.problem job.limit (asked_by job.rank certified.fit.problem.columns) certified.fit.intervals cert.intervals right.intervals
              (stated_each certified.fit.intervals cert.intervals is.intervals));
        }

    is_within : IsWritten cert → IsWithinLimits cert
    is_within small =
        let is = certified.is in
        let many : length cert.intervals ≡ length certified.fit.intervals
        = sym (length-map cert.intervals Some) ∙ ap length is.intervals ∙ length-map certified.fit.intervals statement in
        let zipped = zip_length (IsRightInterval value certified.fit.problem job.limit) (asked_by job.rank certified.fit.problem.columns) certified.fit.intervals right.intervals in
        record {
          columns = subst (λ (p : Problem Frac128). p.columns ≤ 128) (sym is.problem) right.shaped.columns;
          rows = subst (λ (p : Problem Frac128). length p.rows ≤ 16384) (sym is.problem) right.shaped.rows;
          segments = omega (arith, small.short, cert_long cert (have_entries cert is_sound));
          intervals = omega (arith, many, zipped, few_asked certified.fit.problem.columns right.shaped.columns job.rank refl);
          sides = small.few;
          digits = λ wide. few_digits cert small.readable;
        }

pub written : SameContent → (words : List (List ℕ)) (job : FitJob) (bytes : List ℕ) (cert : Cert) → IsJobOf words (jobs.Certify job) → IsRight (jobs.Certify job) bytes (reports.Certificate cert) → Passes cert
written same words job bytes cert asked right =
    let within = is_within words job asked right.0.0 cert right.0.2 right.1 in
    let back = right.1.back within in
    let sound = all_true cert (is_sound words job asked right.0.0 cert right.0.2) in
    record { within = within; back = back; sound = sound; report = one_report same (cert_text cert) cert back sound; halt = undecided same (cert_text cert) cert back sound }
