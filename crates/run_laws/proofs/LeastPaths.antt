-- A printed path loses least at every lambda, and the sum of its absolute coefficients never rises.
use Rattle.std.specs.Prelude.{◌≡◌, ℕ, zero, suc, ◌<◌, List, [], ◌∷◌, Option, Some, All, length, slice_get, get_or, pos}
use Rattle.std.specs.Option.{option_map_or}
use Rattle.std.proofs.Common.{arith, subst}
use Rattle.rational_laws.specs.Fraction.{Fraction, rational}
use Rattle.rational_laws.specs.Rational.{ℚ, whole, ◌≤ℚ◌}
use Rattle.frac_core.specs.Values.{exact, value}
use Rattle.loss_model.specs.declared.process.Segment.{Segment}
use Rattle.loss_model.specs.Problem.{sample, number_at}
use Rattle.loss_model.specs.Sample.{Sample, loss, Minimises}
use Rattle.loss_model.specs.Segment.{of_segment, segments_of}
use Rattle.lambda_path.specs.Laws.{PathLoss, SumNeverRises}
use Rattle.rq_words.specs.declared.job.Job.{Job}
use Rattle.rq_words.specs.declared.job.Job.TheVariants as jobs
use Rattle.rq_words.specs.declared.job.PathJob.{PathJob}
use Rattle.report_text.specs.declared.report.PathFit.{PathFit}
use Rattle.report_text.specs.declared.report.Report.TheVariants as reports
use Rattle.rq_input.specs.Plain.{IsPlain}
use Rattle.rq_input.specs.declared.plain.PlainInput.{PlainInput}
use Rattle.rq_engine.specs.Fit.{IsRightSegment}
use Rattle.rq_engine.specs.Paths.{IsPathFitOf, first_penalised}
use Rattle.rq_engine.specs.Answers.{IsRight}
use Rattle.rq_cli.specs.Outcomes.{IsAnswered, Stream, WereRead}
use Rattle.run_laws.specs.PathReports.{IsLeastPath, LosesLeast, coefficients, loss_of}

-- what holds of all items holds at each place
pub at_place : {A : Type 0} (P : A → Type 0) (Q : Option A → Type 0) → ((x : A) → P x → Q (Some x)) → (xs : List A) → All P xs → (j : ℕ) → j < length xs → Q (slice_get xs j)
at_place P Q f [] h j l = absurd (omega (arith, l))
at_place P Q f (x ∷ xs) h zero l = f x (h 0 x (omega arith))
at_place P Q f (x ∷ xs) h (suc j) l = at_place P Q f xs (λ k d m. h (suc k) d (omega (arith, m))) j (omega (arith, l))

module _ (same : PathLoss) (never : SumNeverRises) (job : PathJob) (plain : PlainInput) (fit : PathFit) (of : IsPathFitOf job plain fit) where
  abbrev q : Sample
  q = sample value fit.problem

  same_loss : (lambda : ℚ) (b : ℕ → ℚ) → loss q lambda b ≡ loss_of job plain lambda b
  same_loss = same (sample value plain.input.problem) (first_penalised plain.intercept) (exact job.tau) q of.path

  least : All (LosesLeast job plain) fit.process.segments
  least k d l lambda other positive low high =
      let s = get_or fit.process.segments k d in
      subst (λ x. x ≤ℚ loss_of job plain (rational lambda) other) (same_loss (rational lambda) (number_at s.vertex.coef))
      (subst (λ x. loss q (rational lambda) (number_at s.vertex.coef) ≤ℚ x) (same_loss (rational lambda) other) (((of.process.segments k d l).within lambda positive low high).minimises other))

  -- what holds at an end of the segment at j
  module _ (end : Segment → Fraction) (right : (s : Segment) → IsRightSegment value fit.problem s → Minimises q (rational (end s)) (number_at s.vertex.coef)) where
    abbrev MinimisesOf : Option Segment → Type 0
    MinimisesOf o = Minimises q (option_map_or (λ s. rational (end s)) o (whole (pos 0))) (λ k. option_map_or (λ s. number_at s.vertex.coef k) o (whole (pos 0)))

    at_end : (j : ℕ) → j < length fit.process.segments → Minimises q (of_segment fit.process.segments (λ s. rational (end s)) j) (coefficients job plain fit.process.segments j)
    at_end j l = at_place (IsRightSegment value fit.problem) MinimisesOf right fit.process.segments of.process.segments j l

  pub least_path : IsLeastPath job plain fit
  least_path = record {
    least = least;
    falls = never (sample value plain.input.problem) (first_penalised plain.intercept) (exact job.tau) q of.path _ _ _ (segments_of value fit.problem fit.process.segments)
        (coefficients job plain fit.process.segments) of.process.covers (at_end (λ s. s.lo) (λ s right. right.at_lo.minimises)) (at_end (λ s. s.hi) (λ s right. right.at_hi.minimises));
  }

module _ (same : PathLoss) (never : SumNeverRises) (words : List (List ℕ)) (source source' : Stream) (fit : PathFit) where
  pub path_least : IsAnswered words source source' (reports.Path fit)
      → (job : PathJob) × (bytes : List ℕ) × (plain : PlainInput) × WereRead words source source' (jobs.Path job) bytes × IsPlain job.fit bytes plain × IsLeastPath job plain fit
  path_least h = by h.job h.read h.right
    where
      by : (job : Job) → WereRead words source source' job h.bytes → IsRight job h.bytes (reports.Path fit)
          → (job : PathJob) × (bytes : List ℕ) × (plain : PlainInput) × WereRead words source source' (jobs.Path job) bytes × IsPlain job.fit bytes plain × IsLeastPath job plain fit
      by (jobs.Path job) read right = (job, h.bytes, right.0, read, right.1, least_path same never job right.0 fit right.2)
      by job read right = absurd right
