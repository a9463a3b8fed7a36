-- Every segment of a report has dual values at both ends, and so has what these show.
use Rattle.std.specs.Prelude.{ℕ, List, All, get_or}
use Rattle.std.proofs.Common.{sym, subst}
use Rattle.std.proofs.lemmas.Option.{slice_get-get_or}
use Rattle.frac_core.specs.declared.frac128.Frac128.{Frac128}
use Rattle.frac_core.specs.Values.{value}
use Rattle.loss_model.specs.declared.problem.Problem.{Problem}
use Rattle.loss_model.specs.declared.process.Segment.{Segment}
use Rattle.loss_model.specs.Dual.{IsDual}
use Rattle.loss_model.specs.Problem.{sample, number_at}
use Rattle.loss_model.specs.Segment.{dual_at}
use Rattle.cert_text.specs.declared.cert.Cert.{Cert}
use Rattle.rq_words.specs.declared.job.Job.{Job}
use Rattle.rq_words.specs.declared.job.Job.TheVariants as jobs
use Rattle.rq_words.specs.declared.job.FitJob.{FitJob}
use Rattle.report_text.specs.declared.report.Report.{Report}
use Rattle.report_text.specs.declared.report.Report.TheVariants as reports
use Rattle.rq_input.specs.declared.input.Input.{Input}
use Rattle.rq_engine.specs.Fit.{IsRightSegment}
use Rattle.rq_engine.specs.Answers.{IsRight, IsCertified}
use Rattle.rq_engine.specs.Checks.{IsCheckedOf}
use Rattle.rq_cli.specs.Outcomes.{IsAnswered, Stream}
use Rattle.run_laws.specs.Reports.{printed, OnSegments, HasSegments}

-- dual values of equal cost at both ends
pub record IsShown (p : Problem Frac128) (s : Segment) : Type 0 where
  pub lo : IsDual (sample value p) (printed s.lo) (number_at s.vertex.coef) (dual_at value p s.vertex s.basic_lo s.lo)
  pub hi : IsDual (sample value p) (printed s.hi) (number_at s.vertex.coef) (dual_at value p s.vertex s.basic_hi s.hi)

module _ (P : Problem Frac128 → Segment → Type 0) (by_duals : (p : Problem Frac128) (s : Segment) → IsShown p s → P p s) where
  all_right : (p : Problem Frac128) (segments : List Segment) → All (IsRightSegment value p) segments → All (P p) segments
  all_right p segments right k d l =
      let at = right k d l in
      by_duals p (get_or segments k d) (record { lo = at.at_lo.dual; hi = at.at_hi.dual })

  -- those of a certificate that is written
  certified : (job : FitJob) (input : Input) (cert : Cert) → IsCertified job input cert → All (P cert.problem) cert.segments
  certified job input cert h =
      subst (λ (xs : List Segment). All (P cert.problem) xs) (sym h.is.segments)
      (subst (λ (p : Problem Frac128). All (P p) h.fit.process.segments) (sym h.is.problem) (all_right h.fit.problem h.fit.process.segments h.right.right.process.segments))

  -- and of one that is accepted
  checked : (bytes : List ℕ) (cert : Cert) → IsCheckedOf bytes cert → All (P cert.problem) cert.segments
  checked bytes cert h k d l =
      let s = get_or cert.segments k d in
      let there = slice_get-get_or cert.segments k d l in
      let shown = h.accepted.1 in
      by_duals cert.problem s (record { lo = shown.dual_lo k s there; hi = shown.dual_hi k s there })

  right_segments : (job : Job) (bytes : List ℕ) (report : Report) → IsRight job bytes report → OnSegments P job bytes report
  right_segments (jobs.Process job) bytes (reports.Process fit) h = all_right fit.problem fit.process.segments h.2.right.process.segments
  right_segments (jobs.Ranks job) bytes (reports.Ranks ranks) h = all_right ranks.fit.problem ranks.fit.process.segments h.2.fit.right.process.segments
  right_segments (jobs.Certify job) bytes (reports.Certificate cert) h = certified job h.0.0 cert h.0.2
  right_segments jobs.Check bytes (reports.Checked cert) h = checked bytes cert h
  right_segments (jobs.Test job) bytes (reports.Test fit) h = (h.0, h.1, all_right _ fit.process.segments h.2.scored.process.segments)
  right_segments (jobs.Predict job) bytes (reports.Predict fit) h = (h.0, h.1, all_right h.0.input.problem fit.process.segments h.2.process.segments)
  right_segments (jobs.Path job) bytes (reports.Path fit) h = all_right fit.problem fit.process.segments h.2.process.segments
  right_segments (jobs.Sample job) bytes (reports.Sample fit) h = all_right fit.problem fit.process.segments h.2.right.process.segments
  right_segments _ bytes report h = absurd h

  pub on_segments : (words : List (List ℕ)) (source source' : Stream) (report : Report) → IsAnswered words source source' report → HasSegments words source source' report P
  on_segments words source source' report h =
      record { job = h.job; bytes = h.bytes; read = h.read; segments = right_segments h.job h.bytes report h.right }
