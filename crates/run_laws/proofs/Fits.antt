-- The fit in a report is the right one of an input, of which each record has a data row.
use Rattle.std.specs.Prelude.{◌≡◌, ℕ, List, Some, length}
use Rattle.std.proofs.Common.{refl, sym, subst}
use Rattle.frac_core.specs.declared.frac128.Frac128.{Frac128}
use Rattle.frac_core.specs.Values.{value}
use Rattle.loss_model.specs.declared.problem.Problem.{Problem}
use Rattle.loss_model.specs.Problem.{sample}
use Rattle.quantile_laws.specs.Monotonicity.{AreObservations}
use Rattle.rq_words.specs.declared.job.Job.{Job}
use Rattle.rq_words.specs.declared.job.Job.TheVariants as jobs
use Rattle.report_text.specs.declared.report.Fit.{Fit}
use Rattle.report_text.specs.declared.report.Report.{Report}
use Rattle.report_text.specs.declared.report.Report.TheVariants as reports
use Rattle.rq_input.specs.Inputs.{IsInput}
use Rattle.rq_input.specs.declared.input.Input.{Input}
use Rattle.rq_engine.specs.Fit.{IsRightFit, IsFitOf}
use Rattle.rq_engine.specs.Answers.{IsRight}
use Rattle.rq_cli.specs.Outcomes.{IsAnswered, Stream, WereRead}
use Rattle.run_laws.specs.Reports.{AskedFit, asked_fit, OnFit, IsReadFit}
use Rattle.run_laws.proofs.Rows.{observations}

-- a fit of an input that is right for the job that asks for it
pub record IsRightRead (words : List (List ℕ)) (source source' : Stream) (fit : Fit) : Type 0 where
  pub of : IsReadFit words source source' fit
  pub right : IsRightFit value of.asked.job fit

-- what holds of a right fit holds of that in a report
module _ (words : List (List ℕ)) (source source' : Stream) (P : Fit → Type 0) (holds : (fit : Fit) → IsRightRead words source source' fit → P fit) where
  one : (job : Job) (came : List ℕ) → WereRead words source source' job came → (asked : AskedFit) → asked_fit job came ≡ Some asked
      → (input : Input) → IsInput asked.job asked.ranked asked.bytes input → (fit : Fit) → IsFitOf asked.job input fit → P fit
  one job came read asked asks input is fit of =
      holds fit
      (record {
        of = record { job = job; came = came; read = read; asked = asked; asks = asks; input = input; is = is; problem_is = of.under.problem_is; data_rows = of.under.data_rows };
        right = of.right;
      })

  by : (job : Job) (came : List ℕ) (report : Report) → WereRead words source source' job came → IsRight job came report → OnFit report P
  by (jobs.Process job) came (reports.Process fit) read h = one (jobs.Process job) came read _ refl h.0 h.1 fit h.2
  by (jobs.Ranks job) came (reports.Ranks ranks) read h = one (jobs.Ranks job) came read _ refl h.0 h.1 ranks.fit h.2.fit
  by (jobs.Sample job) came (reports.Sample fit) read h = one (jobs.Sample job) came read _ refl h.0 h.1 fit h.2
  by (jobs.Certify job) came (reports.Certificate cert) read h =
      let c = h.0.2 in
      (c.fit, c.is.problem, c.is.segments, one (jobs.Certify job) came read _ refl h.0.0 h.0.1 c.fit c.right)
  by job came (reports.Checked cert) read h = tt
  by job came (reports.Test fit) read h = tt
  by job came (reports.Predict fit) read h = tt
  by job came (reports.Path fit) read h = tt
  by _ came report read h = absurd h

  pub on_fit : (report : Report) → IsAnswered words source source' report → OnFit report P
  on_fit report h = by h.job h.bytes report h.read h.right

-- the records of an input have data rows in its fit
pub records : (words : List (List ℕ)) (source source' : Stream) (fit : Fit) → IsReadFit words source source' fit → AreObservations (sample value fit.problem) fit.data_rows
records words source source' fit of =
    subst (λ n. AreObservations (sample value fit.problem) n) (sym of.data_rows)
    (subst (λ (p : Problem Frac128). AreObservations (sample value p) (length of.input.design.rows)) (sym of.problem_is) (observations of.asked.job of.is.0 of.is.2.model of.input of.is.2.is))
