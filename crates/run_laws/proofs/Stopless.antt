-- Where there is neither a report nor a stop of a fit, the outcome is one of the others.
use Rattle.std.specs.Prelude.{ℕ, List}
use Rattle.rational_laws.specs.Fraction.{Fraction}
use Rattle.frac_core.specs.declared.frac128.Frac128.{Frac128}
use Rattle.loss_model.specs.declared.process.Trail.{Trail}
use Rattle.loss_model.specs.declared.spill.Spill.{Spill}
use Rattle.report_text.specs.declared.report.Place.{Place}
use Rattle.report_text.specs.declared.report.Refusal.TheVariants as refusals
use Rattle.report_text.specs.declared.report.Report.{Report}
use Rattle.report_text.specs.declared.report.Halt.TheVariants as halts
use Rattle.rq_cli.specs.Outcomes.{Stream, IsRun, IsAnswered, IsHalted}
use Rattle.rq_cli.specs.declared.outcome.Outcome.{Outcome}
use Rattle.rq_cli.specs.declared.outcome.Outcome.TheVariants.{Done, Refused, PivotLimit, Overflow}
use Rattle.run_laws.specs.Completeness.{IsUnposed}

module _ (words : List (List ℕ)) (source source' : Stream)
    (reported : (report : Report) → IsAnswered words source source' report → ⊥)
    (dependent : (combination : List Fraction) → IsHalted words source source' (halts.Refused (refusals.Dependent combination)) → ⊥)
    (too_long : (n : ℕ) → IsHalted words source source' (halts.Refused (refusals.CertTooLong n)) → ⊥)
    (limited : (place : Place) (limit : ℕ) (trail : Trail) → IsHalted words source source' (halts.PivotLimit place limit trail) → ⊥)
    (spilled : (place : Place) (trail : Trail) (spill : Spill Frac128) → IsHalted words source source' (halts.Overflow place trail spill) → ⊥) where
  pub unposed_without : (out out' err err' : Stream) (outcome : Outcome) → IsRun words source source' out out' err err' outcome → IsUnposed outcome
  unposed_without out out' err err' (Done report) run = reported report run.cause
  unposed_without out out' err err' (PivotLimit place limit trail) run = limited place limit trail run.cause
  unposed_without out out' err err' (Overflow place trail spill) run = spilled place trail spill run.cause
  unposed_without out out' err err' (Refused (refusals.Dependent combination)) run = dependent combination run.cause
  unposed_without out out' err err' (Refused (refusals.CertTooLong n)) run = too_long n run.cause
  unposed_without out out' err err' outcome run = tt
