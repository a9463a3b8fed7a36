use Rattle.std.proofs.Common.{arith, refl, ap, inl, inr}
use Rattle.rq_cli.specs.Steps.{outcome_of}
use Rattle.rq_cli.proofs.Runs.{printed_run, told_run, memory_run}
use Rattle.rq_cli.proofs.top.run.Goals as goal

pub returns-in-Ok-clause-ran : goal.returns-in-Ok-clause-ran
returns-in-Ok-clause-ran g c =
    printed_run _ _ _ _ _ _ _ c.in-Ok.report c.print.result c.in-Ok.ensures.answered (λ grew. omega (arith, c.in-Ok.ensures.steady)) c.print.ensures

pub returns-in-Err-clause-ran : goal.returns-in-Err-clause-ran
returns-in-Err-clause-ran g c =
    elim c.tell.ensures [
      | inl told ↦ told_run _ _ _ _ _ _ _ (outcome_of c.in-Err.fault) c.tell.result c.in-Err.ensures.cause (λ grew. ap outcome_of (c.in-Err.ensures.grew grew)) refl told
      | inr told ↦ memory_run _ _ _ _ _ _ _ c.tell.result (λ grew. told.0 (c.in-Err.ensures.grew grew)) refl told.1
    ]
