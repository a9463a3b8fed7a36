use Rattle.std.proofs.Common.{inl, inr}
use Rattle.rq_engine.proofs.Causes.{halt_along}
use Rattle.rq_engine.proofs.test.test_bytes.Goals as goal

pub returns-in-Err-clause-cause : goal.returns-in-Err-clause-cause
returns-in-Err-clause-cause c = inl c.in-Err.ensures.cause

pub returns-in-Ok-clause-cause : goal.returns-in-Ok-clause-cause
returns-in-Ok-clause-cause c =
    halt_along c.test_input.result _ _ c.test_input.ensures.cause
    (λ halt h. inr (record { input = c.in-Ok.input; is = c.in-Ok.ensures.is; rows = c.in-Ok.ensures.rows; cause = h }))
