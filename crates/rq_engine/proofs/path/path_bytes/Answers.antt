use Rattle.std.proofs.Common.{inl, inr}
use Rattle.rq_engine.proofs.Causes.{halt_along}
use Rattle.rq_engine.proofs.path.path_bytes.Goals as goal

pub returns-in-Err-clause-cause : goal.returns-in-Err-clause-cause
returns-in-Err-clause-cause c = inl c.in-Err.ensures.cause

pub returns-in-Ok-clause-cause : goal.returns-in-Ok-clause-cause
returns-in-Ok-clause-cause c =
    halt_along c.path_input.result _ _ c.path_input.ensures.cause
    (λ halt h. inr (record { plain = c.in-Ok.plain; is = c.in-Ok.ensures.is; rows = c.in-Ok.ensures.rows; cause = h }))
