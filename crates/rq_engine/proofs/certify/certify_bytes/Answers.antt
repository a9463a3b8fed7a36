use Rattle.std.proofs.Common.{inr}
use Rattle.rq_engine.proofs.Causes.{halt_along}
use Rattle.rq_engine.proofs.certify.certify_bytes.Goals as goal

pub returns-in-Ok-clause-cause : goal.returns-in-Ok-clause-cause
returns-in-Ok-clause-cause g c =
    halt_along c.certify_input.result _ _ c.certify_input.ensures.cause
    (λ halt h. inr (record { input = c.in-Ok.input; is = rw c.is_some.ensures at c.in-Ok.ensures.is; rows = c.in-Ok.ensures.rows; cause = h }))
