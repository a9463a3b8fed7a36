use Rattle.std.proofs.Common.{ap, length, sym, ◌∙◌}
use Rattle.rq_input.proofs.Predicting.{model_plain, no_smooths}
use Rattle.rq_input.proofs.plain.plain_model.Goals as goal

pub returns-in-Ok-model_input-clause-plain : goal.returns-in-Ok-model_input-clause-plain
returns-in-Ok-model_input-clause-plain c =
    record {
      stated = record { parsed = c.in-Ok.ensures.parsed; taken = λ _. no_smooths _ _ (sym c.if-not-is_empty.false ∙ c.is_empty.ensures) (ap length c.as_slice.ensures) };
      is = c.in-Ok-model_input.ensures.is;
    }

pub returns-in-Err-model_input-clause-cause : goal.returns-in-Err-model_input-clause-cause
returns-in-Err-model_input-clause-cause c =
    model_plain c.args.job.now c.args.frame.now c.in-Ok.model (record { parsed = c.in-Ok.ensures.parsed; taken = λ _. no_smooths _ _ (sym c.if-not-is_empty.false ∙ c.is_empty.ensures) (ap length c.as_slice.ensures) })
    c.in-Err-model_input.halt c.in-Err-model_input.ensures.cause
