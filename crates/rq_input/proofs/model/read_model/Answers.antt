use Rattle.rq_input.proofs.model.read_model.Goals as goal

pub returns-in-Ok-clause-buildable : goal.returns-in-Ok-clause-buildable
returns-in-Ok-clause-buildable c =
    let parsed = rw c.names.ensures at (rw c.as_str.ensures at c.in-Ok.ensures.formula) in
    let formula = c.args.job.now.formula in
    let names = c.args.frame.now.names in
    record {
      counted = c.formulas_are_countable.ensures formula names c.in-Ok.model c.requires.few c.requires.long parsed;
      held = c.arithmetics_are_held.ensures formula names c.in-Ok.model c.requires.long parsed;
    }
