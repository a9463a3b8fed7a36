use Rattle.std.proofs.Common.{ap, sym, ◌∙◌}
use Rattle.rq_cli.specs.Outcomes.{outcome_line}
use Rattle.rq_cli.proofs.Runs.{told_line}
use Rattle.rq_cli.proofs.top.tell.Goals as goal

pub write_line-requires-in-Ok : goal.write_line-requires-in-Ok
write_line-requires-in-Ok g c = c.deref.ensures.value ∙ c.in-Ok.ensures ∙ told_line c.args.fault ∙ ap outcome_line (sym c.of.ensures)
