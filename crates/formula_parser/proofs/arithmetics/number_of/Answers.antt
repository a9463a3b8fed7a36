use Rattle.std.proofs.Common.{◌∙◌, ap, bytes_eq}
use Rattle.formula_parser.specs.Scope.{column_of}
use Rattle.formula_parser.proofs.Places.{past_all}
use Rattle.formula_parser.proofs.arithmetics.number_of.Goals as goal

pub returns-in-None : goal.returns-in-None
returns-in-None c = past_all (λ n. bytes_eq n c.args.name.now) c.args.names.now (c.in-None.ensures ∙ ap (column_of c.args.names.now) c.as_bytes.ensures.value)
