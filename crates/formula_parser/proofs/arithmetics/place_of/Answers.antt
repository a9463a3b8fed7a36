use Rattle.std.proofs.Common.{◌∙◌, ap, bytes_eq, position}
use Rattle.frac_core.specs.declared.arith.Arith.{Arith}
use Rattle.formula_parser.specs.Words.{Open}
use Rattle.formula_parser.specs.Columns.{Text}
use Rattle.formula_parser.specs.Arithmetics.{tokens_text}
use Rattle.formula_parser.proofs.Places.{past_all}
use Rattle.formula_parser.proofs.arithmetics.place_of.Goals as goal

pub returns-clause-place : goal.returns-clause-place
returns-clause-place c =
    let s = c.args.source.now in
    let told = c.as_str.ensures ∙ c.in_ok-text.ensures ∙ ap (tokens_text s.text.now s.names.now Open) c.as_slice.ensures in
    past_all (λ (a : Arith). bytes_eq a.text (tokens_text s.text.now s.names.now Open c.args.part.now.tokens)) c.args.ariths.now
    (c.in-None.ensures ∙ ap (λ (t : Text). position (λ (a : Arith). bytes_eq a.text t) c.args.ariths.now) told)
