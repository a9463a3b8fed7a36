use Rattle.std.proofs.Common.{[], ◌∷◌, ◌++◌, ap, sym, take, ◌∙◌}
use Rattle.std.proofs.lemmas.List.{take_more}
use Rattle.formula_parser.proofs.evaluation.copied.Goals as goal

pub loop-term-preserved : goal.loop-term-preserved
loop-term-preserved c =
    c.in-Ok.ensures.pushed
    ∙ ap (λ l. l ++ (c.from.result ∷ [])) c.loop-term.invariant
    ∙ ap (λ x. take c.loop-term.term-index c.args.terms.now ++ (x ∷ [])) (c.from.ensures ∙ c.in_ok-copy.ensures.items ∙ c.as_slice.ensures ∙ c.term-item.is)
    ∙ sym (take_more c.args.terms.now c.loop-term.term-index c.term-item.result c.loop-term-test.true)
