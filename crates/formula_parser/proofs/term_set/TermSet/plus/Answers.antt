use Rattle.std.proofs.Common.{ap, arith, length, sym, ◌∙◌}
use Rattle.std.proofs.lemmas.List.{drop_all}
use Rattle.formula_parser.specs.Terms.{plus, with_term}
use Rattle.formula_parser.proofs.Unions.{plus_on}
use Rattle.formula_parser.proofs.term_set.TermSet.plus.Goals as goal

pub loop-term-preserved : goal.loop-term-preserved
loop-term-preserved c =
    plus_on c.args.other.now c.as_slice-term-items.result.now _ c.term-item.result _ _ _ c.as_slice-term-items.ensures c.loop-term-test.true c.term-item.is
    (c.in_ok-all.ensures ∙ ap (with_term c.loop-term.all) (c.in_ok-copy.ensures.items ∙ c.as_slice.ensures)) c.loop-term.invariant

pub returns : goal.returns
returns c =
    sym (ap (plus c.loop-term.all) (drop_all _ c.args.other.now (omega (arith, ap length c.as_slice-term-items.ensures, c.loop-term-test.false)))) ∙ c.loop-term.invariant
