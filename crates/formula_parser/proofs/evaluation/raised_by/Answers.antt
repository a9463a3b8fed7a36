use Rattle.std.proofs.Common.{◌∙◌, ◌≡◌, ap, arith}
use Rattle.formula_parser.specs.Terms.{Terms, plus, unions}
use Rattle.formula_parser.proofs.Limited.{raised_over}
use Rattle.formula_parser.proofs.Unions.{raised_more}
use Rattle.formula_parser.proofs.evaluation.raised_by.Goals as goal

pub returns-in-None-clause-err : goal.returns-in-None-clause-err
returns-in-None-clause-err c =
    let l = c.loop in
    let before = c.as_slice-in-loop.ensures ∙ c.in_ok-before.ensures ∙ c.as_slice.ensures in
    raised_over c.args.at l.counter c.args.exponent c.args.base l.power _ c.args.factor.now l.invariant.positive c.loop-test.true l.invariant.power before c.requires
    (rw c.in-None.is at c.in_ok-add_crossed.ensures)

pub loop-preserved : goal.loop-preserved
loop-preserved c =
    let l = c.loop in
    let before = c.as_slice-in-loop.ensures ∙ c.in_ok-before.ensures ∙ c.as_slice.ensures in
    let found : c.in-Some.more ≡ plus l.power (unions l.power c.args.base) =
    rw c.in-Some.is at c.in_ok-add_crossed.ensures
    ∙ ap (λ (x : Terms). plus l.power (unions x c.args.factor.now)) before
    ∙ ap (λ (x : Terms). plus l.power (unions l.power x)) c.requires in
    record {
      power = raised_more l.counter c.args.base l.power c.in-Some.more l.invariant.positive l.invariant.power found;
      positive = omega arith;
      within = omega (arith, c.loop-test.true);
    }
