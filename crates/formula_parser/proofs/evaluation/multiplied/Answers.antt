use Rattle.std.proofs.Common.{◌∙◌, ◌≡◌}
use Rattle.formula_parser.specs.Terms.{times}
use Rattle.formula_parser.proofs.Limited.{times_from, times_over}
use Rattle.formula_parser.proofs.evaluation.multiplied.Goals as goal

pub returns-in-None-clause-err : goal.returns-in-None-clause-err
returns-in-None-clause-err c =
    let all = times_from c.args.left c.args.right.now _ _ _ c.in_ok-sum.ensures (c.as_slice-2.ensures ∙ c.in_ok-before.ensures ∙ c.as_slice.ensures) c.as_slice-3.ensures in
    times_over c.args.at c.args.left c.args.right.now _ all (rw c.in-None.is at c.in_ok-add_crossed.ensures)

pub returns-clause-ok : goal.returns-clause-ok
returns-clause-ok c =
    let all = times_from c.args.left c.args.right.now _ _ _ c.in_ok-sum.ensures (c.as_slice-2.ensures ∙ c.in_ok-before.ensures ∙ c.as_slice.ensures) c.as_slice-3.ensures in
    let found : c.in-Some.all ≡ times c.args.left c.args.right.now = rw c.in-Some.is at c.in_ok-add_crossed.ensures ∙ all in
    rw (← found) c.limited.ensures.ok

pub returns-clause-err : goal.returns-clause-err
returns-clause-err c =
    let all = times_from c.args.left c.args.right.now _ _ _ c.in_ok-sum.ensures (c.as_slice-2.ensures ∙ c.in_ok-before.ensures ∙ c.as_slice.ensures) c.as_slice-3.ensures in
    let found : c.in-Some.all ≡ times c.args.left c.args.right.now = rw c.in-Some.is at c.in_ok-add_crossed.ensures ∙ all in
    rw (← found) c.limited.ensures.err
