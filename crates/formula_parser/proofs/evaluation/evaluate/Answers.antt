use Rattle.std.proofs.Common.{Ok, ap, sym, ◌∙◌}
use Rattle.std.proofs.lemmas.Result.{err_from_is_err_and}
use Rattle.formula_parser.specs.Scope.{arith_term, dot_terms, named_term}
use Rattle.formula_parser.proofs.Runs.{goes_on, leaves, stops_at}
use Rattle.formula_parser.proofs.evaluation.evaluate.Goals as goal

pub loop-step-preserved : goal.loop-step-preserved
loop-step-preserved c =
    let s = c.args.scope.now in
    goes_on (named_term s.text.now s.names.now c.args.variables.now) (arith_term s.text.now s.names.now s.ariths.now c.args.variables.now) (dot_terms c.args.variables.now s.others.now) c.args.steps.now _ _ _ _ _
    c.loop-step-test.true c.step-item.is c.in_ok-act.ensures.ok c.loop-step.invariant

pub returns-in_err-act-clause-err : goal.returns-in_err-act-clause-err
returns-in_err-act-clause-err c =
    let s = c.args.scope.now in
    let p = err_from_is_err_and c.from_residual.result c.from_residual.ensures.1 in
    rw (p.1, p.2) (stops_at (named_term s.text.now s.names.now c.args.variables.now) (arith_term s.text.now s.names.now s.ariths.now c.args.variables.now) (dot_terms c.args.variables.now s.others.now) c.args.steps.now _ _ _ _
    c.loop-step-test.true c.step-item.is c.in_err-act.ensures.err c.loop-step.invariant)

pub returns-clause-ok : goal.returns-clause-ok
returns-clause-ok c =
    let s = c.args.scope.now in
    leaves (named_term s.text.now s.names.now c.args.variables.now) (arith_term s.text.now s.names.now s.ariths.now c.args.variables.now)
    (dot_terms c.args.variables.now s.others.now) c.args.steps.now _ _ c.loop-step-test.false c.loop-step.invariant
    ∙ ap Ok (sym c.pop.ensures.top)
