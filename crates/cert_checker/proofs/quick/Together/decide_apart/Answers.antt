use Rattle.std.proofs.lemmas.Result.{err_from_is_err_and}
use Rattle.cert_checker.proofs.Shared.{of_balances, of_losses, of_joints}
use Rattle.cert_checker.proofs.quick.Together.decide_apart.Goals as goal

pub returns-in_err-decide_segment : goal.returns-in_err-decide_segment
returns-in_err-decide_segment c =
    let p = err_from_is_err_and c.from_residual.result c.from_residual.ensures.1 in
    rw (p.1, p.2) (of_balances c.args.self.quick.problem.now c.args.self.list.now c.args.index c.args.segment.now c.in_err-decide_segment.field-0.0 c.in_err-decide_segment.ensures)

pub returns-in_err-decide_segment-2 : goal.returns-in_err-decide_segment-2
returns-in_err-decide_segment-2 c =
    let p = err_from_is_err_and c.from_residual-in_err-decide_segment-2.result c.from_residual-in_err-decide_segment-2.ensures.1 in
    rw (p.1, p.2) (of_losses c.args.self.quick.problem.now c.args.self.list.now c.args.index c.args.segment.now c.in_ok-decide_segment.ensures c.in_err-decide_segment-2.field-0.0 c.in_err-decide_segment-2.ensures)

pub returns : goal.returns
returns c = of_joints c.args.self.quick.problem.now c.args.self.list.now c.args.index c.args.segment.now c.in_ok-decide_segment.ensures c.in_ok-decide_segment-2.ensures c.decide_segment-3.result c.decide_segment-3.ensures
