use Rattle.std.proofs.lemmas.Result.{err_from_is_err_and}
use Rattle.cert_checker.proofs.Later.{at_low, at_high, at_sums, at_intervals}
use Rattle.cert_checker.proofs.certificate.decide_quickly.Goals as goal

pub returns-in_err-decide : goal.returns-in_err-decide
returns-in_err-decide g c =
    let p = err_from_is_err_and c.from_residual.result c.from_residual.ensures.1 in
    rw (p.1, p.2) (at_low c.args.cert.now c.in_err-decide.field-0.0 c.in_err-decide.ensures)

pub returns-in_err-decide-2 : goal.returns-in_err-decide-2
returns-in_err-decide-2 g c =
    let p = err_from_is_err_and c.from_residual-in_err-decide-2.result c.from_residual-in_err-decide-2.ensures.1 in
    rw (p.1, p.2) (at_high c.args.cert.now c.in_ok-decide.ensures c.in_err-decide-2.field-0.0 c.in_err-decide-2.ensures)

pub returns-in_err-decide_sums : goal.returns-in_err-decide_sums
returns-in_err-decide_sums g c =
    let p = err_from_is_err_and c.from_residual-in_err-decide_sums.result c.from_residual-in_err-decide_sums.ensures.1 in
    rw (p.1, p.2) (at_sums c.args.cert.now c.in_ok-decide.ensures c.in_ok-decide-2.ensures c.in_err-decide_sums.field-0.0 c.in_err-decide_sums.ensures)

pub returns : goal.returns
returns g c = at_intervals c.args.cert.now c.in_ok-decide.ensures c.in_ok-decide-2.ensures c.in_ok-decide_sums.ensures c.decide-3.result c.decide-3.ensures
