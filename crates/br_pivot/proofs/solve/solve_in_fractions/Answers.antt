use Rattle.std.proofs.Common.{sym, subst}
use Rattle.std.proofs.lemmas.Result.{err_from_is_err_and}
use Rattle.rational_laws.specs.Fraction.{rational}
use Rattle.br_pivot.specs.Answers.{IsAnswer}
use Rattle.br_pivot.proofs.Limits.{start_answers}
use Rattle.br_pivot.proofs.solve.solve_in_fractions.Goals as goal

pub returns-in_err-begun : goal.returns-in_err-begun
returns-in_err-begun g c =
    let value = g.F.Exact.value in
    let p = c.args.problem.now in
    let theta = rational (value c.args.theta) in
    let returned = err_from_is_err_and c.from_residual.result c.from_residual.ensures.1 in
    subst (IsAnswer value g.F.Exact.range p theta c.args.limit) (sym returned.1)
    (start_answers value g.F.Exact.range p theta c.args.limit returned.0 (rw returned.2 (c.in_err-begun.ensures {u = tt}).stopped))
