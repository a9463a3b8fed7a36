use Rattle.loss_model.specs.Problem.{number_at}
use Rattle.gram_matrix.proofs.Inverses.{not_full}
use Rattle.rank_inversion.proofs.gram.gram_stop.Goals as goal

pub own_stop-requires-clause-dependent : goal.own_stop-requires-clause-dependent
own_stop-requires-clause-dependent g c κs within =
    let value = g.F.Exact.value in
    let dependent = rw c.in-Dependent.is at c.requires.stop in
    not_full value c.args.problem.now c.args.gram.now c.requires.gram c.requires.data (number_at c.in-Dependent.combination) dependent.dependence
