use Rattle.gram_matrix.proofs.Inverses.{inverse_here}
use Rattle.rank_inversion.proofs.gram.gram_inverse.Goals as goal

pub returns-in-Ok-greedy_start-clause-inverted : goal.returns-in-Ok-greedy_start-clause-inverted
returns-in-Ok-greedy_start-clause-inverted g c =
    let value = g.F.Exact.value in
    let is = (c.in-Ok.ensures {u = tt}).gram in
    let h = (c.in-Ok-greedy_start.ensures {u = tt}).started in
    let started = c.in-Ok-greedy_start.started in
    record {
      start = (c.in-Ok.gram, is, h.greedy);
      inverse = inverse_here value c.args.problem.now c.in-Ok.gram is c.requires.data c.gram_inverse.ensures.order started.basis.rows started.inverse h.full_rank h.greedy h.size h.square h.rows h.inverse;
    }
