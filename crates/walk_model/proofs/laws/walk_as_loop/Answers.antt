use Rattle.walk_model.proofs.Loops.{begins, with_segment, without_segment, done}
use Rattle.walk_model.proofs.laws.walk_as_loop.Goals as goal

pub returns : goal.returns
returns g c =
    record {
      begins = begins g.F.Exact.value c.args.problem.now;
      goes_on = λ lo hi start steps segments now basis a b x costs costs' u step isb ends. (
        with_segment g.F.Exact.value c.args.problem.now lo hi start steps segments now basis a b x costs costs' u step isb ends,
        without_segment g.F.Exact.value c.args.problem.now lo hi start steps segments now basis a b x costs costs' u step isb ends,
      );
      done = done g.F.Exact.value c.args.problem.now;
    }
