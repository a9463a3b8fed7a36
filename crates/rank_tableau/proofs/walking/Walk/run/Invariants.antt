use Rattle.std.proofs.Common.{◌≡◌, length}
use Rattle.rank_tableau.specs.Founds.{bound_by}
use Rattle.rank_tableau.specs.Walks.{IsAlong}
use Rattle.rank_tableau.proofs.walking.Walk.run.Given as goal

abbrev pub invariant-loop : goal.invariant-loop
invariant-loop g l = let k = l.fn.self.start.now in record {
  along : IsAlong g.F.Exact.value k.problem l.course (bound_by k l.course.column l.reach) k.rows l.reach l.self;
  counted : length l.self.steps ≡ l.counter;
}
