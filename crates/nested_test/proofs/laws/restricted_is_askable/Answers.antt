use Rattle.nested_test.proofs.FullRank.{restricted_has_full_rank}
use Rattle.nested_test.proofs.laws.restricted_is_askable.Goals as goal

pub returns-clause-rank : goal.returns-clause-rank
returns-clause-rank g c = restricted_has_full_rank g.F.Exact.value c.args.full.now
