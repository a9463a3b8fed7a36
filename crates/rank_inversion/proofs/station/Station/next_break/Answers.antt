use Rattle.rank_inversion.proofs.StationLaws.{next_is, never}
use Rattle.rank_inversion.proofs.station.Station.next_break.Goals as goal

pub unreachable-requires : goal.unreachable-requires
unreachable-requires g c =
    never g.F.Exact.value c.args.self.now c.requires.station c.args.from c.requires.optimal (rw c.in-Ok-None.field-0-is at (c.in-Ok-None.ensures {u = tt}).exact)

pub returns-in-Ok-Some-clause-exact : goal.returns-in-Ok-Some-clause-exact
returns-in-Ok-Some-clause-exact g c =
    next_is g.F.Exact.value c.args.self.now c.requires.station c.args.from c.requires.optimal c.in-Ok-Some.next (rw c.in-Ok-Some.field-0-is at (c.in-Ok-Some.ensures {u = tt}).exact)
