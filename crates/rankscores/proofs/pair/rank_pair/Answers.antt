use Rattle.std.proofs.Common.{refl, ◌∙◌}
use Rattle.rankscores.proofs.Rankscores.{score_read}
use Rattle.rankscores.proofs.pair.rank_pair.Goals as goal

pub returns-clause-at_lo : goal.returns-clause-at_lo
returns-clause-at_lo g c =
    let s = c.args.segment.now in
    rw (← c.index-as_slice-row.is) at (c.in_ok-at_lo.ensures {u = tt})
    ∙ score_read g.F.Exact.value c.args.problem.now s c.requires.scorable c.args.place _ c.requires.within c.as_slice.result.now c.as_slice.ensures refl c.as_slice-2.result.now c.as_slice-2.ensures c.index-as_slice-row.result c.index-as_slice-row.is
    s.basic_lo s.lo c.as_slice-low.result.now c.index-low-place.result c.requires.scorable.lo c.as_slice-low.ensures c.index-low-place.is

pub returns-clause-at_hi : goal.returns-clause-at_hi
returns-clause-at_hi g c =
    let s = c.args.segment.now in
    rw (← c.index-as_slice-row.is) at (c.in_ok-at_hi.ensures {u = tt})
    ∙ score_read g.F.Exact.value c.args.problem.now s c.requires.scorable c.args.place _ c.requires.within c.as_slice.result.now c.as_slice.ensures refl c.as_slice-2.result.now c.as_slice-2.ensures c.index-as_slice-row.result c.index-as_slice-row.is
    s.basic_hi s.hi c.as_slice-high.result.now c.index-high-place.result c.requires.scorable.hi c.as_slice-high.ensures c.index-high-place.is
