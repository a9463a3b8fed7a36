use Rattle.std.proofs.Common.{length, slice_index}
use Rattle.basis_inverse.specs.Square.{entries}
use Rattle.nested_test.proofs.Pairs.{pair_read}
use Rattle.nested_test.proofs.statistic.Pairs.pair.Goals as goal

pub returns : goal.returns
returns c =
    let v = c.args.self.now in
    pair_read (slice_index v.tested.now) (length v.tested.now) (entries (λ x. x) v.inverse.now) v.scores.now c.args.j c.args.m c.index-self-j.result c.index-self-m.result _ _ _
    c.requires.pairs.scored c.requires.first c.requires.second c.index-self-j.is c.index-self-m.is c.entry-factor.ensures (c.in_ok-weighted.ensures {u = tt}) (c.in_ok-product.ensures {u = tt})
