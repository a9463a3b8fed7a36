-- Sums that are 0, and one that comes to what is stated.
use Rattle.rational_laws.specs.Fraction.{rational}
use Rattle.cert_sums.specs.declared.reach.Reach.{Reach}
use Rattle.cert_sums.proofs.SlopeSums.{summed}
use Rattle.cert_sums.proofs.long_sums.long_summed_at.Goals as goal

pub returns : goal.returns
returns c =
    let t = c.args.table.now in
    let r : Reach = record { scale = c.args.reach.now.scale; at = c.args.reach.now.at } in
    let each = rw (c.as_slice-list.ensures) at (c.in-Some.ensures {u = tt}) in
    let zero = rw (c.as_slice.ensures, c.as_slice-2.ensures) at (c.long_vanish.ensures c.if-not-long_vanish.false) in
    let total = rw (c.as_slice.ensures, c.as_slice-2.ensures) at (c.in-Some-long_sum_at.ensures {u = tt}) in
    λ h. summed c.args.problem.now t c.requires.table (rational c.args.end.theta.now) c.args.end.vertex.now c.args.end.basic.now r c.requires.reach c.args.tally.now c.in-Some.made c.requires.tally each
    (rational c.args.stated.now) zero (rw (total) at (c.long_comes_to.ensures h))
