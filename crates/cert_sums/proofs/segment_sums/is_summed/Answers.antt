-- Sums that are 0, and one that comes to what is stated.
use Rattle.rational_laws.specs.Fraction.{rational}
use Rattle.cert_sums.proofs.SlopeSums.{summed}
use Rattle.cert_sums.proofs.segment_sums.is_summed.Goals as goal

pub returns-else-not-all_vanish : goal.returns-else-not-all_vanish
returns-else-not-all_vanish c =
    let p = c.args.problem.now in
    let t = c.args.table.now in
    let v = c.args.end.vertex.now in
    let each = rw (c.as_slice-list.ensures) at (c.in-Some.ensures {u = tt}) in
    let zero = rw (c.as_slice.ensures, c.as_slice-in-Some.ensures) at (c.all_vanish.ensures c.if-not-all_vanish.false) in
    λ h. summed p t c.requires.table (rational c.args.end.theta.now) v c.args.end.basic.now c.args.reach.now (record { some = c.requires.reach.some; at_theta = c.requires.reach.at_theta }) c.args.tally.now c.in-Some.made c.requires.tally each
    (rational c.args.stated.now) zero (rw (c.as_slice.ensures, c.as_slice-in-Some.ensures) at (c.comes_to.ensures h))
