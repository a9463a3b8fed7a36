-- By the test of the square, and the row that enters.
use Rattle.std.proofs.Common.{◌≡◌, ◌*◌, true, false, refl, sym, ◌∙◌}
use Rattle.std.specs.Ordering.{nat_cmp, is_gt}
use Rattle.rank_tableau.proofs.Founds.{past_here, stuck_here, step_here}
use Rattle.rank_tableau.proofs.finding.at_crossing.Goals as goal

pub returns-then-beyond : goal.returns-then-beyond
returns-then-beyond g c =
    let b = c.args.next in
    let r = c.args.reach.now in
    let h = c.requires in
    let beyond : is_gt (nat_cmp ((r.under * b.theta.over) * b.theta.over) ((r.over * b.theta.under) * b.theta.under)) ≡ true = sym (c.in_ok-beyond.ensures {u = tt}) ∙ c.if-beyond.true in
    past_here g.F.Exact.value c.args.tableau.now h.kept c.args.course.now h.column c.args.station.now h.station c.args.from h.optimal c.args.factor
    h.factor h.positive b h.first h.divisor c.in_ok-theta.theta (c.in_ok-theta.ensures {u = tt}) r h.reach beyond

pub returns-in-Ok-Some : goal.returns-in-Ok-Some
returns-in-Ok-Some g c =
    let b = c.args.next in
    let r = c.args.reach.now in
    let h = c.requires in
    let within : is_gt (nat_cmp ((r.under * b.theta.over) * b.theta.over) ((r.over * b.theta.under) * b.theta.under)) ≡ false = sym (c.in_ok-beyond.ensures {u = tt}) ∙ c.if-beyond.false in
    step_here g.F.Exact.value c.args.tableau.now h.kept c.args.course.now h.column c.args.station.now h.station c.args.from h.optimal c.args.factor
    h.factor h.positive b h.first h.divisor c.in_ok-theta.theta (c.in_ok-theta.ensures {u = tt}) r h.reach within _ refl c.turned.ensures (rw (c.in-Ok-Some.field-0-is) at (c.in-Ok-Some.ensures {u = tt}))

pub returns-in-Ok-None : goal.returns-in-Ok-None
returns-in-Ok-None g c =
    let b = c.args.next in
    let r = c.args.reach.now in
    let h = c.requires in
    let within : is_gt (nat_cmp ((r.under * b.theta.over) * b.theta.over) ((r.over * b.theta.under) * b.theta.under)) ≡ false = sym (c.in_ok-beyond.ensures {u = tt}) ∙ c.if-beyond.false in
    stuck_here g.F.Exact.value c.args.tableau.now h.kept c.args.course.now h.column c.args.station.now h.station c.args.from h.optimal c.args.factor
    h.factor h.positive b h.first h.divisor c.in_ok-theta.theta (c.in_ok-theta.ensures {u = tt}) r h.reach within (rw (c.in-Ok-None.field-0-is) at (c.in-Ok-None.ensures {u = tt}))
