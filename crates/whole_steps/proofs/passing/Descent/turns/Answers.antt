-- The slope before the row is below 0, and the one after it isn't.
use Rattle.std.proofs.Common.{rules, ◌≡◌, ◌+ℤ◌, ◌≤ℤ◌, ◌<ℤ◌, pos}
use Rattle.whole_steps.proofs.Passed.{enters_by}
use Rattle.whole_steps.proofs.passing.Descent.turns.Goals as goal

pub returns : goal.returns
returns c = λ t.
    let d = c.args.self.now in
    let before = c.in_ok-before.before in
    let own = c.in_ok-own.own in
    let past : c.in_ok-past.past ≡ before +ℤ own = search rules in
    let below : before <ℤ pos 0 = search rules in
    let above : pos 0 ≤ℤ c.in_ok-past.past = search rules in
    enters_by d c.requires.descent c.args.target.row before own c.in_ok-past.past c.requires.target.row c.requires.target.moves (c.in_ok-before.ensures {u = tt}) (c.in_ok-own.ensures {u = tt}) past below above
