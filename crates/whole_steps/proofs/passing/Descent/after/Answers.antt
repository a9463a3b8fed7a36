-- The row is passed, or isn't.
use Rattle.std.proofs.Common.{rules, ◌≡◌, ◌+ℤ◌, to_z, of_z, sym, ◌∙◌}
use mir.Syntax.{w128}
use Rattle.whole_steps.proofs.Passed.{passed_more, passed_none}
use Rattle.whole_steps.proofs.passing.Descent.after.Goals as goal

pub returns-then-branch : goal.returns-then-branch
returns-then-branch c =
    let d = c.args.self.now in
    let more = c.in_ok-more.more in
    let sum : c.in_ok-sum.sum ≡ c.args.slope +ℤ more = search rules in
    let plain : to_z w128 (of_z w128 c.in_ok-sum.sum) ≡ c.in_ok-sum.sum = search rules in
    rw (plain) (passed_more d c.requires.descent c.args.target.row c.args.row c.args.slope more c.in_ok-sum.sum (sym (c.in_ok-is_passed.ensures {u = tt}) ∙ c.if-branch.true) (c.in_ok-more.ensures {u = tt}) sum)

pub returns : goal.returns
returns c =
    let d = c.args.self.now in
    let start : to_z w128 (of_z w128 c.args.slope) ≡ c.args.slope = search rules in
    rw (start) (passed_none d c.requires.descent c.args.target.row c.args.row c.args.slope (sym (c.in_ok-is_passed.ensures {u = tt}) ∙ c.if-branch.false))
