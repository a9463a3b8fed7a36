-- The first, where leading bits tell or the second doesn't come before it.
use Rattle.std.proofs.Common.{rules, ◌≡◌, ◌*◌, ◌<◌, false, refl, sym, ◌∙◌, inr}
use Rattle.whole_steps.specs.Lines.{comes_before}
use Rattle.whole_steps.proofs.FirstLaws.{not_before}
use Rattle.whole_steps.proofs.Later.{later}
use Rattle.whole_steps.proofs.line.Line+i64+WholeInverse.earlier.Goals as goal

pub returns-then-is_surely_less : goal.returns-then-is_surely_less
returns-then-is_surely_less c =
    let m = c.args.first in
    let n = c.args.second in
    let less : m.residual * n.coord < n.residual * m.coord = search rules in
    inr (refl, λ other. later c.args.self.now c.requires.line m n c.requires.first c.requires.second less)

pub returns-else-branch : goal.returns-else-branch
returns-else-branch c =
    let l = c.args.self.now in
    let not_less : comes_before l c.args.second.row c.args.first.row ≡ false = sym (c.in_ok-precedes.ensures {u = tt}) ∙ c.if-branch.false in
    inr (refl, not_before l c.requires.line c.args.first c.args.second c.requires.first not_less)
