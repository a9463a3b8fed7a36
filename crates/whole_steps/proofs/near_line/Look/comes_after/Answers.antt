-- A row that moves has a greater quotient.
use Rattle.std.proofs.Common.{◌≡◌, true, subst}
use Rattle.whole_steps.specs.Lines.{IsMover, IsMoverAt, comes_before}
use Rattle.whole_steps.proofs.Later.{later}
use Rattle.whole_steps.proofs.near_line.Look.comes_after.Goals as goal

pub returns-in-Ok-Some : goal.returns-in-Ok-Some
returns-in-Ok-Some g c = λ t moving.
    let l = c.args.self.now.near_line.line in
    let here : IsMover l c.in-Ok-Some.here × (c.in-Ok-Some.here.row ≡ c.args.row) = subst (IsMoverAt l c.args.row) c.in-Ok-Some.field-0-is c.in-Ok-Some.ensures in
    subst (λ i. comes_before l c.args.first.now.row i ≡ true) here.1
    (later l c.requires.look.near.line c.args.first.now c.in-Ok-Some.here c.requires.first here.0 (c.is_surely_less.ensures t))
