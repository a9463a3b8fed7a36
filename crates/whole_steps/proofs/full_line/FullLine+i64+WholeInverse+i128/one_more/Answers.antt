-- The row is compared with the first so far.
use Rattle.std.proofs.Common.{◌≡◌, subst}
use Rattle.whole_steps.specs.Lines.{IsMover, IsMoverAt}
use Rattle.whole_steps.proofs.FirstLaws.{joins, some_is}
use Rattle.whole_steps.proofs.full_line.FullLine+i64+WholeInverse+i128.one_more.Goals as goal

pub joined-requires-clause-best : goal.joined-requires-clause-best
joined-requires-clause-best c = some_is c.args.self.now.line c.requires.full.line (λ i. i) c.args.row c.args.best c.requires.best

pub returns-in_ok-next-in-Some : goal.returns-in_ok-next-in-Some
returns-in_ok-next-in-Some c =
    let l = c.args.self.now.line in
    let row = c.args.row in
    let made : IsMover l c.in-Some.mover × (c.in-Some.mover.row ≡ row) = subst (IsMoverAt l row) c.in-Some.is c.mover_at.ensures in
    joins l c.requires.full.line (λ i. i) row c.args.best c.in-Some.mover c.in_ok-next-in-Some.next c.requires.best made.0 made.1 (c.in_ok-next-in-Some.ensures {u = tt})
