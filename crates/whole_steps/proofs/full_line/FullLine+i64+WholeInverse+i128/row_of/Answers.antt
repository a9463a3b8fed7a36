-- All rows were looked at.
use Rattle.std.proofs.Common.{length, subst}
use Rattle.whole_steps.specs.Lines.{IsFirstBelow, IsFirstMoverOf}
use Rattle.whole_steps.proofs.FirstLaws.{first_of_all}
use Rattle.whole_steps.proofs.full_line.FullLine+i64+WholeInverse+i128.row_of.Goals as goal

pub returns : goal.returns
returns c =
    let l = c.args.self.now.line in
    let end = length l.basis.now.rows.now in
    let first : IsFirstMoverOf l (λ i. i) end c.in-Some.mover = subst (IsFirstBelow l end) c.in-Some.is c.requires.best in
    first_of_all l c.requires.full.line c.in-Some.mover first
