-- Both are the same row, or the one comes before the other.
use Rattle.whole_steps.proofs.Marks.{marked_before}
use Rattle.whole_steps.proofs.rivals.FullLine+i64+WholeInverse+i128.is_within.Goals as goal

pub returns : goal.returns
returns c =
    let l = c.args.self.now.line in
    let rivals = c.args.rivals.now in
    marked_before l c.requires.full.line c.args.target.row rivals.mover.row rivals.marks c.in_ok-before.before (c.in_ok-before.ensures {u = tt}) c.requires.rivals.marks
