use Rattle.design_matrix.proofs.Same.{apart}
use Rattle.design_matrix.proofs.coded.are_same.Goals as goal

pub returns-then-left-right : goal.returns-then-left-right
returns-then-left-right c = apart c.args.left.now c.args.right.now c.if-left-right.true
