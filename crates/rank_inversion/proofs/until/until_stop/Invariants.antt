use Rattle.std.proofs.Common.{◌≡◌, ◌++◌, map, Ok}
use Rattle.std.specs.Vec.Iter.{into_iter_items}
use Rattle.rank_inversion.proofs.until.until_stop.Given as goal

-- those so far are done, and the others are left
abbrev pub invariant-loop-answer : goal.invariant-loop-answer
invariant-loop-answer g l = map Ok l.done.items ++ into_iter_items l.answer-iterator ≡ l.fn.answers.items
