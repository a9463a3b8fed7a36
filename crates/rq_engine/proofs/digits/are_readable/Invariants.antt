use Rattle.std.proofs.Common.{◌≡◌, ◌&&◌, drop}
use Rattle.rq_engine.specs.Digits.{are_readable}
use Rattle.rq_engine.proofs.digits.are_readable.Given as goal

abbrev pub invariant-loop-number : goal.invariant-loop-number
invariant-loop-number l = are_readable l.numbers ≡ (l.all && are_readable (drop l.number-index l.numbers))
