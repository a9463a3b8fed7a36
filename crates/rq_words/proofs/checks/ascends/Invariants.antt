use Rattle.std.proofs.Common.{◌≡◌, drop}
use Rattle.rq_words.specs.Words.{ascends, ascends_from}
use Rattle.rq_words.proofs.checks.ascends.Given as goal

abbrev pub invariant-loop-number : goal.invariant-loop-number
invariant-loop-number l = ascends l.numbers ≡ ascends_from l.least (drop l.number-index l.numbers)
