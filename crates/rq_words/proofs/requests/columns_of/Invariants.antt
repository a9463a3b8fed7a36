use Rattle.std.proofs.Common.{◌≡◌, map, take}
use Rattle.rq_words.specs.Words.{column_of}
use Rattle.rq_words.proofs.requests.columns_of.Given as goal

abbrev pub invariant-loop-number : goal.invariant-loop-number
invariant-loop-number l = l.columns ≡ map column_of (take l.number-index l.numbers)
