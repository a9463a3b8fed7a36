use Rattle.std.proofs.Common.{◌≡◌, ◌&&◌, All, drop, take}
use Rattle.ratio.specs.Lowest.{IsLowest}
use Rattle.cert_text.specs.Numbers.{are_narrow}
use Rattle.cert_text.proofs.narrow.are_narrow.Given as goal

abbrev pub invariant-loop-number : goal.invariant-loop-number
invariant-loop-number l = (are_narrow l.numbers ≡ (l.all && are_narrow (drop l.number-index l.numbers))) × All IsLowest (take l.number-index l.numbers)
