use Rattle.std.proofs.Common.{◌≡◌, take}
use Rattle.cert_sums.proofs.products.narrowed.Given as goal

abbrev pub invariant-loop-i : goal.invariant-loop-i
invariant-loop-i l = l.made ≡ take l.i l.numbers
