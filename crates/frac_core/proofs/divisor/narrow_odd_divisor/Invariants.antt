use Rattle.std.proofs.Common.{◌≡◌, ◌%◌, ◌+◌}
use Rattle.frac_core.specs.Gcd.{gcd}
use Rattle.frac_core.proofs.divisor.narrow_odd_divisor.Given as goal

abbrev pub invariant-loop-u : goal.invariant-loop-u
invariant-loop-u l = (l.u % 2 ≡ 1) × (l.v % 2 ≡ 1) × (gcd l.u l.v ≡ gcd l.fn.a l.fn.b)

abbrev pub decreases-loop-u : goal.decreases-loop-u
decreases-loop-u l = l.u + l.v
