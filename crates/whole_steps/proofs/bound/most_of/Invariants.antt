use Rattle.std.proofs.Common.{◌≡◌, get_or, pos}
use Rattle.rational_laws.specs.Rational.{whole}
use Rattle.whole_solution.specs.Ranges.{at_halves, at_middles}
use Rattle.whole_steps.proofs.bound.most_of.Given as goal

abbrev pub invariant-loop-k : goal.invariant-loop-k
invariant-loop-k l = record {
  middle : whole l.middle ≡ at_middles l.k l.ranges (λ k. whole (get_or l.column k (pos 0)));
  rest : whole (pos l.rest) ≡ at_halves l.k l.ranges (λ k. whole (get_or l.column k (pos 0)));
}
