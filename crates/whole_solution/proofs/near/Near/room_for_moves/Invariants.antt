use Rattle.std.proofs.Common.{◌≡◌, get_or, pos}
use Rattle.rational_laws.specs.Rational.{whole}
use Rattle.wide_int.specs.Numbers.{joined, number_of}
use Rattle.whole_solution.specs.Far.{move_of}
use Rattle.whole_solution.specs.Ranges.{at_halves, at_middles}
use Rattle.whole_solution.proofs.near.Near.room_for_moves.Given as goal

abbrev pub invariant-loop-k : goal.invariant-loop-k
invariant-loop-k l = record {
  middle : whole (number_of l.middle) ≡ at_middles l.k l.self.ranges (λ k. whole (move_of l.self k (get_or l.coef k (pos 0)) l.determinant));
  rest : whole (pos (joined l.rest.low l.rest.high)) ≡ at_halves l.k l.self.ranges (λ k. whole (move_of l.self k (get_or l.coef k (pos 0)) l.determinant));
}
