use Rattle.std.proofs.Common.{◌≡◌}
use Rattle.rational_laws.specs.Fraction.{rational}
use Rattle.rational_laws.specs.Rational.{◌+ℚ◌}
use Rattle.rational_laws.specs.RationalSums.{sum_ℚ}
use Rattle.whole_steps.specs.Passing.{number_value, first_slope, passed_by}
use Rattle.whole_steps.proofs.passing.Descent.slope_before.Given as goal

abbrev pub invariant-loop-row : goal.invariant-loop-row
invariant-loop-row l = rational (number_value l.self l.slope) ≡ first_slope l.self +ℚ sum_ℚ l.row (passed_by l.self l.target.row)
