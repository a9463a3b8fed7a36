use Rattle.rational_laws.specs.WholeLists.{whole_at}
use Rattle.whole_solution.specs.Ranges.{power, AreWithin}
use Rattle.whole_solution.proofs.ranges.is_in_class.Given as goal

abbrev pub invariant-loop-k : goal.invariant-loop-k
invariant-loop-k l = AreWithin l.k l.middles l.halves (power l.class) (whole_at l.row.x)
