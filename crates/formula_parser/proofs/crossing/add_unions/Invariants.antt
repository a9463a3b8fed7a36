use Rattle.std.proofs.Common.{◌≡◌, drop, map}
use Rattle.formula_parser.specs.Terms.{plus, union}
use Rattle.formula_parser.proofs.crossing.add_unions.Given as goal

abbrev pub invariant-loop-second : goal.invariant-loop-second
invariant-loop-second l = plus l.found (map (union l.first) (drop l.second-index l.right)) ≡ plus l.fn.found (map (union l.first) l.right)
