use Rattle.std.proofs.Common.{◌≡◌, drop}
use Rattle.formula_parser.specs.Terms.{plus, unions}
use Rattle.formula_parser.proofs.crossing.add_crossed.Given as goal

abbrev pub invariant-loop-first : goal.invariant-loop-first
invariant-loop-first l = plus l.found (unions (drop l.first-index l.left) l.right) ≡ plus l.fn.found (unions l.left l.right)
