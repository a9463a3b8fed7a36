use Rattle.std.proofs.Common.{◌≡◌, drop}
use Rattle.formula_parser.specs.Terms.{plus}
use Rattle.formula_parser.proofs.term_set.TermSet.plus.Given as goal

abbrev pub invariant-loop-term : goal.invariant-loop-term
invariant-loop-term l = plus l.all (drop l.term-index l.other) ≡ plus l.fn.self l.other
