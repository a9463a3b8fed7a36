use Rattle.std.proofs.Common.{◌≡◌, take}
use Rattle.formula_parser.proofs.evaluation.copied.Given as goal

abbrev pub invariant-loop-term : goal.invariant-loop-term
invariant-loop-term l = l.all ≡ take l.term-index l.terms
