use Rattle.std.proofs.Common.{◌≡◌, ◌++◌, drop}
use Rattle.formula_parser.specs.Terms.{minus}
use Rattle.formula_parser.proofs.term_set.terms_not_in.Given as goal

abbrev pub invariant-loop-term : goal.invariant-loop-term
invariant-loop-term l = l.left ++ minus (drop l.term-index l.terms) l.other ≡ minus l.terms l.other
