use Rattle.std.proofs.Common.{◌≡◌, None, take}
use Rattle.design_matrix.specs.Faults.{levels_fault}
use Rattle.design_matrix.specs.Lists.{first_some}
use Rattle.design_matrix.specs.Views.{terms_seen}
use Rattle.design_matrix.proofs.checks.check_terms.Given as goal

abbrev pub invariant-loop-term : goal.invariant-loop-term
invariant-loop-term l = first_some levels_fault (terms_seen (take l.term-index l.terms)) ≡ None
