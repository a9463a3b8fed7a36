use Rattle.std.proofs.Common.{◌<◌, ◌^◌, All, length, take}
use Rattle.cases.proofs.models.are_short.Given as goal

abbrev pub invariant-loop-term : goal.invariant-loop-term
invariant-loop-term l = All (λ t. length t.variables < 2 ^ 32) (take l.term-index l.terms)
