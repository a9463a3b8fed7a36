use Rattle.std.proofs.Common.{◌≡◌, map, take}
use Rattle.loss_model.proofs.numbers.widened.Given as goal

abbrev pub invariant-loop-value : goal.invariant-loop-value
invariant-loop-value g l = l.made ≡ map g.F.Exact.value (take l.value-index l.values)
