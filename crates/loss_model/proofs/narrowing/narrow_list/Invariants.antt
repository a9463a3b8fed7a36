use Rattle.std.proofs.Common.{◌≡◌, map, take}
use Rattle.frac_core.specs.Values.{narrow_value, value as wide_value}
use Rattle.loss_model.proofs.narrowing.narrow_list.Given as goal

abbrev pub invariant-loop-value : goal.invariant-loop-value
invariant-loop-value l = map narrow_value l.made ≡ map wide_value (take l.value-index l.values)
