use Rattle.std.proofs.Common.{◌≡◌, map, take}
use Rattle.frac_core.specs.Values.{exact}
use Rattle.design_matrix.specs.Computed.{offsets_at}
use Rattle.design_matrix.proofs.computed.offset_values.Given as goal

abbrev pub invariant-loop-offset : goal.invariant-loop-offset
invariant-loop-offset l = map exact l.values.items ≡ offsets_at l.frame (take l.offset-index l.offsets) l.fn.index
