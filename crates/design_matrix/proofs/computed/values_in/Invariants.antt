use Rattle.std.proofs.Common.{◌≡◌, length, map, take}
use Rattle.frac_core.specs.Values.{exact}
use Rattle.design_matrix.specs.Computed.{arith_at}
use Rattle.design_matrix.proofs.computed.values_in.Given as goal

abbrev pub invariant-loop-index : goal.invariant-loop-index
invariant-loop-index l = record {
  made : map exact l.values.items ≡ map (arith_at l.frame l.arith) (take l.index-index l.records);
  count : length l.values.items ≡ l.index-index;
}
