use Rattle.std.proofs.Common.{◌≡◌, map}
use Rattle.std.specs.List.{flat_map, range_with_len}
use Rattle.tv_penalty.specs.Operations.{NoneOverflows, operations_after}
use Rattle.tv_penalty.specs.Smoothings.{bend_after}
use Rattle.tv_penalty.specs.Views.{bend_seen}
use Rattle.tv_penalty.proofs.bends.bends.Given as goal

abbrev pub invariant-loop-lower : goal.invariant-loop-lower
invariant-loop-lower l = record {
  made : map bend_seen l.bends.items ≡ map (bend_after l.knots) (range_with_len 0 l.lower);
  fits : NoneOverflows (flat_map (operations_after l.smooth l.knots) (range_with_len 0 l.lower));
}
