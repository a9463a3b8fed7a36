use Rattle.std.proofs.Common.{◌≡◌, ◌<◌, ◌+◌, ◌^◌, drop}
use Rattle.formula_arith.specs.Codes.{numbered_in}
use Rattle.formula_arith.proofs.count.count_of.Given as goal

abbrev pub invariant-loop-op : goal.invariant-loop-op
invariant-loop-op l = record {
  counted : l.count + numbered_in (drop l.op-index l.code) ≡ numbered_in l.code;
  short : l.count < 2 ^ 32;
}
