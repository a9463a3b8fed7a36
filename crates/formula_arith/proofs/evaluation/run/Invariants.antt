use Rattle.std.proofs.Common.{map}
use Rattle.frac_core.specs.Values.{exact}
use Rattle.formula_arith.specs.Machine.{stacked}
use Rattle.formula_arith.proofs.Progress.{Underway}
use Rattle.formula_arith.proofs.evaluation.run.Given as goal

abbrev pub invariant-loop-op : goal.invariant-loop-op
invariant-loop-op l = Underway (map exact l.values) l.code l.op-index (stacked l.operands) l.count
