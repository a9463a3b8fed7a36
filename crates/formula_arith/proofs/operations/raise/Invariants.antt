use Rattle.std.proofs.Common.{◌≡◌, ◌≤◌, ◌-◌}
use Rattle.frac_core.specs.Values.{exact}
use Rattle.formula_arith.specs.Values.{power_multiplications, raised_by}
use Rattle.formula_arith.specs.Evaluations.{NoneOverflows}
use Rattle.formula_arith.proofs.operations.raise.Given as goal

abbrev pub invariant-loop-factor : goal.invariant-loop-factor
invariant-loop-factor l = record {
  power : exact l.power ≡ raised_by (l.factor - 1) (exact l.fn.base);
  fits : NoneOverflows (power_multiplications (l.factor - 1) (exact l.fn.base));
  some : 1 ≤ l.factor;
  within : l.factor - 1 ≤ l.exponent - 1;
}
