use Rattle.std.proofs.Common.{◌≡◌, ◌≤◌, ◌-◌}
use Rattle.formula_parser.specs.Terms.{raised_by}
use Rattle.formula_parser.proofs.evaluation.raised_by.Given as goal

abbrev pub invariant-loop : goal.invariant-loop
invariant-loop l = record {
  power : l.power ≡ raised_by (l.counter - 1) l.fn.base;
  positive : 1 ≤ l.counter;
  within : l.counter - 1 ≤ l.exponent - 1;
}
