use Rattle.std.proofs.Common.{◌≡◌, ◌≤◌, ◌*◌, ◌^◌}
use Rattle.frac_core.proofs.digits.times_power.Given as goal

abbrev pub invariant-loop : goal.invariant-loop
invariant-loop l = record {
  value : l.value ≡ l.number * 10 ^ l.counter;
  within : l.value ≤ l.limit;
}
