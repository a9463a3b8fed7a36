use Rattle.std.proofs.Common.{◌≡◌, drop}
use Rattle.cert_text.specs.Chains.{keep_values}
use Rattle.cert_text.proofs.chain.keep_values.Given as goal

abbrev pub invariant-loop-row : goal.invariant-loop-row
invariant-loop-row l =
    keep_values l.before l.now ≡ keep_values (drop l.row l.before) (drop l.row l.now)
