use Rattle.std.proofs.Common.{◌≡◌, None, drop, take}
use Rattle.std.specs.List.{last_or}
use Rattle.cert_text.specs.Chains.{are_chained}
use Rattle.cert_text.proofs.chain.is_chained.Given as goal

abbrev pub invariant-loop-i : goal.invariant-loop-i
invariant-loop-i l =
    are_chained l.rows None l.segments ≡ are_chained l.rows (last_or None (take l.i l.segments)) (drop l.i l.segments)
