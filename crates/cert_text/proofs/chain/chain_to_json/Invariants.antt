use Rattle.std.proofs.Common.{◌≡◌, ◌++◌, None, drop, take, map}
use Rattle.std.specs.List.{last_or}
use Rattle.serde_json.specs.View.{view}
use Rattle.cert_text.specs.Trees.{linked_trees}
use Rattle.cert_text.proofs.chain.chain_to_json.Given as goal

abbrev pub invariant-loop-i : goal.invariant-loop-i
invariant-loop-i l =
    linked_trees None l.segments ≡ map view l.found.items ++ linked_trees (last_or None (take l.i l.segments)) (drop l.i l.segments)
