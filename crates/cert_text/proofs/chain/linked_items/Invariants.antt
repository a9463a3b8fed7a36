use Rattle.std.proofs.Common.{map, drop, All}
use Rattle.serde_json.specs.View.{items_view}
use Rattle.cert_text.specs.Certificates.{linked_segment}
use Rattle.cert_text.specs.Kept.{IsKeptSegment}
use Rattle.cert_text.proofs.Lists.{IsReadUpTo}
use Rattle.cert_text.proofs.chain.linked_items.Given as goal

abbrev pub invariant-loop-i : goal.invariant-loop-i
invariant-loop-i l =
    IsReadUpTo (linked_segment l.width l.rows) (items_view l.values) l.i (items_view (drop l.i l.values)) (map (λ s. s) l.found.items)
    × All IsKeptSegment l.found.items
