use Rattle.std.proofs.Common.{map, drop, All}
use Rattle.serde_json.specs.View.{items_view}
use Rattle.cert_text.proofs.Lists.{IsReadUpTo}
use Rattle.cert_text.proofs.parts.items.Given as goal

abbrev pub invariant-loop-i : goal.invariant-loop-i
invariant-loop-i g l =
    IsReadUpTo (λ before. g.T.FromJson.reader l.width) (items_view l.values) l.i (items_view (drop l.i l.values)) (map g.T.FromJson.content l.found.items)
    × All g.T.FromJson.IsKept l.found.items
