use Rattle.std.proofs.Common.{◌≡◌, map, take}
use Rattle.serde_json.specs.View.{view}
use Rattle.cert_text.proofs.parts.ListToJson.to_json.Given as goal

abbrev pub invariant-loop-item : goal.invariant-loop-item
invariant-loop-item g l = map view l.found.items ≡ map g.T.ToJson.tree (take l.item-index l.items)
