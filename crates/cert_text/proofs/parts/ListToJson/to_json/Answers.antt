use Rattle.std.proofs.Common.{◌≡◌, ◌≤◌, length, map, ap, arith, ◌∙◌}
use Rattle.serde_json.specs.Data.{array}
use Rattle.serde_json.specs.View.{view, items_of}
use Rattle.serde_json.proofs.Views.{view-Array}
use Rattle.cert_text.proofs.Lists.{value_written, all_taken}
use Rattle.cert_text.proofs.parts.ListToJson.to_json.Goals as goal

pub loop-item-preserved : goal.loop-item-preserved
loop-item-preserved g c =
    value_written g.T.ToJson.tree c.as_slice-items.result.now c.loop-item.item-index c.item-item.result c.loop-item.found.items _ c.in_ok-to_json.field-0
    c.loop-item-test.true c.item-item.is c.loop-item.invariant c.in_ok-to_json.ensures c.in_ok-push.ensures.items

pub returns : goal.returns
returns g c =
    let tree = g.T.ToJson.tree in
    let items = c.as_slice-items.result.now in
    let over : length items ≤ c.loop-item.item-index = omega (arith, c.loop-item-test.false) in
    view-Array c.loop-item.found
    ∙ ap (λ ds. array (items_of ds)) (all_taken (λ xs. map view c.loop-item.found.items ≡ map tree xs) items c.args.self.now c.loop-item.item-index over c.as_slice-items.ensures c.loop-item.invariant)
