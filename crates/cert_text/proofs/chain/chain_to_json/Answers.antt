use Rattle.std.proofs.Common.{ap, ◌∙◌}
use Rattle.cert_text.specs.Trees.{linked_tree}
use Rattle.cert_text.proofs.Chained.{trees_next}
use Rattle.cert_text.proofs.chain.chain_to_json.Goals as goal

pub loop-i-preserved : goal.loop-i-preserved
loop-i-preserved c =
    let s = c.index-segments-i.result in
    trees_next c.args.segments.now c.loop-i.i s c.loop-i.found.items _ _ c.loop-i-test.true c.index-segments-i.is c.loop-i.invariant
    (c.in_ok-linked_to_json.ensures ∙ ap (λ o. linked_tree o s) c.last.ensures) c.in_ok-push.ensures.items
