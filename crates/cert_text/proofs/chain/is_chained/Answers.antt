use Rattle.std.proofs.Common.{◌+◌, length, drop, true, sym, ap, ◌∙◌}
use Rattle.cert_text.specs.Chains.{follows_any, are_chained}
use Rattle.cert_text.proofs.Chained.{chained_next, after_next}
use Rattle.cert_text.proofs.chain.is_chained.Goals as goal

pub loop-i-preserved : goal.loop-i-preserved
loop-i-preserved c =
    let rows = length c.as_slice-rows.result.now in
    let ss = c.as_slice-segments.result.now in
    let i = c.loop-i.i in
    let s = c.index-segments-i.result in
    let lt = c.loop-i-test.true in
    chained_next rows ss i s lt c.index-segments-i.is c.loop-i.invariant true true (sym (c.if-not-is_filled.ensures {u = tt}))
    (ap (λ o. follows_any o s) (sym c.last.ensures) ∙ sym c.in_ok-follows_any.ensures ∙ c.if-not-branch.false)
    ∙ ap (λ o. are_chained rows o (drop (i + 1) ss)) (sym (after_next rows ss i s lt c.index-segments-i.is c.loop-i.invariant))
