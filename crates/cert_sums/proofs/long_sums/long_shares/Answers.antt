-- Equal numbers times the same scales.
use Rattle.std.proofs.Common.{pos, subst, sym, ap, ◌∙◌}
use Rattle.std.specs.Prelude.{IsTrue}
use Rattle.rational_laws.specs.Rational.{◌*ℚ◌, whole}
use Rattle.rational_laws.proofs.Inverses.{*ℚ_cancel}
use Rattle.cert_sums.proofs.Balanced.{factor_of}
use Rattle.cert_sums.proofs.Orders.{equal_whole}
use Rattle.cert_sums.proofs.long_sums.long_shares.Goals as goal

pub returns : goal.returns
returns c = λ h.
    let t = c.args.table.now in
    let r = c.args.reach.now in
    let same = equal_whole _ _ c.compare.result c.compare.ensures (subst IsTrue c.is_eq.ensures h) in
    *ℚ_cancel _ _ (whole (pos r.scale) *ℚ whole (pos t.cost_scale)) (factor_of r.scale t.cost_scale c.requires.left.some c.requires.table.cost_scale)
    (sym (c.in-Some.ensures {u = tt}) ∙ ap whole same ∙ (c.in-Some-long_dual_at.ensures {u = tt}))
