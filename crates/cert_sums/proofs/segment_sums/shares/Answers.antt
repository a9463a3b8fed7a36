-- Equal numbers times the same scales.
use Rattle.std.proofs.Common.{rules, ◌≡◌, pos, sym, ap, ◌∙◌}
use Rattle.rational_laws.specs.Rational.{◌*ℚ◌, whole}
use Rattle.rational_laws.proofs.Inverses.{*ℚ_cancel}
use Rattle.cert_sums.proofs.Balanced.{factor_of}
use Rattle.cert_sums.proofs.segment_sums.shares.Goals as goal

pub returns-else-before-after : goal.returns-else-before-after
returns-else-before-after c =
    let t = c.args.table.now in
    let r = c.args.reach.now in
    let same : c.in-Some.before ≡ c.in-Some-dual_at.after = search rules in
    λ h. *ℚ_cancel _ _ (whole (pos r.scale) *ℚ whole (pos t.cost_scale)) (factor_of r.scale t.cost_scale c.requires.left.some c.requires.table.cost_scale)
    (sym (c.in-Some.ensures {u = tt}) ∙ ap whole same ∙ (c.in-Some-dual_at.ensures {u = tt}))
