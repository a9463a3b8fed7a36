-- The numerator is the fraction times its denominator.
use Rattle.std.proofs.Common.{rules, ◌≡◌, ◌≤◌, pos, to_z, of_z, sym, ap, subst, ◌∙◌}
use mir.Syntax.{w128}
use Rattle.rational_laws.specs.Fraction.{rational}
use Rattle.rational_laws.specs.Rational.{◌*ℚ◌, whole}
use Rattle.frac_core.specs.Values.{value as value128}
use Rattle.loss_model.proofs.Quotients.{whole-quotient}
use Rattle.cert_sums.proofs.within.reach_at.Goals as goal

pub returns : goal.returns
returns c =
    let v = value128 c.args.theta in
    let scale = c.unsigned_abs-scale.result in
    let num = c.numerator-at.result in
    let plain : to_z w128 (of_z w128 num) ≡ num = search rules in
    let den : scale ≡ v.den = search rules in
    let room = rw (plain) at (c.has_reach.ensures.room c.if-not-has_reach.false) in
    rw (plain) (record {
      some = subst (λ n. 1 ≤ n) (sym den) c.args.theta.within.positive;
      small = c.has_reach.ensures.scale c.if-not-has_reach.false;
      room = room;
      at_theta = ap whole c.numerator-at.ensures ∙ whole-quotient v.num v.den c.args.theta.within.positive ∙ ap (λ d. whole (pos d) *ℚ rational v) (sym den);
    })
