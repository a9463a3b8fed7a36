-- The numerator times what the denominator was divided out of.
use Rattle.std.proofs.Common.{rules, ◌≡◌, ◌*◌, ◌*ℤ◌, pos, to_z, of_z, ap, ◌∙◌}
use mir.Syntax.{w128}
use Rattle.cert_sums.proofs.Scales.{scaled_is}
use Rattle.cert_sums.proofs.scale.answer_scaled.Goals as goal

pub returns : goal.returns
returns c =
    let v = c.args.v.now in
    let made = c.in_ok-made.made in
    let times = c.in_ok-times.times in
    let num = c.in_ok-num.num in
    let plain : to_z w128 (of_z w128 made) ≡ made = search rules in
    let is_den : c.in_ok-den.den ≡ v.den = c.in_ok-den.ensures.exact ∙ c.denominator.ensures.value in
    let is_num : num ≡ v.num = search rules in
    let share : c.args.scale ≡ times * c.in_ok-den.den = search rules in
    let is_made : made ≡ num *ℤ pos times = search rules in
    rw (plain) (scaled_is made v.num times c.args.scale v.den c.denominator.ensures.positive (share ∙ ap (λ d. times * d) is_den) (is_made ∙ ap (λ n. n *ℤ pos times) is_num))
