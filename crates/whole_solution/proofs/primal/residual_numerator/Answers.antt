-- The response over the determinant less the fit.
use Rattle.std.proofs.Common.{rules, ◌≡◌, ◌+ℤ◌, ◌*ℤ◌, neg_ℤ, to_z, of_z, refl, ap, ◌∙◌}
use mir.Syntax.{w128}
use Rattle.whole_solution.proofs.Numbers.{rest_share}
use Rattle.whole_solution.proofs.primal.residual_numerator.Goals as goal

pub returns : goal.returns
returns c =
    let y = c.args.y in
    let d = c.args.scale.determinant in
    let f = c.args.fit in
    let plain : to_z w128 (of_z w128 c.in_ok-rest.rest) ≡ c.in_ok-rest.rest = search rules in
    let level : c.in_ok-level.level ≡ y *ℤ d = search rules in
    let rest : c.in_ok-rest.rest ≡ c.in_ok-level.level +ℤ neg_ℤ f = search rules in
    rw (plain) (rest_share y d f c.in_ok-rest.rest _ c.requires.some (rest ∙ ap (λ z. z +ℤ neg_ℤ f) level) refl)
