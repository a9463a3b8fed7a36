-- The residual at the coefficients of the basis.
use Rattle.std.proofs.Common.{rules, ◌≡◌, List, ℤ, to_z, of_z, ap, ◌∙◌}
use mir.Syntax.{w128}
use Rattle.loss_model.specs.Sample.{residual}
use Rattle.whole_inverse.specs.Shares.{share, share_at}
use Rattle.whole_solution.proofs.Same.{residual_same}
use Rattle.whole_steps.specs.Lines.{model, over_of}
use Rattle.whole_steps.proofs.near_line.Look.residual_at.Goals as goal

pub returns : goal.returns
returns g c =
    let look = c.requires.look in
    let l = c.args.self.now.near_line.line in
    let i = c.args.row in
    let number = c.in_ok-number.number in
    let made : share number (over_of l) ≡ residual (model l) (share_at (over_of l) c.args.self.now.coef.numbers.now) i = c.in_ok-number.ensures {u = tt} in
    let plain : to_z w128 (of_z w128 number) ≡ number = search rules in
    rw (plain) (made ∙ ap (λ (xs : List ℤ). residual (model l) (share_at (over_of l) xs) i) look.coef.numbers ∙ residual_same (model l) _ _ look.near.coef i)
