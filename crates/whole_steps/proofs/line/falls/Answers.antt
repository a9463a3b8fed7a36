-- The other way round.
use Rattle.std.proofs.Common.{rules, ◌≡◌, pos, to_z, of_z, sym, ap, ◌∙◌}
use mir.Syntax.{w128}
use Rattle.std.specs.Ordering.{is_lt}
use Rattle.rational_laws.specs.Rational.{whole}
use Rattle.rational_laws.specs.Order.{cmp_ℚ}
use Rattle.whole_inverse.specs.Shares.{share}
use Rattle.tableau_model.specs.Turns.{turned_by}
use Rattle.whole_steps.proofs.Signs.{falls_by}
use Rattle.whole_steps.proofs.line.falls.Goals as goal

pub returns-in-Downward : goal.returns-in-Downward
returns-in-Downward c =
    let n = c.args.coord in
    let plain : to_z w128 (of_z w128 n) ≡ n = search rules in
    let test = rw (plain) at c.is_above.ensures in
    λ d h. test d h ∙ falls_by (share n d) ∙ ap (λ direction. is_lt (cmp_ℚ (turned_by direction (share n d)) (whole (pos 0)))) (sym c.in-Downward.is)
