-- Whether the row moves, and what it is as a mover.
use Rattle.std.proofs.Common.{rules, ◌≡◌, true, get_or, unsigned_abs, to_z, of_z, sym, refl, ◌∙◌}
use mir.Syntax.{w128}
use Rattle.loss_model.specs.declared.vertex.Side.TheVariants.{Up}
use Rattle.basis_model.specs.Basis.{coord}
use Rattle.whole_inverse.specs.Shares.{share}
use Rattle.whole_steps.specs.Lines.{model, inverse_at, over_of, residual_of, is_moving}
use Rattle.whole_steps.proofs.Movers.{side_here, moving_is, mover_here}
use Rattle.whole_steps.proofs.near_line.Look.mover_at.Goals as goal

pub returns-then-not-goes_towards : goal.returns-then-not-goes_towards
returns-then-not-goes_towards g c =
    let l = c.args.self.now.near_line.line in
    let line = c.requires.look.near.line in
    let i = c.args.row in
    let n = c.in_ok-coord.coord in
    let plain : to_z w128 (of_z w128 n) ≡ n = search rules in
    let there : share n (over_of l) ≡ coord (model l) (inverse_at l) i l.position = c.in_ok-coord.ensures {u = tt} in
    let test = (rw (plain) at c.goes_towards.ensures) (over_of l) line.held.shape.positive in
    moving_is l line i c.requires.row (get_or l.sides.now i Up) n (side_here l line i c.requires.row) there ∙ sym test ∙ c.if-not-goes_towards.true

pub returns : goal.returns
returns g c =
    let l = c.args.self.now.near_line.line in
    let line = c.requires.look.near.line in
    let i = c.args.row in
    let n = c.in_ok-coord.coord in
    let r = c.in_ok-residual.residual in
    let plain : to_z w128 (of_z w128 n) ≡ n = search rules in
    let there : share n (over_of l) ≡ coord (model l) (inverse_at l) i l.position = c.in_ok-coord.ensures {u = tt} in
    let left : share r (over_of l) ≡ residual_of l i = c.in_ok-residual.ensures {u = tt} in
    let side = side_here l line i c.requires.row in
    let test = (rw (plain) at c.goes_towards.ensures) (over_of l) line.held.shape.positive in
    let moves : is_moving l i ≡ true = moving_is l line i c.requires.row (get_or l.sides.now i Up) n side there ∙ sym test ∙ c.if-not-goes_towards.false in
    let er : c.unsigned_abs.result ≡ unsigned_abs r = search rules in
    let ec : c.unsigned_abs-2.result ≡ unsigned_abs n = search rules in
    rw (er, ec) (mover_here l line i c.requires.row (get_or l.sides.now i Up) n side there r left moves, refl)
