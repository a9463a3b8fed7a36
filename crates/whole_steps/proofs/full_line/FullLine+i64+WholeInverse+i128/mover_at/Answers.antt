-- Whether the row moves, and what it is as a mover.
use Rattle.std.proofs.Common.{rules, ◌≡◌, true, get_or, pos, unsigned_abs, to_z, of_z, sym, refl, ◌∙◌}
use mir.Syntax.{w128}
use Rattle.whole_steps.specs.Lines.{over_of, is_moving}
use Rattle.whole_steps.proofs.Movers.{moving_read, mover_read}
use Rattle.whole_steps.proofs.full_line.FullLine+i64+WholeInverse+i128.mover_at.Goals as goal

pub returns-then-not-goes_towards : goal.returns-then-not-goes_towards
returns-then-not-goes_towards c =
    let f = c.args.self.now in
    let i = c.args.row in
    let n = get_or f.coords.now i (pos 0) in
    let plain : to_z w128 (of_z w128 n) ≡ n = search rules in
    let test = (rw (plain) at c.goes_towards.ensures) (over_of f.line) c.requires.full.line.held.shape.positive in
    moving_read f c.requires.full i c.requires.row ∙ sym test ∙ c.if-not-goes_towards.true

pub returns : goal.returns
returns c =
    let f = c.args.self.now in
    let i = c.args.row in
    let n = get_or f.coords.now i (pos 0) in
    let plain : to_z w128 (of_z w128 n) ≡ n = search rules in
    let test = (rw (plain) at c.goes_towards.ensures) (over_of f.line) c.requires.full.line.held.shape.positive in
    let moves : is_moving f.line i ≡ true = moving_read f c.requires.full i c.requires.row ∙ sym test ∙ c.if-not-goes_towards.false in
    let er : c.unsigned_abs.result ≡ unsigned_abs (get_or f.residuals.now i (pos 0)) = search rules in
    let ec : c.unsigned_abs-2.result ≡ unsigned_abs n = search rules in
    rw (er, ec) (mover_read f c.requires.full i c.requires.row moves, refl)
