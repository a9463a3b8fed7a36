-- A row that moves has a greater quotient.
use Rattle.std.proofs.Common.{rules, ◌≡◌, get_or, pos, unsigned_abs, to_z, of_z, sym, ◌∙◌}
use mir.Syntax.{w128}
use Rattle.whole_steps.specs.Lines.{over_of}
use Rattle.whole_steps.proofs.Movers.{moving_read, mover_read}
use Rattle.whole_steps.proofs.Later.{either, later}
use Rattle.whole_steps.proofs.full_line.FullLine+i64+WholeInverse+i128.comes_after.Goals as goal

pub returns : goal.returns
returns c =
    let f = c.args.self.now in
    let full = c.requires.full in
    let i = c.args.row in
    let n = get_or f.coords.now i (pos 0) in
    let plain : to_z w128 (of_z w128 n) ≡ n = search rules in
    let test = (rw (plain) at c.goes_towards-moves.ensures) (over_of f.line) full.line.held.shape.positive in
    let er : c.unsigned_abs-residual.result ≡ unsigned_abs (get_or f.residuals.now i (pos 0)) = search rules in
    let ec : c.unsigned_abs-size.result ≡ unsigned_abs n = search rules in
    let less = rw (er, ec) at c.is_surely_less-later.ensures in
    λ t moving. later f.line full.line c.args.first.now _ c.requires.first (mover_read f full i c.requires.row moving)
    (less (either c.goes_towards-moves.result c.is_surely_less-later.result t (test ∙ sym (moving_read f full i c.requires.row) ∙ moving)))
