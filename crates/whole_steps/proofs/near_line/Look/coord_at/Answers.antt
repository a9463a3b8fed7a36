-- The row that was read, times the column.
use Rattle.std.proofs.Common.{rules, ◌≡◌, length, to_z, of_z, sym, ap, ◌∙◌}
use mir.Syntax.{w128}
use Rattle.rational_laws.specs.Rational.{◌*ℚ◌}
use Rattle.rational_laws.specs.RationalSums.{sum_ℚ}
use Rattle.rational_laws.specs.WholeLists.{whole_at}
use Rattle.whole_inverse.specs.Shares.{share, share_at}
use Rattle.whole_steps.specs.Lines.{over_of}
use Rattle.whole_steps.proofs.Coordinates.{column_size, row_coordinate}
use Rattle.whole_steps.proofs.near_line.Look.coord_at.Goals as goal

pub returns-in-Some : goal.returns-in-Some
returns-in-Some g c =
    let look = c.requires.look in
    let l = c.args.self.now.near_line.line in
    let line = look.near.line in
    let s = l.basis.now.inverse.now in
    let numbers = c.args.self.now.column.numbers.now in
    let r = c.index-rows-row.result in
    let number = c.in-Some.number in
    let wide : length r.x ≡ length s.columns = ap (λ w. length w.x) c.index-rows-row.is ∙ line.held.wide c.args.row r c.requires.row in
    let same : length r.x ≡ length numbers = wide ∙ sym (column_size s line.held.shape l.position numbers line.position look.numerators) in
    let made : share number (over_of l) ≡ sum_ℚ (length r.x) (λ k. whole_at r.x k *ℚ share_at (over_of l) numbers k) = (rw (c.as_slice.ensures) at (c.in-Some.ensures {u = tt})) (over_of l) in
    let plain : to_z w128 (of_z w128 number) ≡ number = search rules in
    rw (plain) (row_coordinate s line.held.shape l.basis.now.rows.now c.args.row l.position r numbers number c.requires.row c.index-rows-row.is line.position look.numerators same made)
