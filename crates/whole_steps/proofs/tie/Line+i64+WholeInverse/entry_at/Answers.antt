-- The coordinate at the position, on the side of the row.
use Rattle.std.proofs.Common.{rules, ◌≡◌, length, to_z, of_z, ap, ◌∙◌}
use mir.Syntax.{w128}
use Rattle.rational_laws.specs.Matrices.{coordinate}
use Rattle.rational_laws.specs.WholeLists.{whole_at}
use Rattle.whole_inverse.specs.Shares.{share}
use Rattle.whole_steps.specs.Lines.{inverse_at, over_of}
use Rattle.whole_steps.specs.Ties.{entry_on}
use Rattle.whole_steps.proofs.Ties.{entry_is, coordinate_here}
use Rattle.whole_steps.proofs.tie.Line+i64+WholeInverse.entry_at.Goals as goal

pub returns-in_ok-over-in-Some : goal.returns-in_ok-over-in-Some
returns-in_ok-over-in-Some c =
    let l = c.args.self.now in
    let line = c.requires.line in
    let t = c.args.tied in
    let k = c.args.position in
    let r = c.index-rows-tied.result in
    let n = length l.basis.now.inverse.now.columns in
    let coord = c.in-Some.coord in
    let over = c.in_ok-over-in-Some.over in
    let wide : length r.x ≡ n = ap (λ w. length w.x) c.index-rows-tied.is ∙ line.held.wide t.row r c.requires.tied.row in
    let there : share coord (over_of l) ≡ coordinate n (inverse_at l) (whole_at r.x) k = rw (c.as_slice-x.ensures, wide) at (c.in-Some.ensures {u = tt}) in
    let made : share over (over_of l) ≡ entry_on t.side (share coord (over_of l)) = search rules in
    let plain : to_z w128 (of_z w128 over) ≡ over = search rules in
    rw (plain) (record {
      some = c.requires.tied.some;
      is = entry_is l line t k over coord c.requires.tied c.requires.position (there ∙ coordinate_here l line t.row r c.requires.tied.row c.index-rows-tied.is k) made;
    })
