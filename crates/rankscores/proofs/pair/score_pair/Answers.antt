use Rattle.std.proofs.Common.{◌≤◌, slice_index, arith, ap, refl, ◌∙◌}
use Rattle.rankscores.proofs.Rankscores.{dual_read, later_score}
use Rattle.rankscores.proofs.pair.score_pair.Goals as goal

pub returns-clause-at_lo : goal.returns-clause-at_lo
returns-clause-at_lo g c =
    let value = g.F.Exact.value in
    let p = c.args.problem.now in
    let s = c.args.segment.now in
    let row = c.in_ok-pair-2.pair.row in
    let pair = c.in_ok-pair-2.ensures {u = tt} in
    let later : c.args.data_rows ≤ row = omega (arith, c.if-row-data_rows.false, pair.row, ap (λ xs. slice_index xs c.args.place) c.as_slice.ensures) in
    pair.at_lo ∙ dual_read value p s c.requires.scorable c.args.place row c.requires.within s.vertex.basis.rows refl pair.row s.basic_lo s.lo ∙ later_score value p c.args.data_rows s.vertex s.basic_lo s.lo row later

pub returns-clause-at_hi : goal.returns-clause-at_hi
returns-clause-at_hi g c =
    let value = g.F.Exact.value in
    let p = c.args.problem.now in
    let s = c.args.segment.now in
    let row = c.in_ok-pair-2.pair.row in
    let pair = c.in_ok-pair-2.ensures {u = tt} in
    let later : c.args.data_rows ≤ row = omega (arith, c.if-row-data_rows.false, pair.row, ap (λ xs. slice_index xs c.args.place) c.as_slice.ensures) in
    pair.at_hi ∙ dual_read value p s c.requires.scorable c.args.place row c.requires.within s.vertex.basis.rows refl pair.row s.basic_hi s.hi ∙ later_score value p c.args.data_rows s.vertex s.basic_hi s.hi row later
