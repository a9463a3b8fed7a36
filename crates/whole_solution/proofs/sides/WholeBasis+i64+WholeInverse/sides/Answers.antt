-- A row more, and at the end those of the basis.
use Rattle.std.proofs.Common.{rules, ◌≡◌, ◌++◌, ◌∷◌, [], false, length, slice_index, get_or, pos, to_z, of_z, arith, ◌∙◌}
use mir.Syntax.{w128}
use Rattle.rational_laws.proofs.Lists.{length_pushed}
use Rattle.rational_laws.specs.Selections.{is_among}
use Rattle.basis_model.specs.Basis.{side_at}
use Rattle.whole_inverse.specs.Squares.{inverse_of}
use Rattle.whole_inverse.proofs.Lists.{share_read}
use Rattle.whole_rows.specs.Wholes.{sample_of_rows}
use Rattle.whole_solution.proofs.Basics.{all_put, side_pushed_where}
use Rattle.whole_solution.proofs.sides.WholeBasis+i64+WholeInverse.sides.Goals as goal

pub loop-row-preserved : goal.loop-row-preserved
loop-row-preserved c =
    let b = c.args.self.now in
    let s = b.inverse.now in
    let at = slice_index b.basis.now.rows in
    let made = c.loop-row.made in
    let x = c.in_ok-side.side in
    let i = c.loop-row.row in
    let grown : c.push.new.self ≡ made ++ x ∷ [] = search rules in
    rw (grown) (record {
      size = length_pushed made x i c.loop-row.invariant.size;
      each = side_pushed_where (λ i. is_among at (length s.columns) i ≡ false) made x i (side_at (sample_of_rows (length s.columns) b.rows.now) at (inverse_of s)) c.loop-row.invariant.size c.loop-row.invariant.each
          (c.in_ok-side.ensures {u = tt});
    })

pub free_side-requires-clause-residual : goal.free_side-requires-clause-residual
free_side-requires-clause-residual c =
    let xs = c.args.residuals.now in
    let i = c.loop-row.row in
    let plain : to_z w128 (of_z w128 (get_or xs i (pos 0))) ≡ get_or xs i (pos 0) = search rules in
    rw (plain) (share_read c.args.self.now.inverse.now.determinant xs i c.loop-row-test.true ∙ c.requires.residuals i (omega (arith, c.loop-row-test.true, c.requires.size)))

pub returns-clause-each : goal.returns-clause-each
returns-clause-each c =
    let b = c.args.self.now in
    let s = b.inverse.now in
    let at = slice_index b.basis.now.rows in
    let end : c.loop-row.row ≡ length b.rows.now = omega (arith, c.loop-row-test.false, c.loop-row.auto.row-end, c.requires.size) in
    let put = rw (c.requires.basis.size) at c.with_basis.ensures.each in
    all_put (sample_of_rows (length s.columns) b.rows.now) at (inverse_of s) c.loop-row.made c.with_basis.result put (λ i li. c.loop-row.invariant.each i (omega (arith, end, li)))
