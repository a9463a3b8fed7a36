-- A row of the basis more.
use Rattle.std.proofs.Common.{rules, ◌≡◌, ◌<◌, length, slice_index, slice_set, arith, ◌∙◌}
use Rattle.loss_model.specs.declared.vertex.Side.TheVariants.{Basic}
use Rattle.whole_solution.proofs.Basics.{basic_put, length_put}
use Rattle.whole_solution.proofs.sides.WholeBasis+i64+WholeInverse.with_basis.Goals as goal

pub loop-j-preserved : goal.loop-j-preserved
loop-j-preserved c =
    let b = c.args.self.now in
    let at = slice_index b.basis.now.rows in
    let made = c.loop-j.made in
    let j = c.loop-j.j in
    let here : j < length b.basis.now.rows = search rules in
    let within : at j < length b.rows.now = c.requires.basis.distinct.within j (omega (arith, here, c.requires.basis.size)) in
    let put : c.replace.new.self ≡ slice_set made (at j) Basic = search rules in
    rw (put) (record {
      size = length_put made (at j) Basic ∙ c.loop-j.invariant.size;
      each = basic_put at j c.args.sides made (omega (arith, within, c.loop-j.invariant.size)) c.loop-j.invariant.each;
    })
