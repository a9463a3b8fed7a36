-- The side of a listed row more, and what it weighs there.
use Rattle.std.proofs.Common.{rules, ◌≡◌, ◌<◌, ℕ, length, get_or, slice_index, slice_set, arith, sym, ◌∙◌}
use Rattle.loss_model.specs.declared.vertex.Side.{Side}
use Rattle.loss_model.specs.declared.vertex.Side.TheVariants.{Up}
use Rattle.basis_model.specs.declared.part.Part.{Part}
use Rattle.basis_model.specs.Basis.{bound_part}
use Rattle.rational_laws.specs.Rational.{whole}
use Rattle.rational_laws.specs.WholeLists.{whole_at}
use Rattle.whole_inverse.specs.Squares.{inverse_of}
use Rattle.whole_rows.specs.Wholes.{sample_of_rows}
use Rattle.loss_model.specs.Sides.{side_in}
use Rattle.whole_solution.specs.Weighing.{bound_of}
use Rattle.whole_solution.proofs.Put.{put_none, put_more, put_all}
use Rattle.loss_model.proofs.Sides.{side_read}
use Rattle.whole_solution.proofs.Reading.{row_read, bound_read}
use Rattle.whole_solution.proofs.Turning.{weights_put, weights_kept}
use Rattle.whole_solution.proofs.solution.WholeBasis+i64+WholeInverse.listed_sides.Goals as goal
use Rattle.whole_solution.proofs.solution.WholeBasis+i64+WholeInverse.listed_sides.Goals.{then-not-stays+in_ok-turn, else-not-stays}

pub loop-k-init : goal.loop-k-init
loop-k-init c =
    let b = c.args.self.now in
    let s = b.inverse.now in
    rw (c.in_ok-sides.ensures, c.in_ok-weights.ensures {u = tt}) (record {
      put = put_none (sample_of_rows (length s.columns) b.rows.now) (slice_index b.basis.now.rows) (inverse_of s) c.args.listed.now c.args.old.now c.requires.old;
      weights = c.requires.before;
    })

pub loop-k-preserved : goal.loop-k-preserved
loop-k-preserved c =
    let b = c.args.self.now in
    let rows = b.rows.now in
    let s = b.inverse.now in
    let n = length s.columns in
    let p = sample_of_rows n rows in
    let at = slice_index b.basis.now.rows in
    let listed = c.args.listed.now in
    let k = c.loop-k.k in
    let sides = c.loop-k.sides in
    let weights = c.loop-k.weights in
    let m = c.loop-k.invariant in
    let side = c.in_ok-side.side in
    let i = slice_index listed k in
    let here : k < length listed = search rules in
    let within : i < length rows = search rules in
    let in_sides : i < length sides = omega (arith, within, m.put.size) in
    let was : get_or c.as_slice.result.now i Up ≡ side_in sides i = rw (c.as_slice.ensures) (side_read sides i Up in_sides) in
    let put : c.replace.new.self ≡ slice_set sides i side = search rules in
    let made = put_more p at (inverse_of s) listed c.args.old.now sides k side m.put here within (c.in_ok-side.ensures {u = tt}) in
    rw (put) (elim c.if-not-stays.branch [
      | then-not-stays+in_ok-turn w ↦
          let r = c.index-rows-row.result in
          let x : (k : ℕ) → whole_at r.x k ≡ p.x i k = λ k. sym (row_read rows i r (λ r. whole_at r.x k) within c.index-rows-row.is) in
          let y : whole r.y ≡ p.y i = sym (row_read rows i r (λ r. whole r.y) within c.index-rows-row.is) in
          let bound : (part : Part) (side : Side) → bound_of r part side ≡ bound_part p part i side = λ part side. bound_read n rows i r part side within c.index-rows-row.is in
          rw (w.weights-is) (record { put = made; weights = weights_put p sides i side r _ weights w.turn.new.self m.put.size within was x y bound w.in_ok-turn.ensures m.weights })
      | else-not-stays w ↦
          rw (w.weights-is) (record { put = made; weights = weights_kept p sides i side weights m.put.size within (c.stays.ensures w.if-not-stays.false ∙ was) m.weights })
    ])

pub returns : goal.returns
returns c =
    let b = c.args.self.now in
    let s = b.inverse.now in
    let p = sample_of_rows (length s.columns) b.rows.now in
    let listed = c.args.listed.now in
    let end : c.loop-k.k ≡ length listed = omega (arith, c.loop-k-test.false, c.loop-k.auto.k-end) in
    let all = rw (end) at c.loop-k.invariant.put in
    record {
      size = all.size;
      each = all.each;
      listed = put_all p (slice_index b.basis.now.rows) (inverse_of s) listed c.args.old.now c.loop-k.sides all;
      weights = c.loop-k.invariant.weights;
    }
