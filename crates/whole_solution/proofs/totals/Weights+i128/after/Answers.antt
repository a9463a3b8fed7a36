-- A row more.
use Rattle.std.proofs.Common.{◌≡◌, ◌<◌, ℕ, ℤ, length, arith, sym, ap, ◌∙◌}
use Rattle.loss_model.specs.declared.vertex.Side.{Side}
use Rattle.loss_model.specs.declared.vertex.Side.TheVariants.{Up}
use Rattle.basis_model.specs.declared.part.Part.{Part}
use Rattle.basis_model.specs.declared.part.Part.TheVariants.{Constant, Linear}
use Rattle.basis_model.specs.Basis.{bound_part}
use Rattle.rational_laws.specs.Rational.{whole}
use Rattle.rational_laws.specs.WholeLists.{whole_at}
use Rattle.whole_rows.specs.declared.rows.WholeRow.{WholeRow}
use Rattle.whole_rows.specs.Wholes.{sample_of_rows}
use Rattle.loss_model.specs.Sides.{side_in}
use Rattle.whole_solution.specs.Weighing.{bound_of}
use Rattle.whole_solution.proofs.Moved.{moved_none, moved_more, moved_same, moved_all, turned_read}
use Rattle.loss_model.proofs.Sides.{side_read}
use Rattle.whole_solution.proofs.Reading.{row_read, bound_read}
use Rattle.whole_solution.proofs.totals.Weights+i128.after.Goals as goal
use Rattle.whole_solution.proofs.totals.Weights+i128.after.Goals.{then-not-stays+in_ok-turn, else-not-stays}

pub loop-i-init : goal.loop-i-init
loop-i-init c =
    let p = sample_of_rows (length c.args.self.now.constant.columns) c.args.rows.now in
    let old = side_in c.args.old.now in
    let new = side_in c.args.new.now in
    rw (c.in_ok-weights.ensures {u = tt}) (record { constant = moved_none p old new Constant c.args.self.now.constant; linear = moved_none p old new Linear c.args.self.now.linear })

pub turn-requires-clause-constant : goal.turn-requires-clause-constant
turn-requires-clause-constant c =
    let i = c.loop-i.i in
    ap (λ (w : WholeRow ℤ). length w.x) c.index-rows-i.is ∙ c.requires.wide i c.index-rows-i.result c.loop-i-test.true ∙ sym c.loop-i.invariant.constant.size

pub turn-requires-clause-linear : goal.turn-requires-clause-linear
turn-requires-clause-linear c =
    let i = c.loop-i.i in
    ap (λ (w : WholeRow ℤ). length w.x) c.index-rows-i.is ∙ c.requires.wide i c.index-rows-i.result c.loop-i-test.true
    ∙ sym c.requires.weights.linear.size ∙ sym c.loop-i.invariant.linear.size

pub loop-i-preserved : goal.loop-i-preserved
loop-i-preserved c =
    let rows = c.args.rows.now in
    let p = sample_of_rows (length c.args.self.now.constant.columns) rows in
    let old = side_in c.args.old.now in
    let new = side_in c.args.new.now in
    let self = c.args.self.now in
    let i = c.loop-i.i in
    let m = c.loop-i.invariant in
    let in_old : i < length c.args.old.now = omega (arith, c.requires.old, c.loop-i-test.true) in
    let in_new : i < length c.args.new.now = omega (arith, c.requires.new, c.loop-i-test.true) in
    let was = side_read c.args.old.now i Up in_old in
    let is = side_read c.args.new.now i Up in_new in
    elim c.if-not-stays.branch [
      | then-not-stays+in_ok-turn w ↦
          let r = w.index-rows-i.result in
          let before = c.loop-i.weights in
          let turned = turned_read r _ _ _ _ before w.turn.new.self was is w.in_ok-turn.ensures in
          let x : (k : ℕ) → whole_at r.x k ≡ p.x i k = λ k. sym (row_read rows i r (λ r. whole_at r.x k) c.loop-i-test.true w.index-rows-i.is) in
          let y : whole r.y ≡ p.y i = sym (row_read rows i r (λ r. whole r.y) c.loop-i-test.true w.index-rows-i.is) in
          let bound : (part : Part) (side : Side) → bound_of r part side ≡ bound_part p part i side = λ part side. bound_read (length self.constant.columns) rows i r part side c.loop-i-test.true w.index-rows-i.is in
          rw (w.weights-is) (record {
            constant = moved_more p old new Constant i self.constant before.constant w.turn.new.self.constant r x y (bound Constant) m.constant turned.constant;
            linear = moved_more p old new Linear i self.linear before.linear w.turn.new.self.linear r x y (bound Linear) m.linear turned.linear;
          })
      | else-not-stays w ↦
          let same = sym is ∙ c.stays.ensures w.if-not-stays.false ∙ was in
          rw (w.weights-is) (record {
            constant = moved_same p old new Constant i self.constant c.loop-i.weights.constant same m.constant;
            linear = moved_same p old new Linear i self.linear c.loop-i.weights.linear same m.linear;
          })
    ]

pub returns : goal.returns
returns c =
    let rows = c.args.rows.now in
    let p = sample_of_rows (length c.args.self.now.constant.columns) rows in
    let old = side_in c.args.old.now in
    let new = side_in c.args.new.now in
    let self = c.args.self.now in
    let w = c.loop-i.weights in
    let all : c.loop-i.i ≡ length rows = omega (arith, c.loop-i.auto.i-end, c.loop-i-test.false) in
    let m = rw (all) at c.loop-i.invariant in
    record {
      constant = moved_all p old new Constant self.constant w.constant c.requires.weights.constant m.constant;
      linear = moved_all p old new Linear self.linear w.linear c.requires.weights.linear m.linear;
    }
