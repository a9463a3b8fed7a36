-- Row by row.
use Rattle.std.proofs.Common.{rules, ◌≡◌, length, to_z, of_z, arith}
use mir.Syntax.{w128}
use Rattle.rational_laws.specs.Fraction.{rational}
use Rattle.whole_steps.specs.Passing.{number_value}
use Rattle.whole_steps.proofs.Marks.{unmarked_left}
use Rattle.whole_steps.proofs.Passed.{passed_none, sum_none, sum_more, sum_all}
use Rattle.whole_steps.proofs.passing.Descent.slope_before.Goals as goal
use Rattle.whole_steps.proofs.passing.Descent.slope_before.Goals.{then-marks-row+in-Ok, else-marks-row}

pub loop-row-init : goal.loop-row-init
loop-row-init c =
    let d = c.args.self.now in
    let plain : to_z w128 (of_z w128 c.args.start) ≡ c.args.start = search rules in
    rw (plain) (sum_none d c.requires.descent c.args.target.row c.args.start c.requires.start)

pub loop-row-preserved : goal.loop-row-preserved
loop-row-preserved c =
    let d = c.args.self.now in
    let h = c.requires.descent in
    let r = c.args.target.row in
    let i = c.loop-row.row in
    let slope = to_z w128 c.loop-row.slope-bits in
    let so_far = c.loop-row.invariant in
    elim c.if-marks-row.branch [
      | then-marks-row+in-Ok w ↦
          let next = w.in-Ok.next in
          let plain : to_z w128 (of_z w128 next) ≡ next = search rules in
          rw (w.slope-is, plain) (sum_more d h r i (rational (number_value d slope)) (rational (number_value d next)) so_far (w.in-Ok.ensures {u = tt}))
      | else-marks-row w ↦
          let left = unmarked_left d.full.line h.full.line r i c.args.marks.now c.requires.marks c.loop-row-test.true w.if-marks-row.false in
          rw (w.slope-is) (sum_more d h r i (rational (number_value d slope)) (rational (number_value d slope)) so_far (passed_none d h r i slope left))
    ]

pub returns : goal.returns
returns c =
    let d = c.args.self.now in
    let all : c.loop-row.row ≡ length d.full.line.basis.now.rows.now = omega (arith, c.loop-row-test.false, c.loop-row.auto.row-end, c.requires.marks.size) in
    sum_all d c.requires.descent c.args.target.row c.loop-row.row (rational (number_value d (to_z w128 c.loop-row.slope-bits))) all c.loop-row.invariant
