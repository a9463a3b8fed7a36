use Rattle.std.proofs.Common.{ℕ, List, ◌++◌, ◌≤◌, ◌<◌, length, take, true, false, ap, ◌∙◌, arith}
use Rattle.loss_model.specs.declared.vertex.Side.{Side}
use Rattle.std.specs.List.{flat_map}
use Rattle.report_text.specs.Said.{side_mark}
use Rattle.report_text.proofs.RowMarks.{marks_apart}
use Rattle.report_text.proofs.sides.marks_of.Goals as goal
use Rattle.report_text.proofs.sides.marks_of.Goals.{then-sides-data_rows, else-sides-data_rows}

pub returns : goal.returns
returns c =
    let n : ℕ = c.args.data_rows in
    let k : ℕ = c.if-sides-data_rows.count in
    let xs : List Side = c.args.sides.now in
    let cut : (k ≤ n) × ((k ≤ length xs) × (k < length xs → n ≤ k)) = elim c.if-sides-data_rows.branch [
      | then-sides-data_rows w ↦ (omega (arith, w.if-sides-data_rows, w.count-is), (omega (arith, w.count-is), λ some. omega (arith, w.count-is, some)))
      | else-sides-data_rows w ↦ (omega (arith, w.count-is), (omega (arith, w.if-sides-data_rows, w.count-is), λ some. omega (arith, w.count-is, some)))
    ] in
    c.with_marks.ensures.items
    ∙ ap (λ z. z ++ flat_map (side_mark false) c.split_at.result.1.now) (c.with_marks-begun.ensures.items ∙ ap (λ z. z ++ flat_map (side_mark true) c.split_at.result.0.now) c.in-Ok.ensures.items)
    ∙ ap (λ z. flat_map (side_mark true) z ++ flat_map (side_mark false) c.split_at.result.1.now) c.split_at.ensures.front
    ∙ ap (λ z. flat_map (side_mark true) (take k xs) ++ flat_map (side_mark false) z) c.split_at.ensures.back
    ∙ marks_apart n k xs cut.0 cut.1.0 cut.1.1
