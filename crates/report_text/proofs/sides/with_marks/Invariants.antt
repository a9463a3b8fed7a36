use Rattle.std.proofs.Common.{◌≡◌, ◌+◌, ◌++◌, take, vec_len, vec_capacity}
use Rattle.std.specs.List.{flat_map}
use Rattle.report_text.specs.Said.{side_mark}
use Rattle.report_text.proofs.sides.with_marks.Given as goal

abbrev pub invariant-loop-side : goal.invariant-loop-side
invariant-loop-side l =
    (l.line.items ≡ l.initial.line.items ++ flat_map (side_mark l.are_data) (take l.side-index l.sides))
    × ((vec_len l.line ≡ vec_len l.initial.line + l.side-index) × (vec_capacity l.line ≡ vec_capacity l.initial.line))
