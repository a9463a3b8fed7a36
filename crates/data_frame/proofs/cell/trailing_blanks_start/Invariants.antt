use Rattle.std.proofs.Common.{◌≡◌, ◌<◌, ◌≤◌, length, take, slice_index}
use Rattle.data_frame.specs.Cells.{without_trailing_blanks}
use Rattle.data_frame.proofs.cell.trailing_blanks_start.Given as goal

abbrev pub invariant-loop-end : goal.invariant-loop-end
invariant-loop-end l = record {
  within : l.end ≤ length l.text;
  front : without_trailing_blanks (take l.end l.text) ≡ without_trailing_blanks l.text;
  ascii : l.end < length l.text → slice_index l.text l.end < 128;
}

abbrev pub decreases-loop-end : goal.decreases-loop-end
decreases-loop-end l = l.end
