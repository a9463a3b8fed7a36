use Rattle.std.proofs.Common.{◌≡◌, ◌<◌, ◌-◌, drop, slice_index}
use Rattle.data_frame.specs.Cells.{without_leading_blanks}
use Rattle.data_frame.proofs.cell.leading_blanks.Given as goal

abbrev pub invariant-loop-i : goal.invariant-loop-i
invariant-loop-i l = record {
  rest : without_leading_blanks (drop l.i l.text) ≡ without_leading_blanks l.text;
  ascii : 0 < l.i → slice_index l.text (l.i - 1) < 128;
}
