use Rattle.data_frame.proofs.Blanks.{boundary_behind}
use Rattle.data_frame.proofs.cell.after_blanks.Goals as goal

pub range_from-requires : goal.range_from-requires
range_from-requires c _ =
    boundary_behind c.args.text.now c.leading_blanks.result c.utf8.text (rw c.as_bytes.ensures.value at c.leading_blanks.ensures.within)
    (rw c.as_bytes.ensures.value at c.leading_blanks.ensures.ascii)
