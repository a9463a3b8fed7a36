-- A row that is found has a place.
use Rattle.std.proofs.Common.{length, slice_index, sym, ◌∙◌}
use Rattle.pivot_model.proofs.Among.{among_place}
use Rattle.whole_solution.proofs.near.Near.holds.Goals as goal

pub returns : goal.returns
returns c = λ t.
    let rows = c.args.self.now.rows in
    let found = rw (c.as_slice.ensures) at c.is_held.ensures in
    among_place (slice_index rows) (length rows) c.args.row (sym found ∙ t)
