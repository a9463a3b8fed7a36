-- The first near row that moves, where it comes before all far ones.
use Rattle.std.proofs.Common.{length, slice_index, subst}
use Rattle.whole_steps.specs.Lines.{IsFirstOf, IsFirstMoverOf}
use Rattle.whole_steps.proofs.FarRows.{first_by_near}
use Rattle.whole_steps.proofs.near_line.NearLine.first_mover.Goals as goal

pub precedes_far-requires-clause-first : goal.precedes_far-requires-clause-first
precedes_far-requires-clause-first c =
    let n = c.args.self.now in
    let first : IsFirstMoverOf n.line (slice_index n.near.now.rows) (length n.near.now.rows) c.in-Some.first =
    subst (IsFirstOf n.line (slice_index n.near.now.rows) (length n.near.now.rows)) c.in-Some.is (rw (c.look-look.ensures.same) at (c.in_ok-first_near.ensures {u = tt})) in
    first.mover

pub returns-then-precedes_far : goal.returns-then-precedes_far
returns-then-precedes_far c =
    let n = c.args.self.now in
    let first : IsFirstMoverOf n.line (slice_index n.near.now.rows) (length n.near.now.rows) c.in-Some.first =
    subst (IsFirstOf n.line (slice_index n.near.now.rows) (length n.near.now.rows)) c.in-Some.is (rw (c.look-look.ensures.same) at (c.in_ok-first_near.ensures {u = tt})) in
    first_by_near n c.requires.near c.in-Some.first first (c.precedes_far.ensures c.if-precedes_far.true)
