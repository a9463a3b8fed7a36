-- The row is compared with the first so far.
use Rattle.std.proofs.Common.{◌≡◌, ℕ, List, slice_index, slice_index_or, subst, ap, ◌∙◌}
use Rattle.whole_steps.specs.Lines.{IsMover, IsMoverAt}
use Rattle.whole_steps.proofs.FirstLaws.{joins, some_is}
use Rattle.whole_steps.proofs.near_line.Look.one_more.Goals as goal

pub joined-requires-clause-best : goal.joined-requires-clause-best
joined-requires-clause-best c =
    let n = c.args.self.now.near_line in
    some_is n.line c.requires.look.near.line (slice_index n.near.now.rows) c.args.k c.args.best c.requires.best

pub returns-in_ok-next-in-Some : goal.returns-in_ok-next-in-Some
returns-in_ok-next-in-Some c =
    let n = c.args.self.now.near_line in
    let k = c.args.k in
    let row = slice_index_or c.as_slice.result.now k 0 in
    let here : row ≡ slice_index n.near.now.rows k = ap (λ (xs : List ℕ). slice_index xs k) c.as_slice.ensures in
    let made : IsMover n.line c.in-Some.mover × (c.in-Some.mover.row ≡ row) = subst (IsMoverAt n.line row) c.in-Some.is (c.in_ok-mover_at.ensures {u = tt}) in
    joins n.line c.requires.look.near.line (slice_index n.near.now.rows) k c.args.best c.in-Some.mover c.in_ok-next-in-Some.next c.requires.best made.0 (made.1 ∙ here) (c.in_ok-next-in-Some.ensures {u = tt})
