use Rattle.std.proofs.Common.{arith}
use Rattle.tv_penalty.proofs.Lists.{placed_is}
use Rattle.tv_penalty.proofs.rows.placed.Goals as goal

pub returns : goal.returns
returns c =
    placed_is c.args.columns c.args.before c.saturating_sub-after.result c.zero.result c.zero-2.result c.args.entries.now _ _ _ _ _ c.zero.ensures c.zero-2.ensures
    (c.in_ok-x.ensures.items_if_clones_equal (λ y h. h)) c.in_ok-extend_from_slice.ensures.items (c.in_ok-zeros.ensures.items_if_clones_equal (λ y h. h)) c.deref.ensures.value c.in_ok-extend_from_slice-2.ensures.items
    (omega (arith, c.saturating_sub-after.ensures, c.len.ensures, c.in_ok-extend_from_slice.ensures.len, c.in_ok-x.ensures.len))
