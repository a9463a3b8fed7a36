use Rattle.std.specs.Ordering.{is_lt, is_eq}
use Rattle.std.proofs.Common.{sym, ap, ap₂, ◌∙◌}
use Rattle.std.proofs.lemmas.Result.{IfOk-weaker}
use Rattle.fraction_tableau.specs.Lines.{comes_before}
use Rattle.fraction_tableau.proofs.Items.{item_read, items_differ}
use Rattle.fraction_tableau.proofs.Ties.{first_decides}
use Rattle.fraction_tableau.proofs.order.precedes.Goals as goal

pub break_tie-requires-clause-left : goal.break_tie-requires-clause-left
break_tie-requires-clause-left g c κs within =
    (item_read g.F.Exact.value c.args.line.now c.args.movers.now c.requires.movers c.args.j c.index-movers-j.result c.requires.first c.index-movers-j.is).0.row

pub break_tie-requires-clause-right : goal.break_tie-requires-clause-right
break_tie-requires-clause-right g c κs within =
    (item_read g.F.Exact.value c.args.line.now c.args.movers.now c.requires.movers c.args.k c.index-movers-k.result c.requires.second c.index-movers-k.is).0.row

pub break_tie-requires-clause-left_moves : goal.break_tie-requires-clause-left_moves
break_tie-requires-clause-left_moves g c κs within =
    (item_read g.F.Exact.value c.args.line.now c.args.movers.now c.requires.movers c.args.j c.index-movers-j.result c.requires.first c.index-movers-j.is).0.moves

pub break_tie-requires-clause-right_moves : goal.break_tie-requires-clause-right_moves
break_tie-requires-clause-right_moves g c κs within =
    (item_read g.F.Exact.value c.args.line.now c.args.movers.now c.requires.movers c.args.k c.index-movers-k.result c.requires.second c.index-movers-k.is).0.moves

pub break_tie-requires-clause-differ : goal.break_tie-requires-clause-differ
break_tie-requires-clause-differ g c κs within =
    items_differ g.F.Exact.value c.args.line.now c.args.movers.now c.requires.movers c.args.j c.args.k c.index-movers-j.result c.index-movers-k.result c.requires.first c.requires.second c.requires.differ c.index-movers-j.is
    c.index-movers-k.is

pub returns-then-is_eq-clause-exact : goal.returns-then-is_eq-clause-exact
returns-then-is_eq-clause-exact g c =
    let left = (item_read g.F.Exact.value c.args.line.now c.args.movers.now c.requires.movers c.args.j c.index-movers-j.result c.requires.first c.index-movers-j.is).1 in
    let right = (item_read g.F.Exact.value c.args.line.now c.args.movers.now c.requires.movers c.args.k c.index-movers-k.result c.requires.second c.index-movers-k.is).1 in
    IfOk-weaker c.break_tie.result _ _ (λ less h. h ∙ sym (ap₂ (comes_before g.F.Exact.value c.args.line.now) left right)) c.break_tie.ensures.exact

pub returns-clause-exact : goal.returns-clause-exact
returns-clause-exact g c =
    let left = item_read g.F.Exact.value c.args.line.now c.args.movers.now c.requires.movers c.args.j c.index-movers-j.result c.requires.first c.index-movers-j.is in
    let right = item_read g.F.Exact.value c.args.line.now c.args.movers.now c.requires.movers c.args.k c.index-movers-k.result c.requires.second c.index-movers-k.is in
    c.is_lt.ensures ∙ ap is_lt c.compare-order.ensures
    ∙ first_decides g.F.Exact.value c.args.line.now c.requires.line c.index-movers-j.result c.index-movers-k.result left.0 right.0 (sym (c.is_eq.ensures ∙ ap is_eq c.compare-order.ensures) ∙ c.if-is_eq.false)
    ∙ sym (ap₂ (comes_before g.F.Exact.value c.args.line.now) left.1 right.1)
