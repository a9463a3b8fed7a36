use Rattle.std.proofs.Common.{◌++◌, drop, sym, ap, ◌∙◌, arith, append-nil}
use Rattle.std.proofs.lemmas.List.{drop_all}
use Rattle.cert_text.specs.Chains.{moves_from}
use Rattle.cert_text.proofs.OneByOne.{none_left}
use Rattle.cert_text.proofs.moves.moves_between.Goals as goal

pub returns-then-row-later : goal.returns-then-row-later
returns-then-row-later c =
    let i = c.loop-row.row in
    let found = c.loop-row.found.items in
    let earlier = drop i c.args.earlier.now in
    sym (c.loop-row.invariant ∙ ap (λ l. found ++ moves_from i earlier l) (drop_all i c.args.later.now (omega (arith, c.if-row-later.true)))
    ∙ ap (λ l. found ++ l) (none_left i earlier) ∙ append-nil found)
