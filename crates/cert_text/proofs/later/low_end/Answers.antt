use Rattle.std.proofs.Common.{Err, Some, true, false, codes, sym, ap, ◌∙◌}
use Rattle.cert_text.specs.Reading.{fitting, further}
use Rattle.cert_text.specs.Paths.{key_step}
use Rattle.cert_text.proofs.OneByOne.{moved_as}
use Rattle.cert_text.proofs.later.low_end.Goals as goal

pub returns-then-not-branch-clause-err : goal.returns-then-not-branch-clause-err
returns-then-not-branch-clause-err c = λ other.
    let seen = c.under_key.ensures other in
    ap (fitting (codes "moves")) (moved_as c.in_ok-places.places.items _ c.as_slice.result.now c.args.moves.now _ _ false c.in_ok-places.ensures c.as_slice.ensures c.in_ok-make_moves.ensures c.if-not-branch.true)
    ∙ ap Err (ap (further (key_step (codes "moves"))) (sym c.wrong_kind.ensures) ∙ sym seen.0)

pub returns-clause-ok : goal.returns-clause-ok
returns-clause-ok c =
    ap (fitting (codes "moves")) (moved_as c.in_ok-places.places.items _ c.as_slice.result.now c.args.moves.now _ _ true c.in_ok-places.ensures c.as_slice.ensures c.in_ok-make_moves.ensures c.if-not-branch.false
    ∙ ap Some (sym c.from.ensures))
