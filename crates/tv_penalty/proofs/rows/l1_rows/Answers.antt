use Rattle.std.proofs.Common.{◌≡◌, ◌≤◌, ◌+◌, ◌-◌, ap, map, arith, ◌∙◌}
use Rattle.std.specs.List.{range_with_len}
use Rattle.frac_core.specs.Values.{exact}
use Rattle.tv_penalty.specs.Smoothings.{exact_penalty, unit_row}
use Rattle.tv_penalty.proofs.Lists.{counted_more}
use Rattle.tv_penalty.proofs.rows.l1_rows.Goals as goal

pub loop-column-preserved : goal.loop-column-preserved
loop-column-preserved c =
    let k = c.loop-column.column in
    let from : c.args.first ≤ k = c.loop-column.auto.column in
    counted_more exact_penalty (unit_row c.args.columns (exact c.args.lambda)) c.args.first (k - c.args.first) k _ _ _ (omega (arith, from)) c.loop-column.invariant c.in_ok-push.ensures.items c.in_ok-unit_row.ensures
    ∙ ap (λ n. map (unit_row c.args.columns (exact c.args.lambda)) (range_with_len c.args.first n)) (let e : k - c.args.first + 1 ≡ k + 1 - c.args.first = omega (arith, from) in e)

pub returns-clause-rows : goal.returns-clause-rows
returns-clause-rows c =
    ap (map exact_penalty) c.from.ensures ∙ c.loop-column.invariant
    ∙ ap (λ n. map (unit_row c.args.columns (exact c.args.lambda)) (range_with_len c.args.first n))
    (let e : c.loop-column.column - c.args.first ≡ c.args.columns - c.args.first = omega (arith, c.loop-column-test.false, c.loop-column.auto.column, c.loop-column.auto.column-end c.requires) in e)
