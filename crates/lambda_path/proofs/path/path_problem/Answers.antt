use Rattle.std.proofs.Common.{◌≡◌, ◌≤◌, ◌+◌, ◌-◌, ◌++◌, map, length, refl, arith, ap, ◌∙◌}
use Rattle.frac_core.specs.Limits.{most_rows}
use Rattle.frac_core.specs.Values.{exact}
use Rattle.loss_model.specs.Values.{exact_row}
use Rattle.tv_penalty.specs.Smoothings.{exact_penalty}
use Rattle.lambda_path.specs.Rows.{data_row, penalty_row, rows_of}
use Rattle.lambda_path.proofs.Rows.{all_rows, path_is, path_shaped}
use Rattle.lambda_path.proofs.path.path_problem.Goals as goal

pub returns-clause-shaped : goal.returns-clause-shaped
returns-clause-shaped c =
    let p = c.args.problem.now in
    let tau = exact c.args.tau in
    let few : length p.rows + (p.columns - c.args.first) ≤ most_rows = omega (arith, ap length c.as_slice.ensures, c.requires.first) in
    let rows : map exact_row c.put_penalty_rows.new.rows ≡ rows_of p c.args.first tau =
    all_rows p c.args.first tau exact_penalty c.in_ok-penalties.penalties c.in_ok-rows.rows c.put_penalty_rows.new.rows c.in_ok-penalties.ensures
    (c.in_ok-rows.ensures.made ∙ ap (map (data_row tau)) c.as_slice-2.ensures)
    (c.in_ok-put_penalty_rows.ensures ∙ ap (λ rs. map exact_row c.in_ok-rows.rows ++ map (λ r. penalty_row (exact_penalty r)) rs) c.as_slice-3.ensures)
    in
    path_shaped p _ c.args.first tau c.requires.first refl rows c.requires.shaped few

pub returns-clause-path : goal.returns-clause-path
returns-clause-path c =
    let p = c.args.problem.now in
    let tau = exact c.args.tau in
    let rows : map exact_row c.put_penalty_rows.new.rows ≡ rows_of p c.args.first tau =
    all_rows p c.args.first tau exact_penalty c.in_ok-penalties.penalties c.in_ok-rows.rows c.put_penalty_rows.new.rows c.in_ok-penalties.ensures
    (c.in_ok-rows.ensures.made ∙ ap (map (data_row tau)) c.as_slice-2.ensures)
    (c.in_ok-put_penalty_rows.ensures ∙ ap (λ rs. map exact_row c.in_ok-rows.rows ++ map (λ r. penalty_row (exact_penalty r)) rs) c.as_slice-3.ensures)
    in
    path_is p _ c.args.first tau c.requires.first refl rows
