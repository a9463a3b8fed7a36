use Rattle.std.proofs.Common.{ℕ, List, [], ◌∷◌, ◌++◌, ap, map, option_copied, option_to_list, ◌∙◌}
use Rattle.design_matrix.specs.Cells.{predictor_names, used_names}
use Rattle.design_matrix.proofs.used.names_used.Goals as goal

pub returns : goal.returns
unfolding used_names
returns c =
    let weights : List (List ℕ) = option_to_list (option_copied c.args.weights) in
    c.in_ok-push_predictors.ensures
    ∙ ap (λ l. l ++ predictor_names c.args.model.now) (c.in_ok-push_weights.ensures
    ∙ ap (λ l. map (λ n. n.now) l ++ weights) (c.in_ok-push.ensures.items ∙ ap (λ l. l ++ (c.as_str.result ∷ [])) c.new-names.ensures.items)
    ∙ ap (λ r. r ∷ weights) c.as_str.ensures)
