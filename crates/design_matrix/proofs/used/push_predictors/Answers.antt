use Rattle.std.proofs.Common.{ℕ, List, ◌++◌, ap, append_assoc, map, sym, take_all, ◌∙◌}
use Rattle.std.specs.List.{flat_map}
use Rattle.design_matrix.specs.Cells.{term_names}
use Rattle.design_matrix.proofs.Steps.{append_nothing, flat_more}
use Rattle.design_matrix.proofs.used.push_predictors.Goals as goal

pub loop-term-init : goal.loop-term-init
loop-term-init c = sym (append_nothing (map (λ n. n.now) c.args.names.now.items))

pub loop-term-preserved : goal.loop-term-preserved
loop-term-preserved c =
    flat_more term_names (map (λ n. n.now) c.args.names.now.items) c.as_slice-terms.result.now
    _ _ _ _ c.loop-term-test.true c.term-item.is c.loop-term.invariant c.in_ok-push_variables.ensures

pub returns : goal.returns
returns c =
    let model = c.args.model.now in
    let before : List (List ℕ) = map (λ n. n.now) c.args.names.now.items in
    let offsets : List (List ℕ) = flat_map (λ a. a.names) model.offsets in
    c.in_ok-push_smooths.ensures
    ∙ ap (λ l. l ++ map (λ s. s.name) c.as_slice-2.result.now) (c.in_ok-push_offsets.ensures
    ∙ ap (λ l. l ++ flat_map (λ a. a.names) c.as_slice.result.now) (c.loop-term.invariant
    ∙ ap (λ l. before ++ flat_map term_names l) (take_all _ _ c.loop-term-test.false ∙ c.as_slice-terms.ensures)))
    ∙ ap (λ l. ((before ++ flat_map term_names model.terms) ++ flat_map (λ a. a.names) l) ++ map (λ s. s.name) c.as_slice-2.result.now) c.as_slice.ensures
    ∙ ap (λ l. ((before ++ flat_map term_names model.terms) ++ offsets) ++ map (λ s. s.name) l) c.as_slice-2.ensures
    ∙ append_assoc (before ++ flat_map term_names model.terms) offsets (map (λ s. s.name) model.smooths)
    ∙ append_assoc before (flat_map term_names model.terms) (offsets ++ map (λ s. s.name) model.smooths)
