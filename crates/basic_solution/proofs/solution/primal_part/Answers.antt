use Rattle.std.proofs.Common.{◌≡◌, ℕ, ◌<◌, List, inl, inr, ap, ◌∙◌}
use Rattle.loss_model.specs.Sample.{residual}
use Rattle.loss_model.specs.Problem.{value_at, sample}
use Rattle.basic_solution.proofs.Agreeing.{residual-same, residual_spill-same}
use Rattle.basic_solution.proofs.Exits.{by_cause}
use Rattle.basic_solution.proofs.solution.primal_part.Goals as goal

pub returns-in_err-coef-clause-spill : goal.returns-in_err-coef-clause-spill
returns-in_err-coef-clause-spill g c =
    by_cause c.from_residual.result _ _ _ c.from_residual.ensures.1 (λ s h. inl h) (c.in_err-coef.ensures {u = tt}).spill

pub returns-in_err-residuals-clause-spill : goal.returns-in_err-residuals-clause-spill
returns-in_err-residuals-clause-spill g c =
    let p = sample g.F.Exact.value c.args.problem.now in
    by_cause c.from_residual-in_err-residuals.result _ _ _ c.from_residual-in_err-residuals.ensures.1
    (λ s (i, l, h). inr (inl (i, l, residual_spill-same p _ _ (c.in_ok-coef.ensures {u = tt}).each g.F.Exact.value g.F.Exact.range i s h)))
    (rw c.as_slice.ensures at (c.in_err-residuals.ensures {u = tt}).spill)

pub sides-requires-clause-residuals : goal.sides-requires-clause-residuals
sides-requires-clause-residuals g c κs within i l =
    let value = g.F.Exact.value in
    let p = sample value c.args.problem.now in
    let each = rw c.as_slice.ensures at (c.in_ok-residuals.ensures {u = tt}).each in
    ap (λ (xs : List g.row.F.Denot). value_at value xs i) c.as_slice-2.ensures ∙ each i l ∙ residual-same p _ _ (c.in_ok-coef.ensures {u = tt}).each i

pub returns-in_err-sides-clause-spill : goal.returns-in_err-sides-clause-spill
returns-in_err-sides-clause-spill g c =
    by_cause c.from_residual-in_err-sides.result _ _ _ c.from_residual-in_err-sides.ensures.1 (λ s h. inr (inr (inl h))) (c.in_err-sides.ensures {u = tt}).spill

pub returns-clause-primal : goal.returns-clause-primal
returns-clause-primal g c =
    let value = g.F.Exact.value in
    let p = sample value c.args.problem.now in
    let each : (i : ℕ) → i < p.rows → value_at value c.in_ok-residuals.residuals i ≡ residual p (value_at value c.in_ok-coef.coef) i = rw c.as_slice.ensures at (c.in_ok-residuals.ensures {u = tt}).each in
    record {
      columns = (c.in_ok-coef.ensures {u = tt}).size;
      coef = (c.in_ok-coef.ensures {u = tt}).each;
      rows = (c.in_ok-residuals.ensures {u = tt}).size;
      residuals = λ i l. each i l ∙ residual-same p _ _ (c.in_ok-coef.ensures {u = tt}).each i;
      all_sides = (c.in_ok-sides.ensures {u = tt}).size;
      sides = (c.in_ok-sides.ensures {u = tt}).each;
    }
