use Rattle.std.proofs.Common.{◌≡◌, ℕ, ◌<◌, slice_index, inl, inr, ◌∙◌}
use Rattle.std.proofs.lemmas.Result.{IfOk-weaker, IfErr-weaker}
use Rattle.loss_model.specs.Problem.{value_at, sample}
use Rattle.basis_inverse.specs.Square.{inverse_entry}
use Rattle.basis_model.specs.Basis.{side_at, nonbasic_total}
use Rattle.basic_solution.proofs.Agreeing.{total-same, total_spill-same, balancing-same, balancing_spill-same}
use Rattle.basic_solution.proofs.Exits.{by_cause, short_map}
use Rattle.basic_solution.proofs.solution.basic_duals.Goals as goal

pub returns-in_err-weights-clause-spill : goal.returns-in_err-weights-clause-spill
returns-in_err-weights-clause-spill g c =
    let p = sample g.F.Exact.value c.args.station.now.problem.now in
    by_cause c.from_residual.result _ _ _ c.from_residual.ensures.1
    (λ s (k, l, h). inl (c.args.part, (k, l, total_spill-same p _ _ c.requires.sides c.args.part k g.F.Exact.value g.F.Exact.range s h)))
    (c.in_err-weights.ensures {u = tt}).spill

pub returns : goal.returns
returns g c =
    let value = g.F.Exact.value in
    let p = sample value c.args.station.now.problem.now in
    let at = slice_index c.args.station.now.basis.now.rows in
    let a = inverse_entry value c.args.station.now.inverse.now in
    let weights = c.in_ok-weights.weights in
    let told = c.in_ok-weights.ensures {u = tt} in
    let made = rw (c.as_slice.ensures, told.size) at c.balancing_values.ensures in
    let same : (k : ℕ) → k < p.columns → value_at value weights k ≡ nonbasic_total p (side_at p at a) c.args.part k =
    λ k l. told.each k l ∙ total-same p _ _ c.requires.sides c.args.part k in
    record {
      size = made.size;
      each = IfOk-weaker c.balancing_values.result _ _ (λ found h j l. h j l ∙ balancing-same p.columns a _ _ same j) made.each;
      spill = IfErr-weaker c.balancing_values.result _ _
          (λ e. short_map _ _ e (λ s (j, l, h). inr (c.args.part, (j, l, balancing_spill-same p.columns a _ _ same value g.F.Exact.range c.args.part j s h))))
          made.spill;
    }
