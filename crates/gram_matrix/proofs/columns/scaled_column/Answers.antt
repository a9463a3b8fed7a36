use Rattle.std.proofs.Common.{◌∷◌, [], length, length-append, ap, arith}
use Rattle.loss_model.specs.Problem.{sample}
use Rattle.basis_inverse.proofs.Lists.{value_more}
use Rattle.gram_matrix.specs.Grams.{scaled}
use Rattle.gram_matrix.proofs.columns.scaled_column.Goals as goal

pub loop-row-preserved : goal.loop-row-preserved
loop-row-preserved g c =
    let value = g.F.Exact.value in
    let entry = c.in_ok-entry.entry in
    let added = c.in_ok-add.ensures.added in
    record {
      size = omega (arith, ap length added, length-append c.loop-row.made (entry ∷ []), c.loop-row.invariant.size);
      each = value_more value c.loop-row.made c.add.new.self entry c.loop-row.row (λ i. scaled (sample value c.args.problem.now) i c.args.column)
          added c.loop-row.invariant.size c.loop-row.invariant.each (c.in_ok-entry.ensures {u = tt}).exact;
    }
