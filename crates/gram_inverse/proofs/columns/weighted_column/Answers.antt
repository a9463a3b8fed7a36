use Rattle.std.proofs.Common.{◌+◌, length, ap, ◌∙◌}
use Rattle.std.proofs.lemmas.List.{length_push}
use Rattle.loss_model.specs.Problem.{sample}
use Rattle.gram_matrix.specs.Grams.{scaled}
use Rattle.gram_inverse.proofs.Lists.{one_more}
use Rattle.gram_inverse.proofs.columns.weighted_column.Goals as goal

pub loop-row-preserved : goal.loop-row-preserved
loop-row-preserved g c =
    let grown = (c.in_ok-add.ensures {u = tt}).added in
    record {
      size = ap length grown ∙ length_push c.loop-row.made c.in_ok-entry.entry ∙ ap (λ n. n + 1) c.loop-row.invariant.size;
      each = one_more c.loop-row.made c.add.new.self c.in_ok-entry.entry (λ i. scaled (sample g.F.Exact.value c.args.problem.now) i c.args.column) c.loop-row.row c.loop-row.invariant.size c.loop-row.invariant.each
          (c.in_ok-entry.ensures {u = tt}) grown;
    }
