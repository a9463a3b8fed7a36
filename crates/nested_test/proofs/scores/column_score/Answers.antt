use Rattle.std.proofs.Common.{length, sym, ap, ◌∙◌}
use Rattle.rational_laws.specs.Rational.{◌*ℚ◌}
use Rattle.rational_laws.proofs.RationalSumLaws.{sum_ℚ-same}
use Rattle.gram_inverse.specs.Products.{inner}
use Rattle.gram_matrix.specs.Grams.{scaled}
use Rattle.loss_model.specs.Problem.{value_at, sample}
use Rattle.nested_test.proofs.scores.column_score.Goals as goal

pub inner_product-requires : goal.inner_product-requires
inner_product-requires g c = ap length c.as_slice.ensures ∙ (c.in_ok-weighted.ensures {u = tt}).size ∙ sym c.requires.scored

pub returns : goal.returns
returns g c =
    let p = sample g.F.Exact.value c.args.full.now in
    let weighted = c.in_ok-weighted.ensures {u = tt} in
    c.in_ok-score.ensures ∙ ap (λ xs. inner (length xs) xs c.args.wilcoxon.now) c.as_slice.ensures
    ∙ ap (λ n. inner n c.in_ok-weighted.weighted c.args.wilcoxon.now) weighted.size
    ∙ sum_ℚ-same p.rows (λ i. value_at (λ x. x) c.in_ok-weighted.weighted i *ℚ value_at (λ x. x) c.args.wilcoxon.now i) (λ i. scaled p i c.args.column *ℚ value_at (λ x. x) c.args.wilcoxon.now i)
    (λ i li. ap (λ z. z *ℚ value_at (λ x. x) c.args.wilcoxon.now i) (weighted.each i li))
