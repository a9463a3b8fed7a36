-- A value more.
use Rattle.std.proofs.Common.{rules, ◌≡◌, ◌++◌, ◌∷◌, [], ap₂, ◌∙◌, ap, ◌+◌}
use Rattle.std.proofs.lemmas.List.{length_push}
use Rattle.rational_laws.specs.Rational.{◌*ℚ◌}
use Rattle.loss_model.specs.Problem.{value_at}
use Rattle.loss_model.proofs.Products.{value_read}
use Rattle.whole_rows.specs.Wholes.{factor_at}
use Rattle.whole_rows.proofs.ValueLists.{value_pushed}
use Rattle.whole_rows.proofs.values.scaled.Goals as goal

pub loop-k-preserved : goal.loop-k-preserved
loop-k-preserved g c =
    let value = g.F.Exact.value in
    let xs = c.args.values.now in
    let k = c.loop-k.k in
    let made = c.loop-k.made in
    let x = c.in_ok-value.value in
    let grown : c.add.new.self ≡ made ++ x ∷ [] = search rules in
    let before = c.loop-k.invariant in
    rw (grown) (record {
      size = length_push made x ∙ ap (λ m. m + 1) before.size;
      each = value_pushed value made x k (λ k. value_at value xs k *ℚ factor_at c.args.factors.now k) before.size before.each
          ((c.in_ok-value.ensures {u = tt}) ∙ ap₂ (λ y z. y *ℚ z) (value_read value xs k c.index-values-k.result c.loop-k-test.true c.index-values-k.is) c.factor_of.ensures);
    })
