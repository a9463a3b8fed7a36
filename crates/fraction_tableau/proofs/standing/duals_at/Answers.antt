use Rattle.std.proofs.Common.{◌≡◌, ◌<◌, ◌∷◌, [], length, length-append, ap, arith, ◌∙◌}
use Rattle.rational_laws.specs.Fraction.{rational}
use Rattle.rational_laws.specs.Rational.{◌+ℚ◌, ◌*ℚ◌}
use Rattle.loss_model.specs.Problem.{value_at}
use Rattle.loss_model.proofs.Products.{value_read}
use Rattle.basis_inverse.proofs.Lists.{value_more}
use Rattle.fraction_tableau.proofs.standing.duals_at.Goals as goal

pub loop-position-preserved : goal.loop-position-preserved
loop-position-preserved g c =
    let value = g.F.Exact.value in
    let j = c.loop-position.position in
    let constant = c.args.constant.now in
    let linear = c.args.linear.now in
    let theta = rational (value c.args.theta) in
    let item = c.in_ok-dual_value.field-0 in
    let added = c.in_ok-add.ensures.added in
    let within : j < length linear = omega (arith, c.requires.same, c.loop-position-test.true) in
    let first : rational (value c.index-constant-position.result) ≡ value_at value constant j = value_read value constant j c.index-constant-position.result c.loop-position-test.true c.index-constant-position.is in
    let second : rational (value c.index-linear-position.result) ≡ value_at value linear j = value_read value linear j c.index-linear-position.result within c.index-linear-position.is in
    record {
      size = omega (arith, ap length added, length-append c.loop-position.made (item ∷ []), c.loop-position.invariant.size);
      each = value_more value c.loop-position.made c.add.new.self item j (λ j. value_at value constant j +ℚ (value_at value linear j *ℚ theta)) added c.loop-position.invariant.size c.loop-position.invariant.each
          ((c.in_ok-dual_value.ensures {u = tt}).exact ∙ ap (λ z. z +ℚ (rational (value c.index-linear-position.result) *ℚ theta)) first ∙ ap (λ z. value_at value constant j +ℚ (z *ℚ theta)) second);
    }
