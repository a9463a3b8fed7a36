-- A factor more.
use Rattle.std.proofs.Common.{rules, ◌≡◌, ℕ, ◌++◌, ◌∷◌, [], length, pos, refl, sym, ap, ◌∙◌}
use Rattle.std.specs.Prelude.{slice_get, Option, Some}
use Rattle.std.specs.Option.{option_map_or}
use Rattle.std.proofs.lemmas.Option.{slice_get_read}
use Rattle.rational_laws.specs.Fraction.{Fraction, rational}
use Rattle.rational_laws.specs.Rational.{ℚ, ◌-ℚ◌, ◌*ℚ◌, whole}
use Rattle.rational_laws.proofs.Lists.{length_pushed}
use Rattle.rational_laws.specs.Terms.{delta}
use Rattle.loss_model.specs.Problem.{number_at}
use Rattle.rational_laws.proofs.WholeLists.{whole_pushed}
use Rattle.cert_sums.proofs.projection.left_factors.Goals as goal

pub loop-k-preserved : goal.loop-k-preserved
loop-k-preserved c =
    let factors = c.args.factors.now in
    let made = c.loop-k.made in
    let k = c.loop-k.k in
    let number = c.in_ok-number.number in
    let left : ℕ → ℚ = λ k. whole (pos c.args.scale) *ℚ (delta k c.args.column -ℚ number_at factors k) in
    let grown : c.push.new.self ≡ made ++ number ∷ [] = search rules in
    let read : slice_get factors k ≡ Some c.index-factors-k.result = slice_get_read factors (length factors) k c.index-factors-k.result refl c.loop-k-test.true c.index-factors-k.is in
    let factor = (c.in_ok-factor.ensures {u = tt})
    ∙ ap (λ z. delta k c.args.column -ℚ z) (c.in_ok-stated.ensures {u = tt})
    ∙ sym (ap (λ (o : Option Fraction). delta k c.args.column -ℚ option_map_or (λ x. rational x) o (whole (pos 0))) read) in
    let is : whole number ≡ left k = (c.in_ok-number.ensures {u = tt}) ∙ ap (λ z. whole (pos c.args.scale) *ℚ z) factor in
    rw (grown) (record {
      size = length_pushed made number k c.loop-k.invariant.size;
      each = whole_pushed made number k left c.loop-k.invariant.size c.loop-k.invariant.each is;
    })
