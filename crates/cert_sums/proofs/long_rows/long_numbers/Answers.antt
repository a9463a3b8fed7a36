-- A number more.
use Rattle.std.proofs.Common.{rules, ◌≡◌, ℕ, ◌++◌, ◌∷◌, [], length, pos, neg_ℤ, refl, sym, ap, ◌∙◌}
use Rattle.std.specs.Prelude.{slice_get, Option, Some}
use Rattle.std.specs.Option.{option_map_or}
use Rattle.std.proofs.lemmas.Option.{slice_get_read}
use Rattle.rational_laws.specs.Fraction.{Fraction, rational}
use Rattle.rational_laws.specs.Solver.{negated, ◌⊠◌, v0, v1}
use Rattle.rational_laws.specs.Rational.{ℚ, ◌*ℚ◌, neg_ℚ, whole}
use Rattle.rational_laws.proofs.RationalLaws.{ring_ℚ}
use Rattle.rational_laws.proofs.WholeNumbers.{whole-neg}
use Rattle.rational_laws.proofs.Lists.{length_pushed}
use Rattle.rational_laws.proofs.WholeLists.{whole_pushed}
use Rattle.loss_model.specs.Problem.{number_at}
use Rattle.cert_sums.proofs.long_rows.long_numbers.Goals as goal

pub loop-k-preserved : goal.loop-k-preserved
loop-k-preserved c =
    let coef = c.args.coef.now in
    let made = c.loop-k.made in
    let k = c.loop-k.k in
    let number = c.neg.result in
    let plain = c.in_ok-plain.plain in
    let x = c.index-coef-k.result in
    let S = whole (pos c.args.scale.now) in
    let want : ℕ → ℚ = λ k. whole (pos c.args.scale.now) *ℚ neg_ℚ (number_at coef k) in
    let grown : c.push.new.self ≡ made ++ number ∷ [] = search rules in
    let read : slice_get coef k ≡ Some x = slice_get_read coef (length coef) k x refl c.loop-k-test.true c.index-coef-k.is in
    let scaled : whole plain ≡ S *ℚ rational x = c.in_ok-plain.ensures {u = tt} in
    let minus : number ≡ neg_ℤ plain = c.neg.ensures in
    let is : whole number ≡ want k
    = ap whole minus ∙ whole-neg plain ∙ ap neg_ℚ scaled ∙ ring_ℚ (S ∷ rational x ∷ []) (negated (v0 ⊠ v1)) (v0 ⊠ negated v1) refl
    ∙ sym (ap (λ (o : Option Fraction). S *ℚ neg_ℚ (option_map_or (λ x. rational x) o (whole (pos 0)))) read) in
    rw (grown) (record {
      size = length_pushed made number k c.loop-k.invariant.size;
      each = whole_pushed made number k want c.loop-k.invariant.size c.loop-k.invariant.each is;
    })
