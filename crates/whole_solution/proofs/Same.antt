-- What all rows weigh, and what balances it.
use Rattle.std.specs.Prelude.{◌≡◌, ℕ, ℤ, ◌<◌}
use Rattle.std.proofs.Common.{ap, ◌∙◌}
use Rattle.rational_laws.specs.Rational.{ℚ, ◌-ℚ◌, ◌*ℚ◌, neg_ℚ}
use Rattle.rational_laws.proofs.RationalSumLaws.{sum_ℚ-same}
use Rattle.loss_model.specs.declared.vertex.Side.{Side}
use Rattle.loss_model.specs.Sample.{Sample, residual}
use Rattle.basis_model.specs.declared.part.Part.{Part}
use Rattle.basis_model.specs.Basis.{side_at, bound_part, nonbasic_total, balancing, basic_dual}
use Rattle.rational_laws.specs.WholeLists.{whole_at}
use Rattle.whole_solution.specs.declared.totals.Totals.{Totals}
use Rattle.whole_solution.specs.declared.totals.Weights.{Weights}
use Rattle.whole_solution.specs.Weighing.{weighed, AreTotals, AreWeights}

-- rows on the same sides weigh the same
weighed-same : (p : Sample) (o o' : ℕ → Side) (part : Part) (f : ℕ → ℚ) (n : ℕ) → ((i : ℕ) → i < n → o i ≡ o' i) → weighed p o part f n ≡ weighed p o' part f n
weighed-same p o o' part f n h =
    sum_ℚ-same n (λ i. f i *ℚ bound_part p part i (o i)) (λ i. f i *ℚ bound_part p part i (o' i)) (λ i li. ap (λ (side : Side). f i *ℚ bound_part p part i side) (h i li))

totals-same : (p : Sample) (o o' : ℕ → Side) (part : Part) (t : Totals ℤ) → ((i : ℕ) → i < p.rows → o i ≡ o' i) → AreTotals p o part t → AreTotals p o' part t
totals-same p o o' part t h are =
    record {
      size = are.size;
      columns = λ k lk. are.columns k lk ∙ weighed-same p o o' part (λ i. p.x i k) p.rows h;
      response = are.response ∙ weighed-same p o o' part p.y p.rows h;
    }

pub weights-same : (p : Sample) (o o' : ℕ → Side) (w : Weights ℤ) → ((i : ℕ) → i < p.rows → o i ≡ o' i) → AreWeights p o w → AreWeights p o' w
weights-same p o o' w h are = record { constant = totals-same p o o' _ w.constant h are.constant; linear = totals-same p o o' _ w.linear h are.linear }

-- what balances the totals of rows on their sides are the basic dual values
pub duals_from : (p : Sample) (at : ℕ → ℕ) (a : ℕ → ℕ → ℚ) (o : ℕ → Side) (part : Part) (t : Totals ℤ) → ((i : ℕ) → i < p.rows → o i ≡ side_at p at a i) → AreTotals p o part t
    → (j : ℕ) → balancing p.columns a (whole_at t.columns) j ≡ basic_dual p at a part j
duals_from p at a o part t h are j =
    sum_ℚ-same p.columns (λ k. neg_ℚ (whole_at t.columns k) *ℚ a k j) (λ k. neg_ℚ (nonbasic_total p (side_at p at a) part k) *ℚ a k j)
    (λ k lk. ap (λ z. neg_ℚ z *ℚ a k j) (are.columns k lk ∙ weighed-same p o (side_at p at a) part (λ i. p.x i k) p.rows h))

-- coefficients that agree leave the same residuals
pub residual_same : (p : Sample) (b b' : ℕ → ℚ) → ((k : ℕ) → k < p.columns → b k ≡ b' k) → (i : ℕ) → residual p b i ≡ residual p b' i
residual_same p b b' h i =
    ap (λ f. p.y i -ℚ f) (sum_ℚ-same p.columns (λ k. p.x i k *ℚ b k) (λ k. p.x i k *ℚ b' k) (λ k lk. ap (λ z. p.x i k *ℚ z) (h k lk)))
