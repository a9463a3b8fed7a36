-- The vertex of a basis without a negative slope has dual values of equal cost.
use Rattle.std.specs.Prelude.{◌≡◌, ℕ, ◌<◌, Bool, true, false, List, length, slice_index, Contains, get_or, pos}
use Rattle.std.specs.Option.{option_map_or}
use Rattle.std.specs.declared.cmp.Ordering.{Ordering}
use Rattle.std.specs.declared.cmp.Ordering.TheVariants.{Less, Equal, Greater}
use Rattle.std.proofs.Common.{refl, sym, ap, subst, ◌∙◌}
use Rattle.std.proofs.lemmas.Option.{slice_get-get_or}
use Rattle.rational_laws.specs.Fraction.{Fraction}
use Rattle.rational_laws.specs.Rational.{ℚ, ◌+ℚ◌, ◌-ℚ◌, ◌*ℚ◌, neg_ℚ, whole, ◌≤ℚ◌}
use Rattle.rational_laws.proofs.RationalSumLaws.{sum_ℚ-same}
use Rattle.rational_laws.specs.RationalSums.{positive_ℚ, negative_ℚ}
use Rattle.rational_laws.proofs.MatrixLaws.{kernel-zero}
use Rattle.loss_model.specs.declared.problem.Problem.{Problem}
use Rattle.loss_model.specs.declared.vertex.Vertex.{Vertex}
use Rattle.loss_model.specs.Sample.{Sample, up_cost, down_cost, residual, row_loss, loss}
use Rattle.loss_model.specs.Dual.{IsDual}
use Rattle.loss_model.specs.FullRank.{HasFullRank}
use Rattle.loss_model.specs.Problem.{number_at, sample}
use Rattle.loss_model.specs.Vertex.{value_of_side, basic_value, dual_value}
use Rattle.loss_model.proofs.Vertices.{basic_value-at}
use Rattle.basis_model.specs.Perturbed.{side_of, held_coordinate}
use Rattle.basis_model.specs.Basis.{IsBasis, coefficient, side_at, dual_value as position_dual}
use Rattle.pivot_model.specs.Duals.{HasCosts, dual}
use Rattle.pivot_model.proofs.Bounds.{is_basic}
use Rattle.pivot_model.specs.Steps.{HasNoNegativeSlope}
use Rattle.pivot_model.specs.Results.{IsVertexAt, AreBasicDuals}
use Rattle.pivot_model.proofs.Among.{among_place}
use Rattle.pivot_model.proofs.Sides.{sign, side_basic, side_outside}
use Rattle.pivot_model.proofs.Optimal.{optimal}

-- the rows of a basis suffice for full rank
pub full_rank : (p : Sample) (at : ℕ → ℕ) (a : ℕ → ℕ → ℚ) → IsBasis p at a → HasFullRank p
full_rank p at a basis b sent k lk =
    kernel-zero p.columns (λ j k. p.x (at j) k) a basis.inverse b (λ j lj. sent (at j) (basis.distinct.within j lj)) k lk

-- dual values are of equal cost with all coefficients and values that are the same where they count
pub same_dual : (p : Sample) (theta : ℚ) (b b' e e' : ℕ → ℚ) → ((k : ℕ) → k < p.columns → b' k ≡ b k) → ((i : ℕ) → i < p.rows → e' i ≡ e i) → IsDual p theta b e → IsDual p theta b' e'
same_dual p theta b b' e e' coef values d =
    record {
      feasible = record {
        lower = λ i li. subst (λ z. neg_ℚ (down_cost p theta i) ≤ℚ z) (sym (values i li)) (d.feasible.lower i li);
        upper = λ i li. subst (λ z. z ≤ℚ up_cost p theta i) (sym (values i li)) (d.feasible.upper i li);
        balanced = λ k lk. sum_ℚ-same p.rows (λ i. e' i *ℚ p.x i k) (λ i. e i *ℚ p.x i k) (λ i li. ap (λ z. z *ℚ p.x i k) (values i li)) ∙ d.feasible.balanced k lk;
      };
      equal = same_loss ∙ d.equal ∙ sym (sum_ℚ-same p.rows (λ i. p.y i *ℚ e' i) (λ i. p.y i *ℚ e i) (λ i li. ap (λ z. p.y i *ℚ z) (values i li)));
    }
  where
    same_residual : (i : ℕ) → residual p b' i ≡ residual p b i
    same_residual i = ap (λ z. p.y i -ℚ z) (sum_ℚ-same p.columns (λ k. p.x i k *ℚ b' k) (λ k. p.x i k *ℚ b k) (λ k lk. ap (λ z. p.x i k *ℚ z) (coef k lk)))

    same_loss : loss p theta b' ≡ loss p theta b
    same_loss =
        sum_ℚ-same p.rows (row_loss p theta b') (row_loss p theta b)
        (λ i li. ap (λ r. (up_cost p theta i *ℚ positive_ℚ r) +ℚ (down_cost p theta i *ℚ negative_ℚ r)) (same_residual i))

-- an item of a list of numbers, whatever stands for those past its end
pub any_default : (xs : List ℕ) (k d e : ℕ) → k < length xs → get_or xs k d ≡ get_or xs k e
any_default xs k d e l = cc (sym (slice_get-get_or xs k d l) ∙ slice_get-get_or xs k e l)

-- a list that has at the rows of a basis the values by sides has with its vertex those of all rows
module _ {F : Type 0} (value : F → Fraction) (p : Problem F) (theta : ℚ) (basis : List ℕ) (a : ℕ → ℕ → ℚ) (v : Vertex) (list : List Fraction) (size : length basis ≡ p.columns)
    (vertex : IsVertexAt value p basis a v) (held : ℕ → ℚ) where
  abbrev q : Sample
  q = sample value p

  abbrev by_side : ℕ → ℚ
  by_side i = value_of_side q theta held i (side_at q (slice_index basis) a i)

  module _ (each : (k : ℕ) → k < length v.basis.rows → number_at list k ≡ by_side (slice_index v.basis.rows k)) where
    -- a row of the basis has the value of its place in the list
    basic_row : (i : ℕ) → is_basic q (slice_index basis) a i ≡ true → basic_value v list i ≡ by_side i
    basic_row i e =
        let place : (j : ℕ) × (j < p.columns) × (slice_index basis j ≡ i) = among_place (slice_index basis) p.columns i e in
        let inside : place.0 < length basis = subst (λ n. place.0 < n) (sym size) place.1 in
        let there : Contains v.basis.rows i = (vertex.rows i).1 (place.0, inside, any_default basis place.0 i 0 inside ∙ place.2) in
        let at : slice_index v.basis.rows there.0 ≡ i = any_default v.basis.rows there.0 0 i there.1 ∙ there.2 in
        ap (basic_value v list) (sym at) ∙ basic_value-at v list vertex.shape.ascending there.0 there.1 ∙ each there.0 there.1 ∙ ap by_side at

    same_value : (i : ℕ) → value_of_side q theta (basic_value v list) i (side_at q (slice_index basis) a i) ≡ by_side i
    same_value i = by (is_basic q (slice_index basis) a i) refl
      where
        outside : (o : Ordering) → value_of_side q theta (basic_value v list) i (side_of o) ≡ value_of_side q theta held i (side_of o)
        outside Greater = refl
        outside Less = refl
        outside Equal = refl

        by : (t : Bool) → is_basic q (slice_index basis) a i ≡ t → value_of_side q theta (basic_value v list) i (side_at q (slice_index basis) a i) ≡ by_side i
        by true e = ap (value_of_side q theta (basic_value v list) i) (side_basic q (slice_index basis) a i e) ∙ basic_row i e
        by false e =
            ap (value_of_side q theta (basic_value v list) i) (side_outside q (slice_index basis) a i e)
            ∙ outside (sign q (slice_index basis) a i)
            ∙ sym (ap (value_of_side q theta held i) (side_outside q (slice_index basis) a i e))

    pub value_by_side : (i : ℕ) → i < length p.rows → dual_value value p v list theta i ≡ value_of_side (sample value p) theta held i (side_at (sample value p) (slice_index basis) a i)
    value_by_side i li =
        ap (λ o. option_map_or (value_of_side q theta (basic_value v list) i) o (whole (pos 0))) (vertex.sides i li) ∙ same_value i

module _ {F : Type 0} (value : F → Fraction) (p : Problem F) (theta : ℚ) (basis : List ℕ) (a : ℕ → ℕ → ℚ) (v : Vertex) (basic : List Fraction)
    (size : length basis ≡ p.columns) (b : IsBasis (sample value p) (slice_index basis) a) (vertex : IsVertexAt value p basis a v)
    (duals : AreBasicDuals value p theta basis a v basic) where
  pub dual_value_is : (i : ℕ) → i < length p.rows → dual_value value p v basic theta i ≡ dual (sample value p) (slice_index basis) a theta i
  dual_value_is =
      value_by_side value p theta basis a v basic size vertex (held_coordinate p.columns (slice_index basis) (position_dual (sample value p) (slice_index basis) a theta))
      (λ k l. duals.each k (subst (λ n. k < n) vertex.shape.size l))

  pub vertex_is_optimal : HasCosts (sample value p) theta → HasNoNegativeSlope (sample value p) (slice_index basis) a theta → IsDual (sample value p) theta (number_at v.coef) (dual_value value p v basic theta)
  vertex_is_optimal costs stop =
      same_dual (sample value p) theta (coefficient (sample value p) (slice_index basis) a) (number_at v.coef) (dual (sample value p) (slice_index basis) a theta) (dual_value value p v basic theta)
      vertex.coef dual_value_is (optimal (sample value p) (slice_index basis) a b theta costs stop)
