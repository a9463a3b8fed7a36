-- What sums of whole numbers show of the conditions on an interval.
use Rattle.std.specs.Prelude.{◌≡◌, ◌≢◌, ℕ, zero, suc, ◌<◌, Bool, true, false, List, [], length, eqb, pos, if◌then◌else◌}
use Rattle.std.proofs.Common.{arith, refl, sym, ap, subst, ◌∙◌}
use borrow.Author.Tests.{eqb-false}
use Rattle.rational_laws.specs.Fraction.{rational, Fraction}
use Rattle.rational_laws.specs.Rational.{ℚ, ◌*ℚ◌, neg_ℚ, whole, ◌≤ℚ◌}
use Rattle.rational_laws.proofs.RationalSumLaws.{sum_ℚ-same}
use Rattle.frac_core.specs.declared.frac128.Frac128.{Frac128}
use Rattle.frac_core.specs.Values.{value as value128}
use Rattle.loss_model.specs.declared.interval.IntervalProof.{IntervalProof}
use Rattle.loss_model.specs.declared.problem.Problem.{Problem}
use Rattle.loss_model.specs.declared.vertex.Side.{Side}
use Rattle.loss_model.specs.declared.vertex.Side.TheVariants.{Up, Down, Basic}
use Rattle.loss_model.specs.declared.vertex.Vertex.{Vertex}
use Rattle.loss_model.specs.Problem.{sample, number_at}
use Rattle.loss_model.specs.Sample.{up_cost, down_cost, residual}
use Rattle.loss_model.specs.Strict.{◌<ℚ◌}
use Rattle.loss_model.specs.Vertex.{IsOn}
use Rattle.rank_model.specs.Restricted.{column_sum, IsProjection, rank_bound, squared_length}
use Rattle.cert_sums.specs.Duals.{dual_of}
use Rattle.cert_sums.specs.Ranks.{IsPositive, IsHeld, IsInsideBound, IsBeyondBound}
use Rattle.cert_sums.specs.Within.{IsWithinCosts}
use Rattle.cert_checker.specs.Formulas as formula
use Rattle.cert_checker.specs.Formulas.{given, worth}
use Rattle.cert_checker.specs.Tests.{Part, Holds, ArePartsTrue, AreTrue, upto, part}
use Rattle.cert_checker.specs.Conditions.{End, side_in, dual_at_row, balance, bound_parts, zero_formula}
use Rattle.cert_checker.specs.Intervals.{Question, question_of, others, orthogonal_formula, basic_parts, side_parts, within_parts, balance_parts, statistic, inside_tests, sign_of}
use Rattle.cert_checker.specs.Views.{projection_tests, outside_tests}
use Rattle.cert_checker.specs.declared.relation.Relation.TheVariants.{Equal}
use Rattle.cert_checker.specs.declared.way.Way.{Way}
use Rattle.cert_checker.proofs.Decided.{parts_joined}
use Rattle.cert_checker.proofs.Ranks.{orthogonal_is, square_is, bound_is}
use Rattle.cert_checker.proofs.Wholes.{dual_is}
use Rattle.cert_checker.proofs.Worths.{worth-sum, worth-residual}

pub parts_upto : (n : ℕ) (f : ℕ → List Part) → ((i : ℕ) → i < n → ArePartsTrue (f i)) → ArePartsTrue (upto n f)
parts_upto zero f h = tt
parts_upto (suc n) f h = parts_joined (upto n f) (f n) (parts_upto n f (λ i l. h i (omega arith))) (h n (omega arith))

pub unless_own : (b : Bool) (ps : List Part) → (b ≡ false → ArePartsTrue ps) → ArePartsTrue (if b then [] else ps)
unless_own true ps h = tt
unless_own false ps h = h refl

-- the comparisons of each column but one
pub but_one : (j n : ℕ) (f : ℕ → List Part) → ((k : ℕ) → k < n → k ≢ j → ArePartsTrue (f k)) → ArePartsTrue (others j n f)
but_one j n f h = parts_upto n (λ k. if eqb k j then [] else f k) (λ k l. unless_own (eqb k j) (f k) (λ e. h k l (eqb-false k j e)))

module _ (p : Problem Frac128) (t : IntervalProof) where
  abbrev c : ℕ → ℚ
  c = number_at t.projection

  pub projection_true : IsProjection (sample value128 p) t.column (number_at t.projection) → IsPositive (squared_length (sample value128 p) t.column (number_at t.projection))
      → (m : ℕ) → AreTrue (projection_tests (question_of (sample value128 p) t) m)
  projection_true pr positive m = (
    but_one t.column p.columns (λ k. part (orthogonal_formula (sample value128 p) t.column c k) Equal zero_formula)
        (λ k l other. (orthogonal_is p t pr.own k ∙ pr.orthogonal k l other, tt)),
    ((subst (λ z. whole (pos 0) <ℚ z) (sym (square_is p t pr.own)) positive, tt), tt),
  )

  module _ (v : Vertex) (basic : List Fraction) where
    abbrev e : End
    e = record { theta = rational t.tau; vertex = v; basic = basic }

    abbrev dual : ℕ → ℚ
    dual = dual_of (sample value128 p) (rational t.tau) v basic

    bounded : (i : ℕ) (side : Side) → IsWithinCosts (sample value128 p) (rational t.tau) side (dual_of (sample value128 p) (rational t.tau) v basic i) i → ArePartsTrue (bound_parts (sample value128 p) e i side)
    bounded i Up h = tt
    bounded i Down h = tt
    bounded i Basic h = (
      subst (λ z. z ≤ℚ up_cost (sample value128 p) (rational t.tau) i) (sym (dual_is p e i)) (h.upper refl),
      (subst (λ z. neg_ℚ (down_cost (sample value128 p) (rational t.tau) i) ≤ℚ z) (sym (dual_is p e i)) (h.lower refl), tt),
    )

    weighs : (k : ℕ) → worth (balance (sample value128 p) e k) ≡ column_sum (sample value128 p) (dual_of (sample value128 p) (rational t.tau) v basic) k
    weighs k =
        worth-sum (length p.rows) (λ i. formula.times (dual_at_row (sample value128 p) e i) (given ((sample value128 p).x i k)))
        ∙ sum_ℚ-same (length p.rows) _ (λ i. dual i *ℚ (sample value128 p).x i k) (λ i m. ap (λ z. z *ℚ (sample value128 p).x i k) (dual_is p e i))

    within_true : IsHeld (sample value128 p) t v basic → ArePartsTrue (within_parts (question_of (sample value128 p) t) e)
    within_true h = parts_upto (length p.rows) (λ i. bound_parts (sample value128 p) e i (side_in v i)) (λ i l. bounded i (side_in v i) (h.within i l))

    balance_true : IsHeld (sample value128 p) t v basic → ArePartsTrue (balance_parts (question_of (sample value128 p) t) e)
    balance_true h =
        but_one t.column p.columns (λ k. part (balance (sample value128 p) e k) Equal zero_formula) (λ k l other. (weighs k ∙ h.balanced k l other, tt))

    fitted_true : (i : ℕ) (side : Side) → IsOn side (residual (sample value128 p) (number_at v.coef) i) → ArePartsTrue (basic_parts (sample value128 p) v i side)
    fitted_true i Up h = tt
    fitted_true i Down h = tt
    fitted_true i Basic h = (worth-residual (sample value128 p) (number_at v.coef) i ∙ h, tt)

    sided_true : (i : ℕ) (side : Side) → IsOn side (residual (sample value128 p) (number_at v.coef) i) → ArePartsTrue (side_parts (sample value128 p) v i side)
    sided_true i Up h = (subst (λ z. whole (pos 0) ≤ℚ z) (sym (worth-residual (sample value128 p) (number_at v.coef) i)) h, tt)
    sided_true i Down h = (subst (λ z. z ≤ℚ whole (pos 0)) (sym (worth-residual (sample value128 p) (number_at v.coef) i)) h, tt)
    sided_true i Basic h = tt

    -- the square of the statistic, and the bound
    abbrev a : Question
    a = question_of (sample value128 p) t

    pub inside_true : ((i : ℕ) → i < length p.rows → IsOn (side_in v i) (residual (sample value128 p) (number_at v.coef) i)) → IsInsideBound (sample value128 p) t v basic
        → (m n : ℕ) → AreTrue (inside_tests (question_of (sample value128 p) t) m n (record { theta = rational t.tau; vertex = v; basic = basic }))
    inside_true on h m n =
        let z = worth (statistic (question_of (sample value128 p) t) e) in
        let squared = subst (λ x. (x *ℚ x) ≤ℚ rank_bound (rational t.tau) (rational t.crit) (squared_length (sample value128 p) t.column c)) (sym (weighs t.column)) h.within in
        let bounds = subst (λ b. (z *ℚ z) ≤ℚ b) (sym (bound_is p t h.projection.own)) squared in (
          parts_upto (length p.rows) (λ i. basic_parts (sample value128 p) v i (side_in v i)) (λ i l. fitted_true i (side_in v i) (on i l)),
          (
            parts_upto (length p.rows) (λ i. side_parts (sample value128 p) v i (side_in v i)) (λ i l. sided_true i (side_in v i) (on i l)),
            (within_true h.held, (balance_true h.held, ((bounds, tt), tt))),
          ),
        )

    pub outside_true : (way : Way) (found : Frac128) → IsBeyondBound (sample value128 p) t v basic found → Holds (sign_of way) (rational (value128 found)) (whole (pos 0))
        → (m : ℕ) → AreTrue (outside_tests (question_of (sample value128 p) t) way m (record { theta = rational t.tau; vertex = v; basic = basic }))
    outside_true way found h sign m =
        let z = worth (statistic (question_of (sample value128 p) t) e) in
        let squared = subst (λ x. rank_bound (rational t.tau) (rational t.crit) (squared_length (sample value128 p) t.column c) <ℚ (x *ℚ x)) (sym (weighs t.column)) h.beyond in
        let bounds = subst (λ b. b <ℚ (z *ℚ z)) (sym (bound_is p t h.projection.own)) squared in (
          parts_joined (within_parts (question_of (sample value128 p) t) e) (balance_parts (question_of (sample value128 p) t) e) (within_true h.held) (balance_true h.held),
          ((subst (λ x. Holds (sign_of way) x (whole (pos 0))) (h.value ∙ sym (weighs t.column)) sign, (bounds, tt)), tt),
        )
