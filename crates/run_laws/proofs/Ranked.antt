-- A rank interval that meets its conditions makes the conditions on the intervals of a certificate true.
use Rattle.std.proofs.Common.{◌≡◌, ℕ, ◌<◌, Bool, true, false, cond, eqb, List, [], ◌∷◌, ◌++◌, length, slice_get, Option, Some, pos, negsuc, inl, inr, arith, refl, sym, ap, subst, ◌∙◌}
use Rattle.std.specs.Option.{option_map_or}
use Rattle.std.specs.declared.cmp.Ordering.{Ordering}
use Rattle.std.specs.declared.cmp.Ordering.TheVariants.{Less, Equal as Same, Greater}
use Rattle.std.proofs.lemmas.Int.{ints}
use Rattle.std.proofs.lemmas.Bool.{eqb-true}
use Rattle.rational_laws.specs.Fraction.{Fraction, rational}
use Rattle.rational_laws.specs.Order.{cmp_ℚ}
use Rattle.rational_laws.specs.Rational.{ℚ, ◌-ℚ◌, ◌*ℚ◌, neg_ℚ, whole, ◌≤ℚ◌}
use Rattle.rational_laws.specs.RationalSums.{sum_ℚ}
use Rattle.rational_laws.specs.Solver.{number, negated, ◌⊟◌, ◌⊠◌, v0, v1, v2}
use Rattle.rational_laws.proofs.OrderLaws.{cmp_ℚ-Less, cmp_ℚ-Equal, cmp_ℚ-Greater, le_from_not}
use Rattle.rational_laws.proofs.RationalLaws.{ring_ℚ, ≤ℚ_refl}
use Rattle.rational_laws.proofs.RationalSumLaws.{sum_ℚ-same, sum_ℚ-scale}
use Rattle.rational_laws.proofs.WholeNumbers.{le_from_whole}
use Rattle.rational_laws.proofs.Lists.{item_there}
use Rattle.frac_core.specs.declared.frac128.Frac128.{Frac128}
use Rattle.frac_core.specs.Values.{value as value128}
use Rattle.loss_model.specs.declared.problem.Problem.{Problem}
use Rattle.loss_model.specs.declared.vertex.Side.{Side}
use Rattle.loss_model.specs.declared.vertex.Side.TheVariants.{Up, Down, Basic}
use Rattle.loss_model.specs.declared.vertex.Vertex.{Vertex}
use Rattle.loss_model.specs.declared.interval.Bound.{Bound}
use Rattle.loss_model.specs.declared.interval.Bound.TheVariants.{Finite, Infinite}
use Rattle.loss_model.specs.declared.interval.Beyond.{Beyond}
use Rattle.loss_model.specs.declared.interval.Beyond.TheVariants.{Outside, Ray}
use Rattle.loss_model.specs.declared.interval.End.{End as Ending}
use Rattle.loss_model.specs.declared.interval.IntervalProof.{IntervalProof}
use Rattle.loss_model.specs.Problem.{number_at, sample}
use Rattle.loss_model.specs.Sample.{Sample, up_cost, down_cost, fitted, residual}
use Rattle.loss_model.specs.Strict.{◌<ℚ◌}
use Rattle.loss_model.specs.Vertex.{dual_value, IsOn}
use Rattle.rank_model.specs.Restricted.{IsFeasibleWithout, column_sum, projected, rank_bound, rank_statistic, squared_length}
use Rattle.rank_model.specs.Shown.{IsRowAlong, IsStatedRay}
use Rattle.rank_model.specs.Certified.{AreInOrder, MeetsConditions, MeetsHighBound, MeetsInside, MeetsLowBound, MeetsOutside, bound_of, length_of}
use Rattle.cert_checker.specs.Formulas as formula
use Rattle.cert_checker.specs.Formulas.{given, worth}
use Rattle.cert_checker.specs.Tests.{Holds, ArePartsTrue, AreTrue, part}
use Rattle.cert_checker.specs.declared.relation.Relation.TheVariants.{Equal}
use Rattle.cert_checker.specs.declared.way.Way.{Way}
use Rattle.cert_checker.specs.declared.way.Way.TheVariants.{Low, High}
use Rattle.cert_checker.specs.Conditions.{End, side_in, dual_at_row, balance, bound_parts, residual_formula}
use Rattle.cert_checker.specs.Intervals.{along_formula, balance_parts, basic_parts, beyond_tests, data_parts, end_form, end_tests, finite_tests, infinite_tests, inside_tests}
use Rattle.cert_checker.specs.Intervals.{interval_form, interval_tests, order_tests, orthogonal_formula, projected_formula, question_of, Question, rank_bound_formula, ray_parts}
use Rattle.cert_checker.specs.Intervals.{ray_parts_by, side_parts, sign_of, square_formula, unit_of, values_of, weighted, whole_tests, within_parts}
use Rattle.run_laws.specs.Sound.{IsSoundEnding, IsSoundInterval}
use Rattle.cert_checker.proofs.Decided.{joined, parts_joined}
use Rattle.cert_checker.proofs.Shown.{row_dual}
use Rattle.cert_checker.proofs.Worths.{worth-sum, worth-less_others, worth-residual}
use Rattle.cert_checker.proofs.Held.{parts_upto, but_one}

-- ---- the other columns

-- ---- the projection

module _ (p : Sample) (j : ℕ) (c : ℕ → ℚ) (own : c j ≡ whole (pos 0)) where
  -- a term of the projection, as the formula and as the definition have it; that of column j is 0
  one_term : (i k : ℕ) (b : Bool) → (b ≡ true → k ≡ j)
      → cond b (whole (pos 0)) (c k *ℚ (p.up1 i *ℚ p.x i k)) ≡ p.up1 i *ℚ (p.x i k *ℚ c k)
  one_term i k true e =
      let none : c k ≡ whole (pos 0) = ap c (e refl) ∙ own in
      ring_ℚ (p.up1 i ∷ p.x i k ∷ []) (number (pos 0)) (v0 ⊠ (v1 ⊠ number (pos 0))) refl ∙ ap (λ z. p.up1 i *ℚ (p.x i k *ℚ z)) (sym none)
  one_term i k false e = ring_ℚ (p.up1 i ∷ p.x i k ∷ c k ∷ []) (v2 ⊠ (v0 ⊠ v1)) (v0 ⊠ (v1 ⊠ v2)) refl

  projected_is : (i : ℕ) → worth (projected_formula p j c i) ≡ projected p j c i
  projected_is i =
      worth-less_others j (weighted p j i) (λ k. formula.times (given (c k)) (weighted p k i)) p.columns
      ∙ ap (λ z. (p.up1 i *ℚ p.x i j) -ℚ z)
      (sum_ℚ-same p.columns (λ k. cond (eqb k j) (whole (pos 0)) (c k *ℚ (p.up1 i *ℚ p.x i k))) (λ k. p.up1 i *ℚ (p.x i k *ℚ c k))
      (λ k l. one_term i k (eqb k j) (λ e. eqb-true k j e))
      ∙ sum_ℚ-scale p.columns (p.up1 i) (λ k. p.x i k *ℚ c k))
      ∙ ring_ℚ (p.up1 i ∷ p.x i j ∷ fitted p c i ∷ []) (v0 ⊠ v1 ⊟ v0 ⊠ v2) (v0 ⊠ (v1 ⊟ v2)) refl

  orthogonal_is : (k : ℕ) → worth (orthogonal_formula p j c k) ≡ sum_ℚ p.rows (λ i. projected p j c i *ℚ (p.up1 i *ℚ p.x i k))
  orthogonal_is k =
      worth-sum p.rows (λ i. formula.times (projected_formula p j c i) (weighted p k i))
      ∙ sum_ℚ-same p.rows (λ i. worth (projected_formula p j c i) *ℚ (p.up1 i *ℚ p.x i k)) (λ i. projected p j c i *ℚ (p.up1 i *ℚ p.x i k))
      (λ i l. ap (λ z. z *ℚ (p.up1 i *ℚ p.x i k)) (projected_is i))

  square_is : worth (square_formula p j c) ≡ squared_length p j c
  square_is =
      worth-sum p.rows (λ i. formula.times (projected_formula p j c i) (projected_formula p j c i))
      ∙ sum_ℚ-same p.rows (λ i. worth (projected_formula p j c i) *ℚ worth (projected_formula p j c i)) (λ i. projected p j c i *ℚ projected p j c i)
      (λ i l. ap (λ z. z *ℚ z) (projected_is i))

-- ---- one end

-- a row has the side that is found for it
side_is : (v : Vertex) (i : ℕ) → i < length v.sides → slice_get v.sides i ≡ Some (side_in v i)
side_is v i l =
    let at = item_there v.sides i l in
    at.1 ∙ ap Some (sym (ap (λ (o : Option Side). option_map_or (λ side. side) o Basic) at.1))

along_is : (p : Sample) (ray : ℕ → ℚ) (i : ℕ) → worth (along_formula p ray i) ≡ fitted p ray i
along_is p ray i = worth-sum p.columns (λ k. formula.times (given (p.x i k)) (given (ray k)))

module _ (p : Problem Frac128) (a : IntervalProof) (meets : MeetsConditions value128 p a) where
  abbrev s : Sample
  s = sample value128 p

  abbrev tau : ℚ
  tau = rational a.tau

  abbrev crit : ℚ
  crit = rational a.crit

  abbrev factors : ℕ → ℚ
  factors = number_at a.projection

  abbrev q : ℚ
  q = length_of value128 p a

  abbrev asked : Question
  asked = question_of (sample value128 p) a

  bound_is : worth (rank_bound_formula asked) ≡ rank_bound tau crit q
  bound_is = ap (λ z. ((crit *ℚ tau) *ℚ (whole (pos 1) -ℚ tau)) *ℚ z) (square_is (sample value128 p) a.column factors meets.projection.own)

  module _ (v : Vertex) (basic : List Fraction) (sides : length v.sides ≡ length p.rows) where
    abbrev at_end : End
    at_end = values_of asked v basic

    abbrev values : ℕ → ℚ
    values = dual_value value128 p v basic tau

    dual_is : (i : ℕ) → i < length p.rows → worth (dual_at_row (sample value128 p) (values_of asked v basic) i) ≡ dual_value value128 p v basic tau i
    dual_is i l = row_dual p (values_of asked v basic) i (omega (arith, sides, l))

    balance_is : (k : ℕ) → worth (balance (sample value128 p) (values_of asked v basic) k) ≡ column_sum (sample value128 p) (dual_value value128 p v basic tau) k
    balance_is k =
        let x = (sample value128 p).x in
        worth-sum (length p.rows) (λ i. formula.times (dual_at_row (sample value128 p) (values_of asked v basic) i) (given (x i k)))
        ∙ sum_ℚ-same (length p.rows) (λ i. worth (dual_at_row (sample value128 p) (values_of asked v basic) i) *ℚ x i k) (λ i. dual_value value128 p v basic tau i *ℚ x i k)
        (λ i m. ap (λ z. z *ℚ x i k) (dual_is i m))

    module _ (feasible : IsFeasibleWithout (sample value128 p) a.column tau (dual_value value128 p v basic tau)) where
      basic_within : (i : ℕ) (side : Side) → i < length p.rows → ArePartsTrue (bound_parts (sample value128 p) (values_of asked v basic) i side)
      basic_within i Up l = tt
      basic_within i Down l = tt
      basic_within i Basic l = (
        subst (λ z. z ≤ℚ up_cost (sample value128 p) tau i) (sym (dual_is i l)) (feasible.upper i l),
        (subst (λ z. neg_ℚ (down_cost (sample value128 p) tau i) ≤ℚ z) (sym (dual_is i l)) (feasible.lower i l), tt),
      )

      within_true : ArePartsTrue (within_parts asked (values_of asked v basic))
      within_true =
          parts_upto (length p.rows) (λ i. bound_parts (sample value128 p) (values_of asked v basic) i (side_in v i)) (λ i l. basic_within i (side_in v i) l)

      balances_true : ArePartsTrue (balance_parts asked (values_of asked v basic))
      balances_true =
          but_one a.column p.columns (λ k. part (balance (sample value128 p) (values_of asked v basic) k) Equal (given (whole (pos 0))))
          (λ k l other. (balance_is k ∙ feasible.balanced k l other, tt))

    -- the square of the statistic, as the formulas have it
    square_at : worth (balance (sample value128 p) (values_of asked v basic) a.column) *ℚ worth (balance (sample value128 p) (values_of asked v basic) a.column)
        ≡ rank_statistic (sample value128 p) a.column (dual_value value128 p v basic tau) *ℚ rank_statistic (sample value128 p) a.column (dual_value value128 p v basic tau)
    square_at = ap (λ z. z *ℚ z) (balance_is a.column)

    along_true : (ray : ℕ → ℚ) (i : ℕ) → i < length p.rows → IsRowAlong (sample value128 p) tau ray (dual_value value128 p v basic tau) i
        → ArePartsTrue (ray_parts (sample value128 p) (values_of asked v basic) ray i)
    along_true ray i l h = by (cmp_ℚ (worth (along_formula (sample value128 p) ray i)) (whole (pos 0))) refl h
      where
        f : ℚ
        f = worth (along_formula (sample value128 p) ray i)

        is : worth (along_formula (sample value128 p) ray i) ≡ fitted (sample value128 p) ray i
        is = along_is (sample value128 p) ray i

        by : (o : Ordering) → cmp_ℚ (worth (along_formula (sample value128 p) ray i)) (whole (pos 0)) ≡ o → IsRowAlong (sample value128 p) tau ray (dual_value value128 p v basic tau) i
            → ArePartsTrue (ray_parts_by (sample value128 p) (values_of asked v basic) ray i o)
        by Less e (inl flat) = absurd ((cmp_ℚ-Less f (whole (pos 0))).0 e (subst (λ z. whole (pos 0) ≤ℚ z) (sym (is ∙ flat)) (≤ℚ_refl (whole (pos 0)))))
        by Less e (inr (inl falls)) = ((cmp_ℚ-Less f (whole (pos 0))).0 e, (dual_is i l ∙ falls.1, tt))
        by Less e (inr (inr rises)) =
            absurd (rises.0 (subst (λ z. z ≤ℚ whole (pos 0)) is (le_from_not f (whole (pos 0)) ((cmp_ℚ-Less f (whole (pos 0))).0 e))))
        by Same e h = ((cmp_ℚ-Equal f (whole (pos 0))).0 e, tt)
        by Greater e (inl flat) = absurd ((cmp_ℚ-Greater f (whole (pos 0))).0 e (subst (λ z. z ≤ℚ whole (pos 0)) (sym (is ∙ flat)) (≤ℚ_refl (whole (pos 0)))))
        by Greater e (inr (inl falls)) =
            absurd (falls.0 (subst (λ z. whole (pos 0) ≤ℚ z) is (le_from_not (whole (pos 0)) f ((cmp_ℚ-Greater f (whole (pos 0))).0 e))))
        by Greater e (inr (inr rises)) = ((cmp_ℚ-Greater f (whole (pos 0))).0 e, (dual_is i l ∙ rises.1, tt))

  module _ (v : Vertex) (inside : List Fraction) (h : MeetsInside value128 p a.column tau crit q v inside) where
    residual_at : (i : ℕ) → worth (residual_formula (sample value128 p) (number_at v.coef) i) ≡ residual (sample value128 p) (number_at v.coef) i
    residual_at i = worth-residual (sample value128 p) (number_at v.coef) i

    basic_true : (i : ℕ) (side : Side) → IsOn side (residual (sample value128 p) (number_at v.coef) i) → ArePartsTrue (basic_parts (sample value128 p) v i side)
    basic_true i Up on = tt
    basic_true i Down on = tt
    basic_true i Basic on = (residual_at i ∙ on, tt)

    side_true : (i : ℕ) (side : Side) → IsOn side (residual (sample value128 p) (number_at v.coef) i) → ArePartsTrue (side_parts (sample value128 p) v i side)
    side_true i Up on = (subst (λ z. whole (pos 0) ≤ℚ z) (sym (residual_at i)) on, tt)
    side_true i Down on = (subst (λ z. z ≤ℚ whole (pos 0)) (sym (residual_at i)) on, tt)
    side_true i Basic on = tt

    on_side : (i : ℕ) → i < length p.rows → IsOn (side_in v i) (residual (sample value128 p) (number_at v.coef) i)
    on_side i l = h.on i (side_in v i) (side_is v i (omega (arith, h.sides, l)))

    within_bound : (worth (balance (sample value128 p) (values_of asked v inside) a.column) *ℚ worth (balance (sample value128 p) (values_of asked v inside) a.column)) ≤ℚ worth (rank_bound_formula asked)
    within_bound = subst (λ z. z ≤ℚ worth (rank_bound_formula asked)) (sym (square_at v inside h.sides))
        (subst (λ z. (rank_statistic (sample value128 p) a.column (dual_value value128 p v inside tau) *ℚ rank_statistic (sample value128 p) a.column (dual_value value128 p v inside tau)) ≤ℚ z) (sym bound_is) h.within)

    inside_true : (m n : ℕ) → AreTrue (inside_tests asked m n (values_of asked v inside))
    inside_true m n = (
      parts_upto (length p.rows) (λ i. basic_parts (sample value128 p) v i (side_in v i)) (λ i l. basic_true i (side_in v i) (on_side i l)),
      (
        parts_upto (length p.rows) (λ i. side_parts (sample value128 p) v i (side_in v i)) (λ i l. side_true i (side_in v i) (on_side i l)),
        (within_true v inside h.sides h.feasible, (balances_true v inside h.sides h.feasible, ((within_bound, tt), tt))),
      ),
    )

  -- ---- what lies beyond an end

  module _ (way : Way) (m : ℕ) (v : Vertex) (sides : length v.sides ≡ length p.rows) where
    finite_true : (x : Fraction) (f : List Fraction) → rational x ≡ number_at v.coef a.column → MeetsOutside value128 p a.column tau crit q v f
        → Holds (sign_of way) (rank_statistic (sample value128 p) a.column (dual_value value128 p v f tau)) (whole (pos 0))
        → AreTrue (finite_tests asked way m x v (values_of asked v f))
    finite_true x f is outside sign = (
      (is, tt),
      (
        parts_joined (within_parts asked (values_of asked v f)) (balance_parts asked (values_of asked v f)) (within_true v f sides outside.feasible) (balances_true v f sides outside.feasible),
        (
          (
            subst (λ z. Holds (sign_of way) z (whole (pos 0))) (sym (balance_is v f sides a.column)) sign,
            (
              subst (λ z. worth (rank_bound_formula asked) <ℚ z) (sym (square_at v f sides))
                  (subst (λ z. z <ℚ (rank_statistic (sample value128 p) a.column (dual_value value128 p v f tau) *ℚ rank_statistic (sample value128 p) a.column (dual_value value128 p v f tau))) (sym bound_is) outside.beyond),
              tt,
            ),
          ),
          tt,
        ),
      ),
    )

    infinite_true : (ray : ℕ → ℚ) (inside : List Fraction) → ray a.column ≡ worth (unit_of way) → IsStatedRay (sample value128 p) tau ray (dual_value value128 p v inside tau)
        → AreTrue (infinite_tests asked way m ray (values_of asked v inside))
    infinite_true ray inside unit stated = (
      (unit, tt),
      (parts_upto (length p.rows) (ray_parts (sample value128 p) (values_of asked v inside) ray) (λ i l. along_true v inside sides ray i l (stated i l)), tt),
    )

  high_true : (m : ℕ) (e : Ending) (b : Bound Fraction) (y : Beyond) → length e.vertex.sides ≡ length p.rows
      → MeetsHighBound value128 p a.column tau crit q e.vertex e.inside b y → AreTrue (beyond_tests asked High m e b y)
  high_true m e (Finite x) (Outside f) sides h = finite_true High m e.vertex sides x f h.0 h.1 h.2
  high_true m e Infinite (Ray r) sides h = infinite_true High m e.vertex sides (number_at r) e.inside h.0 h.1
  high_true m e (Finite x) (Ray r) sides h = absurd h
  high_true m e Infinite (Outside f) sides h = absurd h

  low_true : (m : ℕ) (e : Ending) (b : Bound Fraction) (y : Beyond) → length e.vertex.sides ≡ length p.rows
      → MeetsLowBound value128 p a.column tau crit q e.vertex e.inside b y → AreTrue (beyond_tests asked Low m e b y)
  low_true m e (Finite x) (Outside f) sides h = finite_true Low m e.vertex sides x f h.0 h.1 h.2
  low_true m e Infinite (Ray r) sides h = infinite_true Low m e.vertex sides (number_at r) e.inside (h.0 ∙ ring_ℚ [] (number (negsuc 0)) (negated (number (pos 1))) refl) h.1
  low_true m e (Finite x) (Ray r) sides h = absurd h
  low_true m e Infinite (Outside f) sides h = absurd h

  -- ---- the interval

  rows_true : (i : ℕ) → i < length p.rows → ArePartsTrue (data_parts (sample value128 p) i)
  rows_true i l =
      let row = meets.data_rows i l in
      (row.up0, ((cmp_ℚ-Less (whole (pos 0)) ((sample value128 p).up1 i)).0 row.weighted, (row.down0, (row.down1, tt))))

  whole_true : (m : ℕ) → AreTrue (whole_tests asked m)
  whole_true m = (
    parts_upto (length p.rows) (data_parts (sample value128 p)) rows_true,
    (
      (meets.tau_above, (meets.tau_below, (meets.crit, tt))),
      (
        (meets.projection.own, tt),
        (
          but_one a.column p.columns (λ k. part (orthogonal_formula (sample value128 p) a.column factors k) Equal (given (whole (pos 0))))
              (λ k l other. (orthogonal_is (sample value128 p) a.column factors meets.projection.own k ∙ meets.projection.orthogonal k l other, tt)),
          ((subst (λ z. whole (pos 0) <ℚ z) (sym (square_is (sample value128 p) a.column factors meets.projection.own)) meets.positive, tt), tt),
        ),
      ),
    ),
  )

  order_true : (m : ℕ) (low high : Bound Fraction) → AreInOrder (bound_of low) (bound_of high) → AreTrue (order_tests m low high)
  order_true m (Finite x) (Finite y) h = ((h, tt), tt)
  order_true m (Finite x) Infinite h = tt
  order_true m Infinite (Finite y) h = tt
  order_true m Infinite Infinite h = tt

  -- the conditions on the interval are true
  pub interval_true : (m : ℕ) → AreTrue (interval_tests (sample value128 p) m a)
  interval_true m =
      let low = meets.low in
      let high = meets.high in
      let last = end_tests asked High m a.high ++ order_tests m a.low.bound a.high.bound in
      joined (whole_tests asked m) (end_tests asked Low m a.low ++ last) (whole_true m)
      (joined (end_tests asked Low m a.low) last
      (joined (inside_tests asked m 10 (values_of asked a.low.vertex a.low.inside)) (beyond_tests asked Low m a.low a.low.bound a.low.beyond)
      (inside_true a.low.vertex a.low.inside low.inside m 10) (low_true m a.low a.low.bound a.low.beyond low.inside.sides low.bound))
      (joined (end_tests asked High m a.high) (order_tests m a.low.bound a.high.bound)
      (joined (inside_tests asked m 20 (values_of asked a.high.vertex a.high.inside)) (beyond_tests asked High m a.high a.high.bound a.high.beyond)
      (inside_true a.high.vertex a.high.inside high.inside m 20) (high_true m a.high a.high.bound a.high.beyond high.inside.sides high.bound))
      (order_true m a.low.bound a.high.bound meets.order)))

-- ---- form

end_formed : (p : Problem Frac128) (e : Ending) → IsSoundEnding p e → ArePartsTrue (end_form p e)
end_formed p e h =
    let count : (a b : ℕ) → a ≡ b → whole (pos a) ≡ whole (pos b) = λ a b e. ap (λ (n : ℕ). whole (pos n)) e in
    (count _ _ h.vertex.coef, (count _ _ h.vertex.sides, (count _ _ h.vertex.size, (count _ _ h.inside, (count _ _ h.beyond, tt)))))

pub interval_formed : (p : Problem Frac128) (m : ℕ) (t : IntervalProof) → IsSoundInterval p t → AreTrue (interval_form p m t)
interval_formed p m t h = (
  (below, tt),
  ((ap (λ (n : ℕ). whole (pos n)) h.projection, tt), (end_formed p t.low h.low, (end_formed p t.high h.high, tt))),
)
  where
    below : whole (pos t.column) <ℚ whole (pos p.columns)
    below le =
        let column = h.meets.column in
        let back = le_from_whole (pos p.columns) (pos t.column) le in
        absurd (omega (arith, ints, column, back))
