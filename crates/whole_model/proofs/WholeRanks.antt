-- Tested values that hold among fractions and among whole numbers.
use Rattle.std.specs.Prelude.{◌≡◌, ◌↔◌, ℕ, ◌*◌, ◌<◌, ◌≤◌, [], ◌∷◌, ℤ, pos, ◌-ℤ◌, ◌*ℤ◌, ◌≤ℤ◌}
use Rattle.std.proofs.Common.{refl, sym, ap, ap₂, subst, ◌∙◌}
use Rattle.rational_laws.specs.IntegerSums.{sum_to}
use Rattle.rational_laws.specs.Solver.{number, ◌⊟◌, ◌⊠◌, v0, v1, v2, v3, v4, v5, v6}
use Rattle.rational_laws.specs.Rational.{ℚ, ◌-ℚ◌, ◌*ℚ◌, quotient, whole, ◌≤ℚ◌}
use Rattle.rational_laws.proofs.RationalLaws.{whole-mul, ring_ℚ}
use Rattle.rational_laws.specs.RationalSums.{sum_ℚ}
use Rattle.rational_laws.proofs.RationalSumLaws.{sum_ℚ-same, sum_ℚ-scale}
use Rattle.rational_laws.proofs.WholeNumbers.{whole-sum}
use Rattle.rational_laws.specs.Fraction.{Fraction, rational}
use Rattle.rational_laws.proofs.Signs.{whole_product, some_product}
use Rattle.loss_model.specs.declared.problem.Problem.{Problem}
use Rattle.loss_model.specs.Problem.{sample}
use Rattle.loss_model.specs.Sample.{Sample}
use Rattle.loss_model.specs.Sample as samples
use Rattle.whole_model.specs.Scaled.{Scaled, scaled, unit}
use Rattle.loss_model.proofs.Quotients.{whole-quotient, whole-sub}
use Rattle.whole_model.proofs.CommonDenominators.{IsOver, over_product, common_denominator}
use Rattle.whole_model.proofs.Units.{positive_whole, positive_product, order_of, zero_of}
use Rattle.whole_model.proofs.Integers.{lower_of, upper_of, balanced_of}
use Rattle.whole_model.proofs.Scales.{Scales}
use Rattle.whole_model.proofs.Denominators.{scales, unit_positive}
use Rattle.loss_model.specs.Strict.{◌<ℚ◌}
use Rattle.rank_model.specs.Restricted as ranks
use Rattle.whole_model.specs.WholeRanks.{IsFeasibleWithout, restricted_objective, IsOptimalAt, rank_statistic, projected, IsProjection, squared_length, IsWithin, Holds}
use Rattle.whole_model.specs.Laws.{HoldsInIntegers, ExactIntervalInIntegers}
use Rattle.rank_model.proofs.Exact.{exact}

module _ (q : ℕ) (p : Sample) (w : Scaled) (s : Scales q p w) (qp : 1 ≤ q) (j : ℕ) (lj : j < p.columns) where
  abbrev Q : ℚ
  Q = whole (pos q)

  Q_positive : whole (pos 0) <ℚ Q
  Q_positive = positive_whole q qp

  -- a sum over the rows in other units
  sum_is : (u : ℚ) (a : ℕ → ℤ) (x : ℕ → ℚ) → ((i : ℕ) → i < p.rows → whole (a i) ≡ u *ℚ x i) → whole (sum_to w.rows a) ≡ u *ℚ sum_ℚ p.rows x
  sum_is u a x each =
      whole-sum w.rows a ∙ ap (λ n. sum_ℚ n (λ i. whole (a i))) s.rows
      ∙ sum_ℚ-same p.rows (λ i. whole (a i)) (λ i. u *ℚ x i) each ∙ sum_ℚ-scale p.rows u x

  within_rows : (i : ℕ) → i < w.rows → i < p.rows
  within_rows i l = subst (λ n. i < n) s.rows l

  within_columns : (k : ℕ) → k < w.columns → k < p.columns
  within_columns k l = subst (λ n. k < n) s.columns l

  -- a list of values e/(q*g)
  module _ (e : ℕ → ℤ) (g : ℕ) (f : ℕ → ℚ) (gp : 1 ≤ g) (over : IsOver p.rows e (q * g) f) where
    abbrev G : ℚ
    G = whole (pos g)

    pub statistic_is : whole (rank_statistic w j e) ≡ (Q *ℚ (Q *ℚ G)) *ℚ ranks.rank_statistic p j f
    statistic_is =
        sum_is (Q *ℚ (Q *ℚ G)) (λ i. w.x i j *ℤ e i) (λ i. f i *ℚ p.x i j)
        (λ i l. whole-mul (w.x i j) (e i) ∙ ap₂ ◌*ℚ◌ (s.x i j) (over_product p.rows e q g f over i l)
        ∙ ring_ℚ (Q ∷ G ∷ f i ∷ p.x i j ∷ []) ((v0 ⊠ v3) ⊠ ((v0 ⊠ v1) ⊠ v2)) ((v0 ⊠ (v0 ⊠ v1)) ⊠ (v2 ⊠ v3)) refl)

    module _ (theta : Fraction) (tp : 1 ≤ theta.den) where
      pub feasible : ranks.IsFeasibleWithout p j (rational theta) f ↔ IsFeasibleWithout w j theta e g
      feasible = (
        λ h. record {
          lower = λ i l. (lower_of q p w s qp theta tp e g f gp over i (within_rows i l)).0 (h.lower i (within_rows i l));
          upper = λ i l. (upper_of q p w s qp theta tp e g f gp over i (within_rows i l)).0 (h.upper i (within_rows i l));
          balanced = λ k l other. (balanced_of q p w s qp theta tp e g f gp over k).0 (h.balanced k (within_columns k l) other);
        },
        λ h. record {
          lower = λ i l. (lower_of q p w s qp theta tp e g f gp over i l).1 (h.lower i (subst (λ n. i < n) (sym s.rows) l));
          upper = λ i l. (upper_of q p w s qp theta tp e g f gp over i l).1 (h.upper i (subst (λ n. i < n) (sym s.rows) l));
          balanced = λ k l other. (balanced_of q p w s qp theta tp e g f gp over k).1 (h.balanced k (subst (λ n. k < n) (sym s.columns) l) other);
        },
      )

    -- the objective at a tested value
    module _ (xi : Fraction) (xp : 1 ≤ xi.den) where
      abbrev V : ℚ
      V = whole (pos xi.den)

      pub objective_is : whole (restricted_objective w j xi e) ≡ (V *ℚ (Q *ℚ (Q *ℚ G))) *ℚ ranks.restricted_objective p j (rational xi) f
      objective_is =
          sum_is (V *ℚ (Q *ℚ (Q *ℚ G))) (λ i. ((w.y i *ℤ pos xi.den) -ℤ (w.x i j *ℤ xi.num)) *ℤ e i) (λ i. (p.y i -ℚ (p.x i j *ℚ rational xi)) *ℚ f i)
          (λ i l. whole-mul ((w.y i *ℤ pos xi.den) -ℤ (w.x i j *ℤ xi.num)) (e i)
          ∙ ap (λ z. z *ℚ whole (e i)) (whole-sub (w.y i *ℤ pos xi.den) (w.x i j *ℤ xi.num))
          ∙ ap (λ z. (z -ℚ whole (w.x i j *ℤ xi.num)) *ℚ whole (e i)) (whole-mul (w.y i) (pos xi.den) ∙ ap (λ z. z *ℚ V) (s.y i))
          ∙ ap (λ z. (((Q *ℚ p.y i) *ℚ V) -ℚ z) *ℚ whole (e i)) (whole-mul (w.x i j) xi.num ∙ ap₂ ◌*ℚ◌ (s.x i j) (whole-quotient xi.num xi.den xp))
          ∙ ap (λ z. (((Q *ℚ p.y i) *ℚ V) -ℚ ((Q *ℚ p.x i j) *ℚ (V *ℚ rational xi))) *ℚ z) (over_product p.rows e q g f over i l)
          ∙ ring_ℚ (Q ∷ V ∷ G ∷ p.y i ∷ p.x i j ∷ rational xi ∷ f i ∷ [])
          (((v0 ⊠ v3) ⊠ v1 ⊟ (v0 ⊠ v4) ⊠ (v1 ⊠ v5)) ⊠ ((v0 ⊠ v2) ⊠ v6)) ((v1 ⊠ (v0 ⊠ (v0 ⊠ v2))) ⊠ ((v3 ⊟ v4 ⊠ v5) ⊠ v6)) refl)

  -- every list of quotients is such a list
  quotients_over : (e : ℕ → ℤ) (g : ℕ) → 1 ≤ g → IsOver p.rows e (q * g) (λ i. quotient (e i) (q * g))
  quotients_over e g gp = record { each = λ i l. whole-quotient (e i) (q * g) (some_product q g qp gp) }

  -- and a list over one denominator is one too
  over_more : (c : ℕ → ℤ) (d : ℕ) (f : ℕ → ℚ) → IsOver p.rows c d f → IsOver p.rows (λ i. c i *ℤ pos q) (q * d) f
  over_more c d f over =
      record {
        each = λ i l.
            whole-mul (c i) (pos q) ∙ ap (λ z. z *ℚ Q) (over.each i l)
            ∙ ring_ℚ (whole (pos d) ∷ f i ∷ Q ∷ []) ((v0 ⊠ v1) ⊠ v2) ((v2 ⊠ v0) ⊠ v1) refl ∙ ap (λ z. z *ℚ f i) (sym (whole_product q d));
      }

  module _ (theta xi : Fraction) (tp : 1 ≤ theta.den) (xp : 1 ≤ xi.den) where
    -- two objectives in one unit
    objectives : (e e' : ℕ → ℤ) (g g' : ℕ) (f f' : ℕ → ℚ) (gp : 1 ≤ g) (gp' : 1 ≤ g') → IsOver p.rows e (q * g) f → IsOver p.rows e' (q * g') f'
        → (ranks.restricted_objective p j (rational xi) f' ≤ℚ ranks.restricted_objective p j (rational xi) f) ↔ ((restricted_objective w j xi e' *ℤ pos g) ≤ℤ (restricted_objective w j xi e *ℤ pos g'))
    objectives e e' g g' f f' gp gp' over over' =
        order_of (V *ℚ ((Q *ℚ Q) *ℚ (G *ℚ G'))) (restricted_objective w j xi e' *ℤ pos g) (restricted_objective w j xi e *ℤ pos g') (ranks.restricted_objective p j (rational xi) f') (ranks.restricted_objective p j (rational xi) f)
        (positive_product V ((Q *ℚ Q) *ℚ (G *ℚ G')) (positive_whole xi.den xp) (positive_product (Q *ℚ Q) (G *ℚ G') (positive_product Q Q Q_positive Q_positive) (positive_product G G' (positive_whole g gp) (positive_whole g' gp'))))
        (whole-mul (restricted_objective w j xi e') (pos g) ∙ ap (λ z. z *ℚ G) (objective_is e' g' f' gp' over' xi xp)
        ∙ ring_ℚ (V ∷ Q ∷ G ∷ G' ∷ ranks.restricted_objective p j (rational xi) f' ∷ []) (((v0 ⊠ (v1 ⊠ (v1 ⊠ v3))) ⊠ v4) ⊠ v2) ((v0 ⊠ ((v1 ⊠ v1) ⊠ (v2 ⊠ v3))) ⊠ v4) refl)
        (whole-mul (restricted_objective w j xi e) (pos g') ∙ ap (λ z. z *ℚ G') (objective_is e g f gp over xi xp)
        ∙ ring_ℚ (V ∷ Q ∷ G ∷ G' ∷ ranks.restricted_objective p j (rational xi) f ∷ []) (((v0 ⊠ (v1 ⊠ (v1 ⊠ v2))) ⊠ v4) ⊠ v3) ((v0 ⊠ ((v1 ⊠ v1) ⊠ (v2 ⊠ v3))) ⊠ v4) refl)
      where
        V : ℚ
        V = whole (pos xi.den)

        G : ℚ
        G = whole (pos g)

        G' : ℚ
        G' = whole (pos g')

    pub optimal : (e : ℕ → ℤ) (g : ℕ) (f : ℕ → ℚ) (gp : 1 ≤ g) → IsOver p.rows e (q * g) f → ranks.IsOptimalAt p j (rational theta) (rational xi) f ↔ IsOptimalAt w j theta xi e g
    optimal e g f gp over = (
      λ o. record {
        feasible = (feasible e g f gp over theta tp).0 o.feasible;
        greatest = λ e' g' gp' h.
            (objectives e e' g g' f (λ i. quotient (e' i) (q * g')) gp gp' over (quotients_over e' g' gp')).0
            (o.greatest (λ i. quotient (e' i) (q * g')) ((feasible e' g' (λ i. quotient (e' i) (q * g')) gp' (quotients_over e' g' gp') theta tp).1 h));
      },
      λ o. record {
        feasible = (feasible e g f gp over theta tp).1 o.feasible;
        greatest = λ f' h.
            let v = common_denominator p.rows f' in
            let e' = λ (i : ℕ). v.c i *ℤ pos q in
            (objectives e e' g v.d f f' gp v.positive over (over_more v.c v.d f' v.over)).1
            (o.greatest e' v.d v.positive ((feasible e' v.d f' v.positive (over_more v.c v.d f' v.over) theta tp).0 h));
      },
    )

  -- a vector c/d
  module _ (c : ℕ → ℤ) (d : ℕ) (v : ℕ → ℚ) (dp : 1 ≤ d) (vector : IsOver p.columns c d v) where
    abbrev D : ℚ
    D = whole (pos d)

    D_positive : whole (pos 0) <ℚ D
    D_positive = positive_whole d dp

    rest_is : (i : ℕ) → whole (projected w j c d i) ≡ ((Q *ℚ Q) *ℚ D) *ℚ ranks.projected p j v i
    rest_is i =
        whole-mul (w.up1 i) ((w.x i j *ℤ pos d) -ℤ sum_to w.columns (λ k. c k *ℤ w.x i k))
        ∙ ap₂ ◌*ℚ◌ (s.up1 i) (whole-sub (w.x i j *ℤ pos d) (sum_to w.columns (λ k. c k *ℤ w.x i k)))
        ∙ ap (λ z. (Q *ℚ p.up1 i) *ℚ (z -ℚ whole (sum_to w.columns (λ k. c k *ℤ w.x i k)))) (whole-mul (w.x i j) (pos d) ∙ ap (λ z. z *ℚ D) (s.x i j))
        ∙ ap (λ z. (Q *ℚ p.up1 i) *ℚ (((Q *ℚ p.x i j) *ℚ D) -ℚ z)) fit
        ∙ ring_ℚ (Q ∷ D ∷ p.up1 i ∷ p.x i j ∷ samples.fitted p v i ∷ []) ((v0 ⊠ v2) ⊠ ((v0 ⊠ v3) ⊠ v1 ⊟ (v0 ⊠ v1) ⊠ v4)) (((v0 ⊠ v0) ⊠ v1) ⊠ (v2 ⊠ (v3 ⊟ v4))) refl
      where
        fit : whole (sum_to w.columns (λ k. c k *ℤ w.x i k)) ≡ (Q *ℚ D) *ℚ samples.fitted p v i
        fit =
            whole-sum w.columns (λ k. c k *ℤ w.x i k) ∙ ap (λ n. sum_ℚ n (λ k. whole (c k *ℤ w.x i k))) s.columns
            ∙ sum_ℚ-same p.columns (λ k. whole (c k *ℤ w.x i k)) (λ k. (Q *ℚ D) *ℚ (p.x i k *ℚ v k))
            (λ k l. whole-mul (c k) (w.x i k) ∙ ap₂ ◌*ℚ◌ (vector.each k l) (s.x i k) ∙ ring_ℚ (Q ∷ D ∷ p.x i k ∷ v k ∷ []) ((v1 ⊠ v3) ⊠ (v0 ⊠ v2)) ((v0 ⊠ v1) ⊠ (v2 ⊠ v3)) refl)
            ∙ sum_ℚ-scale p.columns (Q *ℚ D) (λ k. p.x i k *ℚ v k)

    abbrev U : ℚ
    U = (Q *ℚ Q) *ℚ D

    U_positive : whole (pos 0) <ℚ U
    U_positive = positive_product (Q *ℚ Q) D (positive_product Q Q Q_positive Q_positive) D_positive

    product_is : (k : ℕ) → whole (sum_to w.rows (λ i. projected w j c d i *ℤ (w.up1 i *ℤ w.x i k))) ≡ (U *ℚ (Q *ℚ Q)) *ℚ sum_ℚ p.rows (λ i. ranks.projected p j v i *ℚ (p.up1 i *ℚ p.x i k))
    product_is k =
        sum_is (U *ℚ (Q *ℚ Q)) (λ i. projected w j c d i *ℤ (w.up1 i *ℤ w.x i k)) (λ i. ranks.projected p j v i *ℚ (p.up1 i *ℚ p.x i k))
        (λ i l. whole-mul (projected w j c d i) (w.up1 i *ℤ w.x i k) ∙ ap₂ ◌*ℚ◌ (rest_is i) (whole-mul (w.up1 i) (w.x i k) ∙ ap₂ ◌*ℚ◌ (s.up1 i) (s.x i k))
        ∙ ring_ℚ (Q ∷ U ∷ ranks.projected p j v i ∷ p.up1 i ∷ p.x i k ∷ []) ((v1 ⊠ v2) ⊠ ((v0 ⊠ v3) ⊠ (v0 ⊠ v4))) ((v1 ⊠ (v0 ⊠ v0)) ⊠ (v2 ⊠ (v3 ⊠ v4))) refl)

    pub projection : ranks.IsProjection p j v ↔ IsProjection w j c d
    projection = (
      λ h. record { own = own_of.0 h.own; orthogonal = λ k l other. (orthogonal_of k).0 (h.orthogonal k (within_columns k l) other) },
      λ h. record { own = own_of.1 h.own; orthogonal = λ k l other. (orthogonal_of k).1 (h.orthogonal k (subst (λ n. k < n) (sym s.columns) l) other) },
    )
      where
        own_of : (v j ≡ whole (pos 0)) ↔ (c j ≡ pos 0)
        own_of = zero_of D (c j) (v j) D_positive (vector.each j lj)

        orthogonal_of : (k : ℕ) → (sum_ℚ p.rows (λ i. ranks.projected p j v i *ℚ (p.up1 i *ℚ p.x i k)) ≡ whole (pos 0)) ↔ (sum_to w.rows (λ i. projected w j c d i *ℤ (w.up1 i *ℤ w.x i k)) ≡ pos 0)
        orthogonal_of k = zero_of (U *ℚ (Q *ℚ Q)) _ _ (positive_product U (Q *ℚ Q) U_positive (positive_product Q Q Q_positive Q_positive)) (product_is k)

    pub length_is : whole (squared_length w j c d) ≡ (U *ℚ U) *ℚ ranks.squared_length p j v
    length_is =
        sum_is (U *ℚ U) (λ i. projected w j c d i *ℤ projected w j c d i) (λ i. ranks.projected p j v i *ℚ ranks.projected p j v i)
        (λ i l. whole-mul (projected w j c d i) (projected w j c d i) ∙ ap₂ ◌*ℚ◌ (rest_is i) (rest_is i)
        ∙ ring_ℚ (U ∷ ranks.projected p j v i ∷ []) ((v0 ⊠ v1) ⊠ (v0 ⊠ v1)) ((v0 ⊠ v0) ⊠ (v1 ⊠ v1)) refl)

    -- the relation of the statistic and the bound
    module _ (e : ℕ → ℤ) (g : ℕ) (f : ℕ → ℚ) (gp : 1 ≤ g) (over : IsOver p.rows e (q * g) f) (tau crit : Fraction) (tp : 1 ≤ tau.den) (cp : 1 ≤ crit.den) where
      pub within : ((ranks.rank_statistic p j f *ℚ ranks.rank_statistic p j f) ≤ℚ ranks.rank_bound (rational tau) (rational crit) (ranks.squared_length p j v)) ↔ IsWithin tau crit (rank_statistic w j e) (squared_length w j c d) d g
      within =
          order_of ((C *ℚ (t *ℚ t)) *ℚ ((U *ℚ U) *ℚ (G *ℚ G))) _ _ (S *ℚ S) (ranks.rank_bound (rational tau) (rational crit) L)
          (positive_product (C *ℚ (t *ℚ t)) ((U *ℚ U) *ℚ (G *ℚ G)) (positive_product C (t *ℚ t) (positive_whole crit.den cp) (positive_product t t (positive_whole tau.den tp) (positive_whole tau.den tp)))
          (positive_product (U *ℚ U) (G *ℚ G) (positive_product U U U_positive U_positive) (positive_product G G (positive_whole g gp) (positive_whole g gp))))
          left right
        where
          C : ℚ
          C = whole (pos crit.den)

          t : ℚ
          t = whole (pos tau.den)

          G : ℚ
          G = whole (pos g)

          S : ℚ
          S = ranks.rank_statistic p j f

          L : ℚ
          L = ranks.squared_length p j v

          left : whole ((rank_statistic w j e *ℤ rank_statistic w j e) *ℤ (pos crit.den *ℤ ((pos tau.den *ℤ pos tau.den) *ℤ (pos d *ℤ pos d)))) ≡ ((C *ℚ (t *ℚ t)) *ℚ ((U *ℚ U) *ℚ (G *ℚ G))) *ℚ (S *ℚ S)
          left =
              whole-mul (rank_statistic w j e *ℤ rank_statistic w j e) (pos crit.den *ℤ ((pos tau.den *ℤ pos tau.den) *ℤ (pos d *ℤ pos d)))
              ∙ ap₂ ◌*ℚ◌ (whole-mul (rank_statistic w j e) (rank_statistic w j e) ∙ ap₂ ◌*ℚ◌ (statistic_is e g f gp over) (statistic_is e g f gp over))
              (whole-mul (pos crit.den) ((pos tau.den *ℤ pos tau.den) *ℤ (pos d *ℤ pos d))
              ∙ ap (λ z. C *ℚ z) (whole-mul (pos tau.den *ℤ pos tau.den) (pos d *ℤ pos d) ∙ ap₂ ◌*ℚ◌ (whole-mul (pos tau.den) (pos tau.den)) (whole-mul (pos d) (pos d))))
              ∙ ring_ℚ (Q ∷ G ∷ C ∷ t ∷ D ∷ S ∷ [])
              ((((v0 ⊠ (v0 ⊠ v1)) ⊠ v5) ⊠ ((v0 ⊠ (v0 ⊠ v1)) ⊠ v5)) ⊠ (v2 ⊠ ((v3 ⊠ v3) ⊠ (v4 ⊠ v4))))
              (((v2 ⊠ (v3 ⊠ v3)) ⊠ ((((v0 ⊠ v0) ⊠ v4) ⊠ ((v0 ⊠ v0) ⊠ v4)) ⊠ (v1 ⊠ v1))) ⊠ (v5 ⊠ v5)) refl

          right : whole ((crit.num *ℤ (tau.num *ℤ (pos tau.den -ℤ tau.num))) *ℤ (squared_length w j c d *ℤ (pos g *ℤ pos g))) ≡ ((C *ℚ (t *ℚ t)) *ℚ ((U *ℚ U) *ℚ (G *ℚ G))) *ℚ ranks.rank_bound (rational tau) (rational crit) L
          right =
              whole-mul (crit.num *ℤ (tau.num *ℤ (pos tau.den -ℤ tau.num))) (squared_length w j c d *ℤ (pos g *ℤ pos g))
              ∙ ap₂ ◌*ℚ◌
              (whole-mul crit.num (tau.num *ℤ (pos tau.den -ℤ tau.num))
              ∙ ap₂ ◌*ℚ◌ (whole-quotient crit.num crit.den cp)
              (whole-mul tau.num (pos tau.den -ℤ tau.num)
              ∙ ap₂ ◌*ℚ◌ (whole-quotient tau.num tau.den tp) (whole-sub (pos tau.den) tau.num ∙ ap (λ z. t -ℚ z) (whole-quotient tau.num tau.den tp))))
              (whole-mul (squared_length w j c d) (pos g *ℤ pos g) ∙ ap₂ ◌*ℚ◌ length_is (whole-mul (pos g) (pos g)))
              ∙ ring_ℚ (C ∷ t ∷ G ∷ U ∷ rational crit ∷ rational tau ∷ L ∷ [])
              (((v0 ⊠ v4) ⊠ ((v1 ⊠ v5) ⊠ (v1 ⊟ v1 ⊠ v5))) ⊠ (((v3 ⊠ v3) ⊠ v6) ⊠ (v2 ⊠ v2)))
              (((v0 ⊠ (v1 ⊠ v1)) ⊠ ((v3 ⊠ v3) ⊠ (v2 ⊠ v2))) ⊠ (((v4 ⊠ v5) ⊠ (number (pos 1) ⊟ v5)) ⊠ v6)) refl

  pub holds : (tau crit xi : Fraction) → 1 ≤ tau.den → 1 ≤ crit.den → 1 ≤ xi.den → ranks.Holds p j (rational tau) (rational crit) (rational xi) ↔ Holds w j tau crit xi
  holds tau crit xi tp cp xp = (
    λ h.
        let c = common_denominator p.columns h.c in
        let e = common_denominator p.rows h.e in
        let over = over_more e.c e.d h.e e.over in
        record {
          c = c.c;
          d = c.d;
          d_positive = c.positive;
          projection = (projection c.c c.d h.c c.positive c.over).0 h.projection;
          e = λ i. e.c i *ℤ pos q;
          g = e.d;
          g_positive = e.positive;
          optimal = (optimal tau xi tp xp (λ i. e.c i *ℤ pos q) e.d h.e e.positive over).0 h.optimal;
          within = (within c.c c.d h.c c.positive c.over (λ i. e.c i *ℤ pos q) e.d h.e e.positive over tau crit tp cp).0 h.within;
        },
    λ h.
        let v = λ (k : ℕ). quotient (h.c k) h.d in
        let f = λ (i : ℕ). quotient (h.e i) (q * h.g) in
        let vector : IsOver p.columns h.c h.d v = record { each = λ k l. whole-quotient (h.c k) h.d h.d_positive } in
        record {
          c = v;
          projection = (projection h.c h.d v h.d_positive vector).1 h.projection;
          e = f;
          optimal = (optimal tau xi tp xp h.e h.g f h.g_positive (quotients_over h.e h.g h.g_positive)).1 h.optimal;
          within = (within h.c h.d v h.d_positive vector h.e h.g f h.g_positive (quotients_over h.e h.g h.g_positive) tau crit tp cp).1 h.within;
        },
  )

pub holds_in_integers : {F : Type 0} (value : F → Fraction) (positive : (x : F) → 1 ≤ (value x).den) (p : Problem F) → HoldsInIntegers value p
holds_in_integers value positive p j tau crit xi lj tp cp xp =
    holds (unit value p) (sample value p) (scaled value p) (scales value positive p) (unit_positive value positive p) j lj tau crit xi tp cp xp

pub exact_in_integers : {F : Type 0} (value : F → Fraction) (positive : (x : F) → 1 ≤ (value x).den) (p : Problem F) → ExactIntervalInIntegers value p
exact_in_integers value positive p j tau crit start c low high lj tp cp pr low_end high_end xi xp =
    let within = exact (sample value p) j (rational tau) (rational crit) start c low high lj pr low_end high_end (rational xi) in
    let same = holds_in_integers value positive p j tau crit xi lj tp cp xp in
    (λ h. same.0 (within.0 h), λ h. within.1 (same.1 h))
