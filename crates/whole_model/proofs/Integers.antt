-- Minima and dual values in fractions and in whole numbers.
use Rattle.std.specs.Prelude.{◌≡◌, ◌↔◌, ℕ, ◌+◌, ◌*◌, ◌<◌, ◌≤◌, [], ◌∷◌, ℤ, pos, ◌+ℤ◌, ◌*ℤ◌, ◌≤ℤ◌, neg_ℤ}
use Rattle.std.proofs.Common.{arith, refl, sym, ap, subst, ◌∙◌}
use Rattle.rational_laws.specs.IntegerSums.{sum_to}
use Rattle.rational_laws.specs.Solver.{number, negated, ◌⊞◌, ◌⊠◌, v0, v1, v2, v3, v4, v5, v6, v7}
use Rattle.rational_laws.specs.Rational.{ℚ, ◌+ℚ◌, ◌*ℚ◌, neg_ℚ, inverse, quotient, whole, ◌≤ℚ◌}
use Rattle.rational_laws.proofs.RationalLaws.{whole-add, whole-mul, one-*ℚ, ring_ℚ, ring_by_ℚ}
use Rattle.rational_laws.specs.RationalSums.{sum_ℚ}
use Rattle.rational_laws.proofs.RationalSumLaws.{sum_ℚ-same, sum_ℚ-scale}
use Rattle.rational_laws.proofs.WholeNumbers.{whole-neg, whole-sum}
use Rattle.rational_laws.specs.Fraction.{Fraction, rational}
use Rattle.rational_laws.proofs.Quotients.{quotient_from}
use Rattle.rational_laws.proofs.Signs.{whole_product, some_product}
use Rattle.loss_model.specs.Sample.{Sample}
use Rattle.loss_model.specs.Sample as exact
use Rattle.loss_model.specs.Dual.{mix}
use Rattle.loss_model.specs.Dual as exact_dual
use Rattle.whole_model.specs.Scaled.{Scaled, up_cost, down_cost, loss, Minimises, IsFeasible, IsDual, between, mixed}
use Rattle.whole_model.specs.Laws.{DualsShowMinimumInIntegers, MixIsDualInIntegers}
use Rattle.loss_model.proofs.Quotients.{inverse_of, whole-quotient}
use Rattle.whole_model.proofs.CommonDenominators.{IsOver, over_product, common_denominator}
use Rattle.whole_model.proofs.Units.{positive_whole, order_of, equation_of}
use Rattle.whole_model.proofs.Scales.{Scales, up_scaled, down_scaled, loss_scaled}
use Rattle.loss_model.proofs.Duality.{minimum}
use Rattle.loss_model.proofs.Mixes as mixes

whole-3 : (a b c : ℕ) → whole (pos (a * (b * c))) ≡ whole (pos a) *ℚ (whole (pos b) *ℚ whole (pos c))
whole-3 a b c = whole_product a (b * c) ∙ ap (λ z. whole (pos a) *ℚ z) (whole_product b c)

module _ (q : ℕ) (p : Sample) (w : Scaled) (s : Scales q p w) (qp : 1 ≤ q) (theta : Fraction) (tp : 1 ≤ theta.den) where
  abbrev Q : ℚ
  Q = whole (pos q)

  abbrev t : ℚ
  t = whole (pos theta.den)

  module _ (c : ℕ → ℤ) (d : ℕ) (v : ℕ → ℚ) (dp : 1 ≤ d) (vector : IsOver p.columns c d v) where
    -- the losses of two vectors in units of one fraction
    losses : (c' : ℕ → ℤ) (d' : ℕ) (v' : ℕ → ℚ) → 1 ≤ d' → IsOver p.columns c' d' v'
        → (exact.loss p (rational theta) v ≤ℚ exact.loss p (rational theta) v') ↔ ((loss w theta c d *ℤ pos d') ≤ℤ (loss w theta c' d' *ℤ pos d))
    losses c' d' v' dp' vector' =
        order_of (whole (pos ((q * (theta.den * q)) * (d * d')))) (loss w theta c d *ℤ pos d') (loss w theta c' d' *ℤ pos d) (exact.loss p (rational theta) v) (exact.loss p (rational theta) v')
        (positive_whole ((q * (theta.den * q)) * (d * d')) (some_product (q * (theta.den * q)) (d * d') (some_product q (theta.den * q) qp (some_product theta.den q tp qp)) (some_product d d' dp dp')))
        (whole-mul (loss w theta c d) (pos d') ∙ ap (λ z. z *ℚ whole (pos d')) (loss_scaled q p w s theta tp c d v vector)
        ∙ ring_ℚ (Q ∷ t ∷ whole (pos d) ∷ whole (pos d') ∷ exact.loss p (rational theta) v ∷ []) ((((v0 ⊠ v1) ⊠ (v0 ⊠ v2)) ⊠ v4) ⊠ v3) (((v0 ⊠ (v1 ⊠ v0)) ⊠ (v2 ⊠ v3)) ⊠ v4) refl
        ∙ ap (λ z. z *ℚ exact.loss p (rational theta) v) (sym unit_is))
        (whole-mul (loss w theta c' d') (pos d) ∙ ap (λ z. z *ℚ whole (pos d)) (loss_scaled q p w s theta tp c' d' v' vector')
        ∙ ring_ℚ (Q ∷ t ∷ whole (pos d) ∷ whole (pos d') ∷ exact.loss p (rational theta) v' ∷ []) ((((v0 ⊠ v1) ⊠ (v0 ⊠ v3)) ⊠ v4) ⊠ v2) (((v0 ⊠ (v1 ⊠ v0)) ⊠ (v2 ⊠ v3)) ⊠ v4) refl
        ∙ ap (λ z. z *ℚ exact.loss p (rational theta) v') (sym unit_is))
      where
        unit_is : whole (pos ((q * (theta.den * q)) * (d * d'))) ≡ (Q *ℚ (t *ℚ Q)) *ℚ (whole (pos d) *ℚ whole (pos d'))
        unit_is =
            whole_product (q * (theta.den * q)) (d * d') ∙ ap (λ z. z *ℚ whole (pos (d * d'))) (whole-3 q theta.den q)
            ∙ ap (λ z. (Q *ℚ (t *ℚ Q)) *ℚ z) (whole_product d d')

    pub minima : exact.Minimises p (rational theta) v ↔ Minimises w theta c d
    minima = (
      λ least c' d' dp'. (losses c' d' (λ k. quotient (c' k) d') dp' (record { each = λ k l. whole-quotient (c' k) d' dp' })).0 (least (λ k. quotient (c' k) d')),
      λ least v'.
          let over = common_denominator p.columns v' in
          (losses over.c over.d v' over.positive over.over).1 (least over.c over.d over.positive),
    )

  module _ (e : ℕ → ℤ) (g : ℕ) (f : ℕ → ℚ) (gp : 1 ≤ g) (over : IsOver p.rows e (q * g) f) where
    abbrev G : ℚ
    G = whole (pos g)

    bound_unit : 1 ≤ theta.den * (q * g)
    bound_unit = some_product theta.den (q * g) tp (some_product q g qp gp)

    value_at_unit : (i : ℕ) → i < p.rows → whole (pos theta.den *ℤ e i) ≡ whole (pos (theta.den * (q * g))) *ℚ f i
    value_at_unit i l =
        whole-mul (pos theta.den) (e i) ∙ ap (λ z. t *ℚ z) (over_product p.rows e q g f over i l)
        ∙ ring_ℚ (t ∷ Q ∷ G ∷ f i ∷ []) (v0 ⊠ ((v1 ⊠ v2) ⊠ v3)) ((v0 ⊠ (v1 ⊠ v2)) ⊠ v3) refl ∙ ap (λ z. z *ℚ f i) (sym (whole-3 theta.den q g))

    cost_at_unit : (z : ℤ) (x : ℚ) → whole z ≡ (Q *ℚ t) *ℚ x → whole (z *ℤ pos g) ≡ whole (pos (theta.den * (q * g))) *ℚ x
    cost_at_unit z x h =
        whole-mul z (pos g) ∙ ap (λ y. y *ℚ G) h
        ∙ ring_ℚ (t ∷ Q ∷ G ∷ x ∷ []) (((v1 ⊠ v0) ⊠ v3) ⊠ v2) ((v0 ⊠ (v1 ⊠ v2)) ⊠ v3) refl ∙ ap (λ y. y *ℚ x) (sym (whole-3 theta.den q g))

    negated_at_unit : (z : ℤ) (x : ℚ) → whole z ≡ whole (pos (theta.den * (q * g))) *ℚ x → whole (neg_ℤ z) ≡ whole (pos (theta.den * (q * g))) *ℚ neg_ℚ x
    negated_at_unit z x h = whole-neg z ∙ ap neg_ℚ h ∙ ring_ℚ (whole (pos (theta.den * (q * g))) ∷ x ∷ []) (negated (v0 ⊠ v1)) (v0 ⊠ negated v1) refl

    pub lower_of : (i : ℕ) → i < p.rows → (neg_ℚ (exact.down_cost p (rational theta) i) ≤ℚ f i) ↔ (neg_ℤ (down_cost w theta i *ℤ pos g) ≤ℤ (pos theta.den *ℤ e i))
    lower_of i l =
        order_of (whole (pos (theta.den * (q * g)))) (neg_ℤ (down_cost w theta i *ℤ pos g)) (pos theta.den *ℤ e i) (neg_ℚ (exact.down_cost p (rational theta) i)) (f i) (positive_whole (theta.den * (q * g)) bound_unit)
        (negated_at_unit (down_cost w theta i *ℤ pos g) (exact.down_cost p (rational theta) i) (cost_at_unit (down_cost w theta i) (exact.down_cost p (rational theta) i) (down_scaled q p w s theta tp i)))
        (value_at_unit i l)

    pub upper_of : (i : ℕ) → i < p.rows → (f i ≤ℚ exact.up_cost p (rational theta) i) ↔ ((pos theta.den *ℤ e i) ≤ℤ (up_cost w theta i *ℤ pos g))
    upper_of i l =
        order_of (whole (pos (theta.den * (q * g)))) (pos theta.den *ℤ e i) (up_cost w theta i *ℤ pos g) (f i) (exact.up_cost p (rational theta) i) (positive_whole (theta.den * (q * g)) bound_unit)
        (value_at_unit i l)
        (cost_at_unit (up_cost w theta i) (exact.up_cost p (rational theta) i) (up_scaled q p w s theta tp i))

    -- a sum over the rows of values times numbers of the sample
    sum_is : (a : ℕ → ℤ) (x : ℕ → ℚ) → ((i : ℕ) → i < p.rows → whole (a i) ≡ (Q *ℚ (Q *ℚ G)) *ℚ x i) → whole (sum_to w.rows a) ≡ (Q *ℚ (Q *ℚ G)) *ℚ sum_ℚ p.rows x
    sum_is a x each =
        whole-sum w.rows a ∙ ap (λ n. sum_ℚ n (λ i. whole (a i))) s.rows
        ∙ sum_ℚ-same p.rows (λ i. whole (a i)) (λ i. (Q *ℚ (Q *ℚ G)) *ℚ x i) each ∙ sum_ℚ-scale p.rows (Q *ℚ (Q *ℚ G)) x

    pub balanced_of : (k : ℕ) → (sum_ℚ p.rows (λ i. f i *ℚ p.x i k) ≡ whole (pos 0)) ↔ (sum_to w.rows (λ i. e i *ℤ w.x i k) ≡ pos 0)
    balanced_of k =
        equation_of (whole (pos (q * (q * g)))) (sum_to w.rows (λ i. e i *ℤ w.x i k)) (pos 0) (sum_ℚ p.rows (λ i. f i *ℚ p.x i k)) (whole (pos 0))
        (positive_whole (q * (q * g)) (some_product q (q * g) qp (some_product q g qp gp)))
        (sum_is (λ i. e i *ℤ w.x i k) (λ i. f i *ℚ p.x i k)
        (λ i l. whole-mul (e i) (w.x i k) ∙ ap (λ z. z *ℚ whole (w.x i k)) (over_product p.rows e q g f over i l) ∙ ap (λ z. ((Q *ℚ G) *ℚ f i) *ℚ z) (s.x i k)
        ∙ ring_ℚ (Q ∷ G ∷ f i ∷ p.x i k ∷ []) (((v0 ⊠ v1) ⊠ v2) ⊠ (v0 ⊠ v3)) ((v0 ⊠ (v0 ⊠ v1)) ⊠ (v2 ⊠ v3)) refl)
        ∙ ap (λ z. z *ℚ sum_ℚ p.rows (λ i. f i *ℚ p.x i k)) (sym (whole-3 q q g)))
        (ring_ℚ (whole (pos (q * (q * g))) ∷ []) (number (pos 0)) (v0 ⊠ number (pos 0)) refl)

    pub feasible : exact_dual.IsFeasible p (rational theta) f ↔ IsFeasible w theta e g
    feasible = (
      λ h. record {
        lower = λ i l. let m = subst (λ n. i < n) s.rows l in (lower_of i m).0 (h.lower i m);
        upper = λ i l. let m = subst (λ n. i < n) s.rows l in (upper_of i m).0 (h.upper i m);
        balanced = λ k l. (balanced_of k).0 (h.balanced k (subst (λ n. k < n) s.columns l));
      },
      λ h. record {
        lower = λ i l. (lower_of i l).1 (h.lower i (subst (λ n. i < n) (sym s.rows) l));
        upper = λ i l. (upper_of i l).1 (h.upper i (subst (λ n. i < n) (sym s.rows) l));
        balanced = λ k l. (balanced_of k).1 (h.balanced k (subst (λ n. k < n) (sym s.columns) l));
      },
    )

    module _ (c : ℕ → ℤ) (d : ℕ) (v : ℕ → ℚ) (dp : 1 ≤ d) (vector : IsOver p.columns c d v) where
      abbrev D : ℚ
      D = whole (pos d)

      equal_of : (exact.loss p (rational theta) v ≡ exact_dual.dual_objective p f) ↔ (loss w theta c d *ℤ pos g ≡ (pos theta.den *ℤ pos d) *ℤ sum_to w.rows (λ i. w.y i *ℤ e i))
      equal_of =
          equation_of (whole (pos ((theta.den * d) * (q * (q * g))))) (loss w theta c d *ℤ pos g) ((pos theta.den *ℤ pos d) *ℤ sum_to w.rows (λ i. w.y i *ℤ e i)) (exact.loss p (rational theta) v) (exact_dual.dual_objective p f)
          (positive_whole ((theta.den * d) * (q * (q * g))) (some_product (theta.den * d) (q * (q * g)) (some_product theta.den d tp dp) (some_product q (q * g) qp (some_product q g qp gp))))
          (whole-mul (loss w theta c d) (pos g) ∙ ap (λ z. z *ℚ G) (loss_scaled q p w s theta tp c d v vector)
          ∙ ring_ℚ (Q ∷ t ∷ D ∷ G ∷ exact.loss p (rational theta) v ∷ []) ((((v0 ⊠ v1) ⊠ (v0 ⊠ v2)) ⊠ v4) ⊠ v3) (((v1 ⊠ v2) ⊠ (v0 ⊠ (v0 ⊠ v3))) ⊠ v4) refl
          ∙ ap (λ z. z *ℚ exact.loss p (rational theta) v) (sym unit_is))
          (whole-mul (pos theta.den *ℤ pos d) (sum_to w.rows (λ i. w.y i *ℤ e i)) ∙ ap (λ z. z *ℚ whole (sum_to w.rows (λ i. w.y i *ℤ e i))) (whole-mul (pos theta.den) (pos d))
          ∙ ap (λ z. (t *ℚ D) *ℚ z)
          (sum_is (λ i. w.y i *ℤ e i) (λ i. p.y i *ℚ f i)
          (λ i l. whole-mul (w.y i) (e i) ∙ ap (λ z. z *ℚ whole (e i)) (s.y i) ∙ ap (λ z. (Q *ℚ p.y i) *ℚ z) (over_product p.rows e q g f over i l)
          ∙ ring_ℚ (Q ∷ G ∷ f i ∷ p.y i ∷ []) ((v0 ⊠ v3) ⊠ ((v0 ⊠ v1) ⊠ v2)) ((v0 ⊠ (v0 ⊠ v1)) ⊠ (v3 ⊠ v2)) refl))
          ∙ ring_ℚ (Q ∷ t ∷ D ∷ G ∷ exact_dual.dual_objective p f ∷ []) ((v1 ⊠ v2) ⊠ ((v0 ⊠ (v0 ⊠ v3)) ⊠ v4)) (((v1 ⊠ v2) ⊠ (v0 ⊠ (v0 ⊠ v3))) ⊠ v4) refl
          ∙ ap (λ z. z *ℚ exact_dual.dual_objective p f) (sym unit_is))
        where
          unit_is : whole (pos ((theta.den * d) * (q * (q * g)))) ≡ (t *ℚ D) *ℚ (Q *ℚ (Q *ℚ G))
          unit_is =
              whole_product (theta.den * d) (q * (q * g)) ∙ ap (λ z. z *ℚ whole (pos (q * (q * g)))) (whole_product theta.den d)
              ∙ ap (λ z. (t *ℚ D) *ℚ z) (whole-3 q q g)

      pub duals : exact_dual.IsDual p (rational theta) v f ↔ IsDual w theta c d e g
      duals = (
        λ h. record { feasible = feasible.0 h.feasible; equal = equal_of.0 h.equal },
        λ h. record { feasible = feasible.1 h.feasible; equal = equal_of.1 h.equal },
      )

-- ---- the laws of whole numbers, from those of fractions

-- whole numbers as a sample of fractions
abbrev embedded : Scaled → Sample
embedded w =
    record {
      rows = w.rows;
      columns = w.columns;
      x = λ i k. whole (w.x i k);
      y = λ i. whole (w.y i);
      up0 = λ i. whole (w.up0 i);
      up1 = λ i. whole (w.up1 i);
      down0 = λ i. whole (w.down0 i);
      down1 = λ i. whole (w.down1 i);
    }

once : (w : Scaled) → Scales 1 (embedded w) w
once w =
    record {
      rows = refl;
      columns = refl;
      x = λ i k. sym (one-*ℚ (whole (w.x i k)));
      y = λ i. sym (one-*ℚ (whole (w.y i)));
      up0 = λ i. sym (one-*ℚ (whole (w.up0 i)));
      up1 = λ i. sym (one-*ℚ (whole (w.up1 i)));
      down0 = λ i. sym (one-*ℚ (whole (w.down0 i)));
      down1 = λ i. sym (one-*ℚ (whole (w.down1 i)));
    }

over_all : (n : ℕ) (c : ℕ → ℤ) (d : ℕ) → 1 ≤ d → IsOver n c d (λ k. quotient (c k) d)
over_all n c d h = record { each = λ k l. whole-quotient (c k) d h }

as_fractions : (w : Scaled) (theta : Fraction) (c : ℕ → ℤ) (d : ℕ) (e : ℕ → ℤ) (g : ℕ) → 1 ≤ theta.den → 1 ≤ d → 1 ≤ g
    → exact_dual.IsDual (embedded w) (rational theta) (λ k. quotient (c k) d) (λ i. quotient (e i) (1 * g)) ↔ IsDual w theta c d e g
as_fractions w theta c d e g tp dp gp =
    duals 1 (embedded w) w (once w) (omega arith) theta tp e g (λ i. quotient (e i) (1 * g)) gp (over_all w.rows e (1 * g) (omega arith)) c d (λ k. quotient (c k) d) dp (over_all w.columns c d dp)

pub minimum_of : DualsShowMinimumInIntegers
minimum_of w theta c d e g tp dp gp h =
    (minima 1 (embedded w) w (once w) (omega arith) theta tp c d (λ k. quotient (c k) d) dp (over_all w.columns c d dp)).0
    (minimum (embedded w) (rational theta) (λ k. quotient (c k) d) (λ i. quotient (e i) (1 * g)) ((as_fractions w theta c d e g tp dp gp).1 h))

-- a mix of two quotients over one denominator
mix-quotient : (m n : ℕ) (a b : ℤ) (g h : ℕ) → 1 ≤ g → 1 ≤ h → 0 < m + n → whole ((pos m *ℤ (a *ℤ pos h)) +ℤ (pos n *ℤ (b *ℤ pos g))) ≡ whole (pos ((m + n) * (g * h))) *ℚ mix m n (quotient a g) (quotient b h)
mix-quotient m n a b g h gp hp some =
    whole-add (pos m *ℤ (a *ℤ pos h)) (pos n *ℤ (b *ℤ pos g))
    ∙ ap (λ z. z +ℚ whole (pos n *ℤ (b *ℤ pos g))) (whole-mul (pos m) (a *ℤ pos h) ∙ ap (λ z. whole (pos m) *ℚ z) (whole-mul a (pos h) ∙ ap (λ z. z *ℚ whole (pos h)) (whole-quotient a g gp)))
    ∙ ap (λ z. (whole (pos m) *ℚ ((whole (pos g) *ℚ x) *ℚ whole (pos h))) +ℚ z) (whole-mul (pos n) (b *ℤ pos g) ∙ ap (λ z. whole (pos n) *ℚ z) (whole-mul b (pos g) ∙ ap (λ z. z *ℚ whole (pos g)) (whole-quotient b h hp)))
    ∙ ring_by_ℚ (whole (pos m) ∷ whole (pos n) ∷ whole (pos g) ∷ whole (pos h) ∷ x ∷ y ∷ inverse (whole (pos (m + n))) ∷ whole (pos (m + n)) ∷ [])
    (v0 ⊠ ((v2 ⊠ v4) ⊠ v3) ⊞ v1 ⊠ ((v3 ⊠ v5) ⊠ v2)) ((v7 ⊠ (v2 ⊠ v3)) ⊠ ((v0 ⊠ v4 ⊞ v1 ⊠ v5) ⊠ v6))
    (negated ((v2 ⊠ v3) ⊠ (v0 ⊠ v4 ⊞ v1 ⊠ v5))) (v7 ⊠ v6) (number (pos 1)) refl (inverse_of (m + n) (omega arith))
    ∙ ap (λ z. z *ℚ mix m n x y) (sym (whole-3 (m + n) g h))
  where
    x : ℚ
    x = quotient a g

    y : ℚ
    y = quotient b h

between-mix : (m n : ℕ) (lo hi : Fraction) → 1 ≤ lo.den → 1 ≤ hi.den → 0 < m + n → rational (between m n lo hi) ≡ mix m n (rational lo) (rational hi)
between-mix m n lo hi p q some =
    sym (quotient_from (mix m n (rational lo) (rational hi)) (between m n lo hi).num ((m + n) * (lo.den * hi.den)) (some_product (m + n) (lo.den * hi.den) (omega arith) (some_product lo.den hi.den p q))
    (sym (mix-quotient m n lo.num hi.num lo.den hi.den p q some)))

one-times : (n : ℕ) → n ≡ 1 * n
one-times n = omega arith

over_mix : (r m n : ℕ) (e f : ℕ → ℤ) (g h : ℕ) → 1 ≤ g → 1 ≤ h → 0 < m + n → IsOver r (mixed m n e g f h) (1 * ((m + n) * (g * h))) (λ i. mix m n (quotient (e i) (1 * g)) (quotient (f i) (1 * h)))
over_mix r m n e f g h gp hp some =
    record {
      each = λ i l.
          mix-quotient m n (e i) (f i) g h gp hp some
          ∙ ap (λ k. whole (pos ((m + n) * (g * h))) *ℚ mix m n (quotient (e i) k) (quotient (f i) h)) (one-times g)
          ∙ ap (λ k. whole (pos ((m + n) * (g * h))) *ℚ mix m n (quotient (e i) (1 * g)) (quotient (f i) k)) (one-times h)
          ∙ ap (λ k. whole (pos k) *ℚ mix m n (quotient (e i) (1 * g)) (quotient (f i) (1 * h))) (one-times ((m + n) * (g * h)));
    }

pub mixed_of : MixIsDualInIntegers
mixed_of w lo hi c d e f g h m n lp up dp gp hp some a b =
    let bp = some_product (m + n) (lo.den * hi.den) (omega arith) (some_product lo.den hi.den lp up) in
    let kp = some_product (m + n) (g * h) (omega arith) (some_product g h gp hp) in
    let x = λ (i : ℕ). mix m n (quotient (e i) (1 * g)) (quotient (f i) (1 * h)) in
    (duals 1 (embedded w) w (once w) (omega arith) (between m n lo hi) bp (mixed m n e g f h) ((m + n) * (g * h)) x kp (over_mix w.rows m n e f g h gp hp some)
    c d (λ k. quotient (c k) d) dp (over_all w.columns c d dp)).0
    (subst (λ t. exact_dual.IsDual (embedded w) t (λ k. quotient (c k) d) x) (sym (between-mix m n lo hi lp up some))
    (mixes.mixed (embedded w) (rational lo) (rational hi) (λ k. quotient (c k) d) (λ i. quotient (e i) (1 * g)) (λ i. quotient (f i) (1 * h)) m n some
    ((as_fractions w lo c d e g lp dp gp).1 a) ((as_fractions w hi c d f h up dp hp).1 b)))
