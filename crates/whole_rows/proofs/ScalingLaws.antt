-- What scaling a problem changes at a basis.
--
--     an inverse of the scaled rows, back to one of the rows     unscaled_basis
--     coordinates don't change                                   coord-scaled
--     coefficients are multiplied back                           coefficient-scaled
--     residuals, dual values, slopes have one factor each        residual-scaled, dual_value-scaled, slope-scaled
--     sides don't change                                         side_at-scaled
use Rattle.std.specs.Prelude.{◌≡◌, ◌≢◌, ℕ, zero, suc, ◌<◌, Bool, true, false, ◌==◌, if◌then◌else◌, [], ◌∷◌, pos}
use Rattle.std.specs.Ordering.{ordering_then}
use Rattle.std.specs.declared.cmp.Ordering.TheVariants.{Less, Equal, Greater}
use Rattle.std.proofs.Common.{refl, sym, ap, ap₂, subst, ◌∙◌}
use borrow.Author.Tests.{eqb-true, eqb-false}
use Rattle.rational_laws.specs.Solver.{number, negated, ◌⊞◌, ◌⊟◌, ◌⊠◌, v0, v1, v2, v3, v4}
use Rattle.rational_laws.specs.Rational.{ℚ, ◌+ℚ◌, ◌-ℚ◌, ◌*ℚ◌, neg_ℚ, whole, ◌≤ℚ◌}
use Rattle.rational_laws.proofs.RationalLaws.{ring_ℚ}
use Rattle.rational_laws.specs.RationalSums.{sum_ℚ}
use Rattle.rational_laws.proofs.RationalSumLaws.{sum_ℚ-same, sum_ℚ-scale}
use Rattle.rational_laws.proofs.Inverses.{*ℚ_cancel}
use Rattle.rational_laws.specs.Order.{cmp_ℚ}
use Rattle.rational_laws.proofs.OrderLaws.{cmp_ℚ-Less, cmp_ℚ-Equal, cmp_ℚ-Greater, by_cmp, ≤ℚ-from_mul}
use Rattle.walk_model.specs.Terms.{delta}
use Rattle.walk_model.proofs.TermLaws.{if-other}
use Rattle.walk_model.specs.Matrices.{AreInverse, coordinate}
use Rattle.walk_model.specs.Selections.{is_among, AreDistinct}
use Rattle.loss_model.specs.declared.vertex.Side.{Side}
use Rattle.loss_model.specs.declared.vertex.Side.TheVariants.{Up, Down, Basic}
use Rattle.loss_model.specs.Sample.{Sample, residual}
use Rattle.walk_model.specs.Lexicographic.{lex_cmp}
use Rattle.walk_model.specs.Perturbed.{Nonbasic, perturbed, zeros, side_of, perturbed_side}
use Rattle.walk_model.proofs.Signs.{perturbed_side-same}
use Rattle.walk_model.specs.Part.{Part}
use Rattle.walk_model.specs.Part.TheVariants.{Constant, Linear}
use Rattle.walk_model.specs.Basis.{IsBasis, coord, coefficient, outside_row, side_at, bound_part, nonbasic_total, balancing, basic_dual, dual_value}
use Rattle.walk_model.specs.Direction.{Direction}
use Rattle.walk_model.specs.Direction.TheVariants.{Upward, Downward}
use Rattle.walk_model.specs.Steps.{slope}
use Rattle.whole_rows.specs.Scaled.{IsScaled, unscaled}

-- ---- what a positive factor leaves

-- a list of which the first entry has a positive factor compares with zeros as before
pub cmp_positive : (l x : ℚ) → ¬ (l ≤ℚ whole (pos 0)) → cmp_ℚ (l *ℚ x) (whole (pos 0)) ≡ cmp_ℚ x (whole (pos 0))
cmp_positive l x h = by_cmp x (whole (pos 0)) (λ o. cmp_ℚ (l *ℚ x) (whole (pos 0)) ≡ o) less equal greater
  where
    none : l *ℚ whole (pos 0) ≡ whole (pos 0)
    none = ring_ℚ (l ∷ []) (v0 ⊠ number (pos 0)) (number (pos 0)) refl

    less : ¬ (whole (pos 0) ≤ℚ x) → cmp_ℚ (l *ℚ x) (whole (pos 0)) ≡ Less
    less n = (cmp_ℚ-Less (l *ℚ x) (whole (pos 0))).1 (λ g. n (≤ℚ-from_mul (whole (pos 0)) x l h (subst (λ z. z ≤ℚ (l *ℚ x)) (sym none) g)))

    equal : x ≡ whole (pos 0) → cmp_ℚ (l *ℚ x) (whole (pos 0)) ≡ Equal
    equal e = (cmp_ℚ-Equal (l *ℚ x) (whole (pos 0))).1 (ap (λ z. l *ℚ z) e ∙ none)

    greater : ¬ (x ≤ℚ whole (pos 0)) → cmp_ℚ (l *ℚ x) (whole (pos 0)) ≡ Greater
    greater n = (cmp_ℚ-Greater (l *ℚ x) (whole (pos 0))).1 (λ g. n (≤ℚ-from_mul x (whole (pos 0)) l h (subst (λ z. (l *ℚ x) ≤ℚ z) (sym none) g)))

lex_cmp-signs : (n : ℕ) (u v z : ℕ → ℚ) → ((i : ℕ) → cmp_ℚ (u i) (z i) ≡ cmp_ℚ (v i) (z i)) → lex_cmp n u z ≡ lex_cmp n v z
lex_cmp-signs zero u v z h = refl
lex_cmp-signs (suc n) u v z h = ap₂ ordering_then (lex_cmp-signs n u v z h) (h n)

-- a row whose residual has a positive factor has the same side
pub perturbed_side-positive : (rows n : ℕ) (at : ℕ → ℕ) (l : ℚ) (row : ℕ) (r : ℚ) (c : ℕ → ℚ) → ¬ (l ≤ℚ whole (pos 0))
    → perturbed_side rows n at (record { row = row; residual = l *ℚ r; coord = c }) ≡ perturbed_side rows n at (record { row = row; residual = r; coord = c })
perturbed_side-positive rows n at l row r c h = ap side_of (lex_cmp-signs (suc rows) (perturbed n at u) (perturbed n at v) zeros by)
  where
    u : Nonbasic
    u = record { row = row; residual = l *ℚ r; coord = c }

    v : Nonbasic
    v = record { row = row; residual = r; coord = c }

    by : (i : ℕ) → cmp_ℚ (perturbed n at u i) (zeros i) ≡ cmp_ℚ (perturbed n at v i) (zeros i)
    by zero = cmp_positive l r h
    by (suc i) = refl

-- ---- the laws

module _ (p q : Sample) (s : ℕ → ℚ) (ly lc : ℚ) (h : IsScaled p q s ly lc) (a : ℕ → ℕ → ℚ) where
  -- rows of p
  term : (i k j : ℕ) → i < p.rows → k < p.columns → p.x i k *ℚ unscaled s a k j ≡ q.x i k *ℚ a k j
  term i k j li lk =
      ring_ℚ (p.x i k ∷ s k ∷ a k j ∷ []) (v0 ⊠ (v1 ⊠ v2)) ((v1 ⊠ v0) ⊠ v2) refl
      ∙ ap (λ z. z *ℚ a k j) (sym (h.x i k li lk))

  pub coord-scaled : (i j : ℕ) → i < p.rows → coord q a i j ≡ coord p (unscaled s a) i j
  coord-scaled i j li =
      ap (λ n. coordinate n a (q.x i) j) h.columns
      ∙ sym (sum_ℚ-same p.columns (λ k. p.x i k *ℚ unscaled s a k j) (λ k. q.x i k *ℚ a k j) (λ k lk. term i k j li lk))

  module _ (at : ℕ → ℕ) where
    pub unscaled_inverse : ((j : ℕ) → j < p.columns → at j < p.rows) → ((k : ℕ) → k < p.columns → s k ≢ whole (pos 0)) → AreInverse q.columns (λ j k. q.x (at j) k) a → AreInverse p.columns (λ j k. p.x (at j) k) (unscaled s a)
    unscaled_inverse within some inv = record { left = left; right = right }
      where
        there : AreInverse p.columns (λ j k. q.x (at j) k) a
        there = subst (λ n. AreInverse n (λ j k. q.x (at j) k) a) h.columns inv

        left : (i j : ℕ) → i < p.columns → j < p.columns → sum_ℚ p.columns (λ k. p.x (at i) k *ℚ unscaled s a k j) ≡ delta i j
        left i j li lj =
            sum_ℚ-same p.columns (λ k. p.x (at i) k *ℚ unscaled s a k j) (λ k. q.x (at i) k *ℚ a k j) (λ k lk. term (at i) k j (within i li) lk)
            ∙ there.left i j li lj

        moved : (k l : ℕ) → s k *ℚ delta k l ≡ s l *ℚ delta k l
        moved k l = by (k == l) refl
          where
            by : (t : Bool) → (k == l) ≡ t → s k *ℚ delta k l ≡ s l *ℚ delta k l
            by true e = ap (λ m. s m *ℚ delta k l) (eqb-true k l e)
            by false e =
                let none : delta k l ≡ whole (pos 0) = if-other k l (whole (pos 1)) (whole (pos 0)) (eqb-false k l e) in
                ap (λ z. s k *ℚ z) none ∙ ring_ℚ (s k ∷ s l ∷ []) (v0 ⊠ number (pos 0)) (v1 ⊠ number (pos 0)) refl ∙ sym (ap (λ z. s l *ℚ z) none)

        right : (k l : ℕ) → k < p.columns → l < p.columns → sum_ℚ p.columns (λ i. unscaled s a k i *ℚ p.x (at i) l) ≡ delta k l
        right k l lk ll =
            *ℚ_cancel (sum_ℚ p.columns (λ i. unscaled s a k i *ℚ p.x (at i) l)) (delta k l) (s l) (some l ll)
            (sym (sum_ℚ-scale p.columns (s l) (λ i. unscaled s a k i *ℚ p.x (at i) l))
            ∙ sum_ℚ-same p.columns (λ i. s l *ℚ (unscaled s a k i *ℚ p.x (at i) l)) (λ i. s k *ℚ (a k i *ℚ q.x (at i) l))
            (λ i li. ring_ℚ (s l ∷ s k ∷ a k i ∷ p.x (at i) l ∷ []) (v0 ⊠ ((v1 ⊠ v2) ⊠ v3)) (v1 ⊠ (v2 ⊠ (v0 ⊠ v3))) refl ∙ ap (λ z. s k *ℚ (a k i *ℚ z)) (sym (h.x (at i) l (within i li) ll)))
            ∙ sum_ℚ-scale p.columns (s k) (λ i. a k i *ℚ q.x (at i) l)
            ∙ ap (λ z. s k *ℚ z) (there.right k l lk ll)
            ∙ moved k l)

    -- a basis of the scaled problem is one of the problem
    pub unscaled_basis : ((k : ℕ) → k < p.columns → s k ≢ whole (pos 0)) → IsBasis q at a → IsBasis p at (unscaled s a)
    unscaled_basis some b =
        let d : AreDistinct at p.columns p.rows = subst (λ n. AreDistinct at n p.rows) h.columns (subst (λ m. AreDistinct at q.columns m) h.rows b.distinct) in
        record { distinct = d; inverse = unscaled_inverse d.within some b.inverse }

    module _ (within : (j : ℕ) → j < p.columns → at j < p.rows) where
      pub coefficient-scaled : (k : ℕ) → ly *ℚ coefficient p at (unscaled s a) k ≡ s k *ℚ coefficient q at a k
      coefficient-scaled k =
          sym (sum_ℚ-scale p.columns ly (λ j. unscaled s a k j *ℚ p.y (at j)))
          ∙ sum_ℚ-same p.columns (λ j. ly *ℚ (unscaled s a k j *ℚ p.y (at j))) (λ j. s k *ℚ (a k j *ℚ q.y (at j)))
          (λ j lj. ring_ℚ (ly ∷ s k ∷ a k j ∷ p.y (at j) ∷ []) (v0 ⊠ ((v1 ⊠ v2) ⊠ v3)) (v1 ⊠ (v2 ⊠ (v0 ⊠ v3))) refl ∙ ap (λ z. s k *ℚ (a k j *ℚ z)) (sym (h.y (at j) (within j lj))))
          ∙ sum_ℚ-scale p.columns (s k) (λ j. a k j *ℚ q.y (at j))
          ∙ ap (λ n. s k *ℚ sum_ℚ n (λ j. a k j *ℚ q.y (at j))) (sym h.columns)

      pub residual-scaled : (i : ℕ) → i < p.rows → residual q (coefficient q at a) i ≡ ly *ℚ residual p (coefficient p at (unscaled s a)) i
      residual-scaled i li =
          ap₂ (λ y f. y -ℚ f) (h.y i li) fits
          ∙ ring_ℚ (ly ∷ p.y i ∷ sum_ℚ p.columns (λ k. p.x i k *ℚ coefficient p at (unscaled s a) k) ∷ []) (v0 ⊠ v1 ⊟ v0 ⊠ v2) (v0 ⊠ (v1 ⊟ v2)) refl
        where
          fits : sum_ℚ q.columns (λ k. q.x i k *ℚ coefficient q at a k) ≡ ly *ℚ sum_ℚ p.columns (λ k. p.x i k *ℚ coefficient p at (unscaled s a) k)
          fits =
              ap (λ n. sum_ℚ n (λ k. q.x i k *ℚ coefficient q at a k)) h.columns
              ∙ sum_ℚ-same p.columns (λ k. q.x i k *ℚ coefficient q at a k) (λ k. ly *ℚ (p.x i k *ℚ coefficient p at (unscaled s a) k))
              (λ k lk. ap (λ z. z *ℚ coefficient q at a k) (h.x i k li lk)
              ∙ ring_ℚ (s k ∷ p.x i k ∷ coefficient q at a k ∷ []) ((v0 ⊠ v1) ⊠ v2) (v1 ⊠ (v0 ⊠ v2)) refl
              ∙ ap (λ z. p.x i k *ℚ z) (sym (coefficient-scaled k))
              ∙ ring_ℚ (p.x i k ∷ ly ∷ coefficient p at (unscaled s a) k ∷ []) (v0 ⊠ (v1 ⊠ v2)) (v1 ⊠ (v0 ⊠ v2)) refl)
              ∙ sum_ℚ-scale p.columns ly (λ k. p.x i k *ℚ coefficient p at (unscaled s a) k)

      module _ (positive : ¬ (ly ≤ℚ whole (pos 0))) where
        pub side_at-scaled : (i : ℕ) → i < p.rows → side_at q at a i ≡ side_at p at (unscaled s a) i
        side_at-scaled i li =
            ap (λ n. if is_among at n i then Basic else perturbed_side q.rows n at (outside_row q at a i)) h.columns
            ∙ ap (λ m. if is_among at p.columns i then Basic else perturbed_side m p.columns at (outside_row q at a i)) h.rows
            ∙ ap (λ (o : Side). if is_among at p.columns i then Basic else o)
            (perturbed_side-same p.columns at (outside_row q at a i) (record { row = i; residual = ly *ℚ residual p (coefficient p at (unscaled s a)) i; coord = coord p (unscaled s a) i }) refl (residual-scaled i li)
            (λ j lj. coord-scaled i j li) p.rows
            ∙ perturbed_side-positive p.rows p.columns at ly i (residual p (coefficient p at (unscaled s a)) i) (coord p (unscaled s a) i) positive)

        bound-scaled : (part : Part) (i : ℕ) (side : Side) → i < p.rows → bound_part q part i side ≡ lc *ℚ bound_part p part i side
        bound-scaled Constant i Up li = h.up0 i li
        bound-scaled Constant i Down li = ap neg_ℚ (h.down0 i li) ∙ ring_ℚ (lc ∷ p.down0 i ∷ []) (negated (v0 ⊠ v1)) (v0 ⊠ negated v1) refl
        bound-scaled Constant i Basic li = ring_ℚ (lc ∷ []) (number (pos 0)) (v0 ⊠ number (pos 0)) refl
        bound-scaled Linear i Up li = h.up1 i li
        bound-scaled Linear i Down li = ap neg_ℚ (h.down1 i li) ∙ ring_ℚ (lc ∷ p.down1 i ∷ []) (negated (v0 ⊠ v1)) (v0 ⊠ negated v1) refl
        bound-scaled Linear i Basic li = ring_ℚ (lc ∷ []) (number (pos 0)) (v0 ⊠ number (pos 0)) refl

        total-scaled : (part : Part) (k : ℕ) → k < p.columns → nonbasic_total q (side_at q at a) part k ≡ (lc *ℚ s k) *ℚ nonbasic_total p (side_at p at (unscaled s a)) part k
        total-scaled part k lk =
            ap (λ m. sum_ℚ m (λ i. q.x i k *ℚ bound_part q part i (side_at q at a i))) h.rows
            ∙ sum_ℚ-same p.rows (λ i. q.x i k *ℚ bound_part q part i (side_at q at a i)) (λ i. (lc *ℚ s k) *ℚ (p.x i k *ℚ bound_part p part i (side_at p at (unscaled s a) i)))
            (λ i li. ap₂ (λ x b. x *ℚ b) (h.x i k li lk) (bound-scaled part i (side_at q at a i) li ∙ ap (λ o. lc *ℚ bound_part p part i o) (side_at-scaled i li))
            ∙ ring_ℚ (s k ∷ p.x i k ∷ lc ∷ bound_part p part i (side_at p at (unscaled s a) i) ∷ []) ((v0 ⊠ v1) ⊠ (v2 ⊠ v3)) ((v2 ⊠ v0) ⊠ (v1 ⊠ v3)) refl)
            ∙ sum_ℚ-scale p.rows (lc *ℚ s k) (λ i. p.x i k *ℚ bound_part p part i (side_at p at (unscaled s a) i))

        pub basic_dual-scaled : (part : Part) (j : ℕ) → basic_dual q at a part j ≡ lc *ℚ basic_dual p at (unscaled s a) part j
        basic_dual-scaled part j =
            ap (λ n. balancing n a (nonbasic_total q (side_at q at a) part) j) h.columns
            ∙ sum_ℚ-same p.columns (λ k. neg_ℚ (nonbasic_total q (side_at q at a) part k) *ℚ a k j) (λ k. lc *ℚ (neg_ℚ (nonbasic_total p (side_at p at (unscaled s a)) part k) *ℚ unscaled s a k j))
            (λ k lk. ap (λ z. neg_ℚ z *ℚ a k j) (total-scaled part k lk)
            ∙ ring_ℚ (lc ∷ s k ∷ nonbasic_total p (side_at p at (unscaled s a)) part k ∷ a k j ∷ []) (negated ((v0 ⊠ v1) ⊠ v2) ⊠ v3) (v0 ⊠ (negated v2 ⊠ (v1 ⊠ v3))) refl)
            ∙ sum_ℚ-scale p.columns lc (λ k. neg_ℚ (nonbasic_total p (side_at p at (unscaled s a)) part k) *ℚ unscaled s a k j)

        pub dual_value-scaled : (theta : ℚ) (j : ℕ) → dual_value q at a theta j ≡ lc *ℚ dual_value p at (unscaled s a) theta j
        dual_value-scaled theta j =
            ap₂ (λ c l. c +ℚ (l *ℚ theta)) (basic_dual-scaled Constant j) (basic_dual-scaled Linear j)
            ∙ ring_ℚ (lc ∷ basic_dual p at (unscaled s a) Constant j ∷ basic_dual p at (unscaled s a) Linear j ∷ theta ∷ []) (v0 ⊠ v1 ⊞ (v0 ⊠ v2) ⊠ v3) (v0 ⊠ (v1 ⊞ v2 ⊠ v3)) refl

        pub slope-scaled : (theta : ℚ) (j : ℕ) (d : Direction) → j < p.columns → slope q at a theta j d ≡ lc *ℚ slope p at (unscaled s a) theta j d
        slope-scaled theta j Upward lj =
            ap₂ (λ x y. x -ℚ y) (ap₂ (λ c l. c +ℚ (l *ℚ theta)) (h.up0 (at j) (within j lj)) (h.up1 (at j) (within j lj))) (dual_value-scaled theta j)
            ∙ ring_ℚ (lc ∷ p.up0 (at j) ∷ p.up1 (at j) ∷ theta ∷ dual_value p at (unscaled s a) theta j ∷ []) ((v0 ⊠ v1 ⊞ (v0 ⊠ v2) ⊠ v3) ⊟ v0 ⊠ v4) (v0 ⊠ ((v1 ⊞ v2 ⊠ v3) ⊟ v4)) refl
        slope-scaled theta j Downward lj =
            ap₂ (λ x y. x +ℚ y) (ap₂ (λ c l. c +ℚ (l *ℚ theta)) (h.down0 (at j) (within j lj)) (h.down1 (at j) (within j lj))) (dual_value-scaled theta j)
            ∙ ring_ℚ (lc ∷ p.down0 (at j) ∷ p.down1 (at j) ∷ theta ∷ dual_value p at (unscaled s a) theta j ∷ []) ((v0 ⊠ v1 ⊞ (v0 ⊠ v2) ⊠ v3) ⊞ v0 ⊠ v4) (v0 ⊠ ((v1 ⊞ v2 ⊠ v3) ⊞ v4)) refl
