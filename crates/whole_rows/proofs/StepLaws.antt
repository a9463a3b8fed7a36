-- The solving step at a basis of a scaled problem is the one at the basis of the problem.
use Rattle.std.specs.Prelude.{◌≡◌, ℕ, zero, suc, ◌<◌, Bool, true, false, ◌&&◌, if◌then◌else◌, [], ◌∷◌, pos}
use Rattle.std.specs.Ordering.{is_lt}
use Rattle.std.proofs.Common.{refl, sym, ap, ap₂, subst, ◌∙◌, arith}
use Rattle.rational_laws.specs.Solver.{number, negated, ◌⊞◌, ◌⊠◌, v0, v1, v2, v3, v4, v5, v6}
use Rattle.rational_laws.specs.Rational.{ℚ, ◌+ℚ◌, ◌*ℚ◌, neg_ℚ, whole, inverse, ◌≤ℚ◌}
use Rattle.rational_laws.proofs.RationalLaws.{≤ℚ_mul, ring_ℚ}
use Rattle.rational_laws.specs.RationalSums.{sum_ℚ}
use Rattle.rational_laws.proofs.RationalSumLaws.{sum_ℚ-same, sum_ℚ-scale}
use Rattle.rational_laws.specs.Order.{cmp_ℚ}
use Rattle.rational_laws.proofs.OrderLaws.{cmp_ℚ-Less, cmp_ℚ-Equal, cmp_ℚ-Greater, by_cmp, ≤ℚ-from_mul, le_from_not}
use Rattle.loss_model.specs.declared.vertex.Side.{Side}
use Rattle.loss_model.specs.declared.vertex.Side.TheVariants.{Up, Down, Basic}
use Rattle.loss_model.specs.Sample.{Sample, residual}
use Rattle.loss_model.specs.Spill.{abs_ℚ}
use Rattle.walk_model.specs.Lexicographic.{lex_cmp}
use Rattle.walk_model.specs.Perturbed.{Nonbasic, perturbed, perturbed_side, turned, ratio_on, ratio}
use Rattle.walk_model.proofs.Signs.{perturbed_side-same, perturbed-same}
use Rattle.walk_model.specs.Basis.{coord, coefficient, outside_row}
use Rattle.walk_model.specs.Direction.{Direction}
use Rattle.walk_model.specs.Direction.TheVariants.{Upward, Downward}
use Rattle.walk_model.specs.Steps.{slope, HasNoNegativeSlope, is_towards, change, moves, is_before, passing, slope_before, IsSolvingStep}
use Rattle.walk_model.specs.Walks.{IsFirstMover}
use Rattle.walk_model.proofs.Lists.{lex_cmp-by}
use Rattle.whole_rows.specs.Scaled.{IsScaled, unscaled}
use Rattle.whole_rows.proofs.ScalingLaws.{coord-scaled, residual-scaled, side_at-scaled, slope-scaled, perturbed_side-positive}

-- a positive factor on both sides changes no comparison
cmp_both : (l x y : ℚ) → ¬ (l ≤ℚ whole (pos 0)) → cmp_ℚ (l *ℚ x) (l *ℚ y) ≡ cmp_ℚ x y
cmp_both l x y h = by_cmp x y (λ o. cmp_ℚ (l *ℚ x) (l *ℚ y) ≡ o)
    (λ n. (cmp_ℚ-Less (l *ℚ x) (l *ℚ y)).1 (λ g. n (≤ℚ-from_mul y x l h g)))
    (λ e. (cmp_ℚ-Equal (l *ℚ x) (l *ℚ y)).1 (ap (λ z. l *ℚ z) e))
    (λ n. (cmp_ℚ-Greater (l *ℚ x) (l *ℚ y)).1 (λ g. n (≤ℚ-from_mul x y l h g)))

turned-mul : (o : Side) (l x : ℚ) → turned o (l *ℚ x) ≡ l *ℚ turned o x
turned-mul Up l x = refl
turned-mul Down l x = ring_ℚ (l ∷ x ∷ []) (negated (v0 ⊠ v1)) (v0 ⊠ negated v1) refl
turned-mul Basic l x = refl

module _ (p q : Sample) (s : ℕ → ℚ) (ly lc : ℚ) (h : IsScaled p q s ly lc) (a : ℕ → ℕ → ℚ) (at : ℕ → ℕ) (within : (j : ℕ) → j < p.columns → at j < p.rows) (py : ¬ (ly ≤ℚ whole (pos 0))) (pc : ¬ (lc ≤ℚ whole (pos 0))) where
  -- the row outside, with its residual times ly
  abbrev raised : ℕ → Nonbasic
  raised i = record { row = i; residual = ly *ℚ residual p (coefficient p at (unscaled s a)) i; coord = coord p (unscaled s a) i }

  -- a ratio of q, entry by entry: the first has the factor ly, the others are those of p
  ratio_at : (i j m : ℕ) → i < p.rows → j < p.columns → ratio q.rows q.columns at j (outside_row q at a i) m
      ≡ turned (perturbed_side p.rows p.columns at (outside_row p at (unscaled s a) i)) (perturbed p.columns at (raised i) m *ℚ inverse (abs_ℚ (coord p (unscaled s a) i j)))
  ratio_at i j m li lj =
      ap (λ n. ratio q.rows n at j (outside_row q at a i) m) h.columns
      ∙ ap (λ k. ratio k p.columns at j (outside_row q at a i) m) h.rows
      ∙ ap (λ o. ratio_on o p.columns at j (outside_row q at a i) m)
      (perturbed_side-same p.columns at (outside_row q at a i) (raised i) refl (residual-scaled p q s ly lc h a at within i li) (λ j lj. coord-scaled p q s ly lc h a i j li) p.rows
      ∙ perturbed_side-positive p.rows p.columns at ly i (residual p (coefficient p at (unscaled s a)) i) (coord p (unscaled s a) i) py)
      ∙ ap₂ (λ x c. turned (perturbed_side p.rows p.columns at (outside_row p at (unscaled s a) i)) (x *ℚ inverse (abs_ℚ c)))
      (perturbed-same p.columns at (outside_row q at a i) (raised i) refl (residual-scaled p q s ly lc h a at within i li) (λ j lj. coord-scaled p q s ly lc h a i j li) m)
      (coord-scaled p q s ly lc h a i j li)

  pub is_before-scaled : (j i r : ℕ) → j < p.columns → i < p.rows → r < p.rows → is_before q at a j i r ≡ is_before p at (unscaled s a) j i r
  is_before-scaled j i r lj li lr =
      ap is_lt (ap (λ k. lex_cmp (suc k) (ratio q.rows q.columns at j (outside_row q at a i)) (ratio q.rows q.columns at j (outside_row q at a r))) h.rows
      ∙ lex_cmp-by (suc p.rows) (ratio q.rows q.columns at j (outside_row q at a i)) (ratio q.rows q.columns at j (outside_row q at a r)) (ratio p.rows p.columns at j (outside_row p at (unscaled s a) i))
      (ratio p.rows p.columns at j (outside_row p at (unscaled s a) r)) by)
    where
      first : (k : ℕ) → k < p.rows → ratio q.rows q.columns at j (outside_row q at a k) zero ≡ ly *ℚ ratio p.rows p.columns at j (outside_row p at (unscaled s a) k) zero
      first k lk =
          ratio_at k j zero lk lj
          ∙ ap (turned (perturbed_side p.rows p.columns at (outside_row p at (unscaled s a) k)))
          (ring_ℚ (ly ∷ residual p (coefficient p at (unscaled s a)) k ∷ inverse (abs_ℚ (coord p (unscaled s a) k j)) ∷ []) ((v0 ⊠ v1) ⊠ v2) (v0 ⊠ (v1 ⊠ v2)) refl)
          ∙ turned-mul (perturbed_side p.rows p.columns at (outside_row p at (unscaled s a) k)) ly (residual p (coefficient p at (unscaled s a)) k *ℚ inverse (abs_ℚ (coord p (unscaled s a) k j)))

      by : (m : ℕ) → cmp_ℚ (ratio q.rows q.columns at j (outside_row q at a i) m) (ratio q.rows q.columns at j (outside_row q at a r) m)
          ≡ cmp_ℚ (ratio p.rows p.columns at j (outside_row p at (unscaled s a) i) m) (ratio p.rows p.columns at j (outside_row p at (unscaled s a) r) m)
      by zero =
          ap₂ cmp_ℚ (first i li) (first r lr)
          ∙ cmp_both ly (ratio p.rows p.columns at j (outside_row p at (unscaled s a) i) zero) (ratio p.rows p.columns at j (outside_row p at (unscaled s a) r) zero) py
      by (suc m) = ap₂ cmp_ℚ (ratio_at i j (suc m) li lj) (ratio_at r j (suc m) lr lj)

  change-scaled : (j : ℕ) (d : Direction) (i : ℕ) → i < p.rows → change q at a j d i ≡ change p at (unscaled s a) j d i
  change-scaled j Upward i li = coord-scaled p q s ly lc h a i j li
  change-scaled j Downward i li = ap neg_ℚ (coord-scaled p q s ly lc h a i j li)

  pub moves-scaled : (j : ℕ) (d : Direction) (i : ℕ) → i < p.rows → moves q at a j d i ≡ moves p at (unscaled s a) j d i
  moves-scaled j d i li = ap₂ is_towards (side_at-scaled p q s ly lc h a at within py i li) (change-scaled j d i li)

  pub passing-scaled : (theta : ℚ) (j i : ℕ) → i < p.rows → passing q at a theta j i ≡ lc *ℚ passing p at (unscaled s a) theta j i
  passing-scaled theta j i li =
      ap₂ (λ c k. abs_ℚ c *ℚ k) (coord-scaled p q s ly lc h a i j li)
      (ap₂ (λ u w. u +ℚ w) (ap₂ (λ c l. c +ℚ (l *ℚ theta)) (h.up0 i li) (h.up1 i li)) (ap₂ (λ c l. c +ℚ (l *ℚ theta)) (h.down0 i li) (h.down1 i li)))
      ∙ apart (abs_ℚ (coord p (unscaled s a) i j)) (p.up0 i) (p.up1 i) (p.down0 i) (p.down1 i)
    where
      apart : (c u v w x : ℚ) → c *ℚ (((lc *ℚ u) +ℚ ((lc *ℚ v) *ℚ theta)) +ℚ ((lc *ℚ w) +ℚ ((lc *ℚ x) *ℚ theta))) ≡ lc *ℚ (c *ℚ ((u +ℚ (v *ℚ theta)) +ℚ (w +ℚ (x *ℚ theta))))
      apart c u v w x = ring_ℚ (c ∷ u ∷ v ∷ w ∷ x ∷ lc ∷ theta ∷ []) (v0 ⊠ ((v5 ⊠ v1 ⊞ (v5 ⊠ v2) ⊠ v6) ⊞ (v5 ⊠ v3 ⊞ (v5 ⊠ v4) ⊠ v6))) (v5 ⊠ (v0 ⊠ ((v1 ⊞ v2 ⊠ v6) ⊞ (v3 ⊞ v4 ⊠ v6)))) refl

  pub slope_before-scaled : (theta : ℚ) (j : ℕ) (d : Direction) (r : ℕ) → j < p.columns → r < p.rows → slope_before q at a theta j d r ≡ lc *ℚ slope_before p at (unscaled s a) theta j d r
  slope_before-scaled theta j d r lj lr =
      ap₂ (λ x y. x +ℚ y) (slope-scaled p q s ly lc h a at within py theta j d lj)
      (ap (λ n. sum_ℚ n (λ i. if moves q at a j d i && is_before q at a j i r then passing q at a theta j i else whole (pos 0))) h.rows
      ∙ sum_ℚ-same p.rows (λ i. if moves q at a j d i && is_before q at a j i r then passing q at a theta j i else whole (pos 0))
      (λ i. lc *ℚ (if moves p at (unscaled s a) j d i && is_before p at (unscaled s a) j i r then passing p at (unscaled s a) theta j i else whole (pos 0))) each
      ∙ sum_ℚ-scale p.rows lc (λ i. if moves p at (unscaled s a) j d i && is_before p at (unscaled s a) j i r then passing p at (unscaled s a) theta j i else whole (pos 0)))
      ∙ ring_ℚ (lc ∷ slope p at (unscaled s a) theta j d ∷ sum_ℚ p.rows (λ i. if moves p at (unscaled s a) j d i && is_before p at (unscaled s a) j i r then passing p at (unscaled s a) theta j i else whole (pos 0)) ∷ []) (v0 ⊠ v1 ⊞ v0 ⊠ v2)
      (v0 ⊠ (v1 ⊞ v2)) refl
    where
      by : (t : Bool) (x : ℚ) → (if t then lc *ℚ x else whole (pos 0)) ≡ lc *ℚ (if t then x else whole (pos 0))
      by true x = refl
      by false x = ring_ℚ (lc ∷ []) (number (pos 0)) (v0 ⊠ number (pos 0)) refl

      each : (i : ℕ) → i < p.rows → (if moves q at a j d i && is_before q at a j i r then passing q at a theta j i else whole (pos 0)) ≡ lc
          *ℚ (if moves p at (unscaled s a) j d i && is_before p at (unscaled s a) j i r then passing p at (unscaled s a) theta j i else whole (pos 0))
      each i li =
          ap₂ (λ t x. if t then x else whole (pos 0)) (ap₂ (λ m b. m && b) (moves-scaled j d i li) (is_before-scaled j i r lj li lr)) (passing-scaled theta j i li)
          ∙ by (moves p at (unscaled s a) j d i && is_before p at (unscaled s a) j i r) (passing p at (unscaled s a) theta j i)

  -- ---- back to the problem
  back : (x y z w : ℚ) → z ≡ lc *ℚ x → w ≡ lc *ℚ y → z ≤ℚ w → x ≤ℚ y
  back x y z w e f l = ≤ℚ-from_mul x y lc pc (subst (λ v. v ≤ℚ (lc *ℚ y)) e (subst (λ v. z ≤ℚ v) f l))

  forth : (x y z w : ℚ) → z ≡ lc *ℚ x → w ≡ lc *ℚ y → x ≤ℚ y → z ≤ℚ w
  forth x y z w e f l = subst (λ v. v ≤ℚ w) (sym e) (subst (λ v. (lc *ℚ x) ≤ℚ v) (sym f) (≤ℚ_mul x y lc (le_from_not (whole (pos 0)) lc pc) l))

  zero_is : whole (pos 0) ≡ lc *ℚ whole (pos 0)
  zero_is = ring_ℚ (lc ∷ []) (number (pos 0)) (v0 ⊠ number (pos 0)) refl

  pub slopes_back : (theta : ℚ) → HasNoNegativeSlope q at a theta → HasNoNegativeSlope p at (unscaled s a) theta
  slopes_back theta none j d lj =
      back (whole (pos 0)) (slope p at (unscaled s a) theta j d) (whole (pos 0)) (slope q at a theta j d) zero_is (slope-scaled p q s ly lc h a at within py theta j d lj)
      (none j d (subst (λ n. j < n) (sym h.columns) lj))

  pub solving_step_back : (theta : ℚ) (j r : ℕ) → IsSolvingStep q at a theta j r → IsSolvingStep p at (unscaled s a) theta j r
  solving_step_back theta j r step =
      let d = step.direction in
      let lj : j < p.columns = subst (λ n. j < n) h.columns step.leaving.position in
      let lr : r < p.rows = subst (λ n. r < n) h.rows step.entering.row in
      let here = slope-scaled p q s ly lc h a at within py theta j d lj in
      let before = slope_before-scaled theta j d r lj lr in
      record {
        direction = d;
        leaving = record {
          position = lj;
          negative = λ l. step.leaving.negative (forth (whole (pos 0)) (slope p at (unscaled s a) theta j d) (whole (pos 0)) (slope q at a theta j d) zero_is here l);
          least = λ k e lk. back (slope p at (unscaled s a) theta j d) (slope p at (unscaled s a) theta k e) (slope q at a theta j d) (slope q at a theta k e) here (slope-scaled p q s ly lc h a at within py theta k e lk)
              (step.leaving.least k e (subst (λ n. k < n) (sym h.columns) lk));
          first = λ k e lk l. step.leaving.first k e lk (forth (slope p at (unscaled s a) theta k e) (slope p at (unscaled s a) theta j d) (slope q at a theta k e) (slope q at a theta j d)
              (slope-scaled p q s ly lc h a at within py theta k e (omega (arith, lk, lj))) here l);
        };
        entering = record {
          row = lr;
          mover = sym (moves-scaled j d r lr) ∙ step.entering.mover;
          still = λ l. step.entering.still (forth (whole (pos 0)) (slope_before p at (unscaled s a) theta j d r) (whole (pos 0)) (slope_before q at a theta j d r) zero_is before l);
          turned = back (whole (pos 0)) (slope_before p at (unscaled s a) theta j d r +ℚ passing p at (unscaled s a) theta j r) (whole (pos 0)) (slope_before q at a theta j d r +ℚ passing q at a theta j r) zero_is
              (ap₂ (λ x y. x +ℚ y) before (passing-scaled theta j r lr) ∙ ring_ℚ (lc ∷ slope_before p at (unscaled s a) theta j d r ∷ passing p at (unscaled s a) theta j r ∷ []) (v0 ⊠ v1 ⊞ v0 ⊠ v2) (v0 ⊠ (v1 ⊞ v2)) refl)
              step.entering.turned;
        };
      }

  -- the row that enters first at the scaled problem does so at the problem
  pub first_mover_back : (j : ℕ) (d : Direction) (r : ℕ) → j < p.columns → IsFirstMover q at a j d r → IsFirstMover p at (unscaled s a) j d r
  first_mover_back j d r lj m =
      let lr : r < p.rows = subst (λ n. r < n) h.rows m.row in
      record {
        row = lr;
        mover = sym (moves-scaled j d r lr) ∙ m.mover;
        least = λ i li moving other. sym (is_before-scaled j r i lj lr li) ∙ m.least i (subst (λ n. i < n) (sym h.rows) li) (moves-scaled j d i li ∙ moving) other;
      }

  -- and the other way round
  pub first_mover_there : (j : ℕ) (d : Direction) (r : ℕ) → j < p.columns → IsFirstMover p at (unscaled s a) j d r → IsFirstMover q at a j d r
  first_mover_there j d r lj m =
      record {
        row = subst (λ n. r < n) (sym h.rows) m.row;
        mover = moves-scaled j d r m.row ∙ m.mover;
        least = λ i li moving other.
            let here : i < p.rows = subst (λ n. i < n) h.rows li in
            is_before-scaled j r i lj m.row here ∙ m.least i here (sym (moves-scaled j d i here) ∙ moving) other;
      }
