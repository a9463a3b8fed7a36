-- The penalty rows cost lambda times the total variation of the slope.
use Rattle.std.specs.Prelude.{All}
use Rattle.std.proofs.Common.{◌≡◌, ℕ, zero, suc, ◌+◌, ◌-◌, ◌++◌, Bool, true, false, List, [], ◌∷◌, length, map, pos, replicate, refl, sym, ap, ap₂, ◌∙◌, arith, if◌then◌else◌}
use Rattle.std.specs.List.{range_with_len}
use Rattle.std.specs.Ordering.{is_lt}
use Rattle.std.proofs.lemmas.List.{length-replicate}
use Rattle.std.proofs.lemmas.List.Elements.{All-head, All-tail}
use Rattle.rational_laws.specs.Order.{cmp_ℚ}
use Rattle.rational_laws.proofs.OrderLaws.{by_cmp}
use Rattle.rational_laws.specs.Rational.{ℚ, ◌≤ℚ◌, ◌+ℚ◌, ◌-ℚ◌, ◌*ℚ◌, neg_ℚ, inverse, whole}
use Rattle.rational_laws.proofs.RationalLaws.{ring_ℚ, +ℚ_assoc, zero-+ℚ}
use Rattle.rational_laws.specs.RationalSums.{sum_ℚ}
use Rattle.rational_laws.proofs.RationalSumLaws.{sum_ℚ-same, sum_ℚ-first}
use Rattle.rational_laws.specs.Solver.{number, negated, ◌⊞◌, ◌⊟◌, ◌⊠◌, v0, v1, v2, v3, v4}
use Rattle.frac_core.specs.declared.frac128.Frac128.{Frac128}
use Rattle.frac_core.specs.Values.{exact}
use Rattle.loss_model.specs.Spill.{abs_ℚ}
use Rattle.formula_parser.specs.declared.formula.Smooth.{Smooth}
use Rattle.design_matrix.specs.declared.design.DesignRow.{DesignRow}
use Rattle.design_matrix.specs.Cells.{Table}
use Rattle.design_matrix.specs.Lists.{each}
use Rattle.tv_penalty.specs.Knots.{knots_of}
use Rattle.tv_penalty.specs.Smoothings.{PartOf, PenaltyOf, bend_after, bend_entries, bend_row, bends_of, knot_at, part_of, placed, rows_from, smoothing_of, width, with_columns}
use Rattle.tv_penalty.specs.Variation.{PenaltyIsVariation, along, penalty, slope, total_variation, values, variation_from}

pub along_same : (xs : List ℚ) (b c : ℕ → ℚ) → ((j : ℕ) → b j ≡ c j) → along xs b ≡ along xs c
along_same [] b c h = refl
along_same (x ∷ xs) b c h = ap₂ (λ u v. (x *ℚ u) +ℚ v) (h zero) (along_same xs (λ j. b (suc j)) (λ j. c (suc j)) (λ j. h (suc j)))

pub along_append : (xs ys : List ℚ) (b : ℕ → ℚ) → along (xs ++ ys) b ≡ along xs b +ℚ along ys (λ j. b (length xs + j))
along_append [] ys b = along_same ys b (λ j. b (zero + j)) (λ j. ap b (omega arith)) ∙ sym (zero-+ℚ (along ys (λ j. b (zero + j))))
along_append (x ∷ xs) ys b =
    ap (λ z. (x *ℚ b zero) +ℚ z) (along_append xs ys (λ j. b (suc j)) ∙ ap (λ z. along xs (λ j. b (suc j)) +ℚ z) (along_same ys (λ j. b (suc (length xs + j))) (λ j. b (suc (length xs) + j)) (λ j. ap b (omega arith))))
    ∙ sym (+ℚ_assoc (x *ℚ b zero) (along xs (λ j. b (suc j))) (along ys (λ j. b (suc (length xs) + j))))

pub along_zeros : (n : ℕ) (b : ℕ → ℚ) → along (replicate n (whole (pos 0))) b ≡ whole (pos 0)
along_zeros zero b = refl
along_zeros (suc n) b =
    ap (λ z. (whole (pos 0) *ℚ b zero) +ℚ z) (along_zeros n (λ j. b (suc j))) ∙ ring_ℚ (b zero ∷ []) (number (pos 0) ⊠ v0 ⊞ number (pos 0)) (number (pos 0)) refl

-- entries from a place on meet the coefficients from there on
along_placed : (columns before : ℕ) (xs : List ℚ) (b : ℕ → ℚ) → along (placed columns before xs) b ≡ along xs (λ j. b (before + j))
along_placed columns before xs b =
    let zeros = replicate before (whole (pos 0)) in
    let after = replicate (columns - (before + length xs)) (whole (pos 0)) in
    let n : length zeros ≡ before = length-replicate before (whole (pos 0)) in
    along_append zeros (xs ++ after) b
    ∙ ap₂ ◌+ℚ◌ (along_zeros before b) (along_same (xs ++ after) (λ j. b (length zeros + j)) (λ j. b (before + j)) (λ j. ap (λ m. b (m + j)) n) ∙ along_append xs after (λ j. b (before + j))
    ∙ ap (λ z. along xs (λ j. b (before + j)) +ℚ z) (along_zeros (columns - (before + length xs)) (λ j. b (before + (length xs + j)))))
    ∙ ring_ℚ (along xs (λ j. b (before + j)) ∷ []) (number (pos 0) ⊞ (v0 ⊞ number (pos 0))) v0 refl

-- the first knot's value is 0 where it has no column
along_columns : (intercept : Bool) (xs : List ℚ) (b : ℕ → ℚ) → along (with_columns intercept xs) b ≡ along xs (values intercept b)
along_columns false xs b = refl
along_columns true [] b = refl
along_columns true (x ∷ xs) b = ring_ℚ (x ∷ along xs b ∷ []) v1 (v0 ⊠ number (pos 0) ⊞ v1) refl

-- a bend along the values at knots is the change of slope
along_bend : (knots : List Frac128) (n k : ℕ) (v : ℕ → ℚ) → along (bend_entries n k (bend_after knots k)) v ≡ slope knots v (k + 1) -ℚ slope knots v k
along_bend knots n k v =
    let below = inverse (knot_at knots (k + 1) -ℚ knot_at knots k) in
    let above = inverse (knot_at knots (k + 2) -ℚ knot_at knots (k + 1)) in
    let one : k + suc zero ≡ k + 1 = omega arith in
    let two : k + suc (suc zero) ≡ k + 2 = omega arith in
    let next : k + 1 + 1 ≡ k + 2 = omega arith in
    along_placed n k (below ∷ neg_ℚ (below +ℚ above) ∷ above ∷ []) v
    ∙ ap (λ m. (below *ℚ v m) +ℚ ((neg_ℚ (below +ℚ above) *ℚ v (k + suc zero)) +ℚ ((above *ℚ v (k + suc (suc zero))) +ℚ whole (pos 0)))) (omega arith)
    ∙ ap₂ (λ m l. (below *ℚ v k) +ℚ ((neg_ℚ (below +ℚ above) *ℚ v m) +ℚ ((above *ℚ v l) +ℚ whole (pos 0)))) one two
    ∙ ring_ℚ (below ∷ above ∷ v k ∷ v (k + 1) ∷ v (k + 2) ∷ []) (v0 ⊠ v2 ⊞ (negated (v0 ⊞ v1) ⊠ v3 ⊞ (v1 ⊠ v4 ⊞ number (pos 0)))) ((v4 ⊟ v3) ⊠ v1 ⊟ (v3 ⊟ v2) ⊠ v0) refl
    ∙ ap (λ m. ((v m -ℚ v (k + 1)) *ℚ inverse (knot_at knots m -ℚ knot_at knots (k + 1))) -ℚ slope knots v k) (sym next)

penalty_append : (xs ys : List PenaltyOf) (b : ℕ → ℚ) → penalty (xs ++ ys) b ≡ penalty xs b +ℚ penalty ys b
penalty_append [] ys b = sym (zero-+ℚ (penalty ys b))
penalty_append (x ∷ xs) ys b =
    ap (λ z. (x.lambda *ℚ abs_ℚ (along x.x b)) +ℚ z) (penalty_append xs ys b)
    ∙ sym (+ℚ_assoc (x.lambda *ℚ abs_ℚ (along x.x b)) (penalty xs b) (penalty ys b))

module _ (intercept : Bool) (columns before : ℕ) (p : PartOf) (b : ℕ → ℚ) where
  abbrev jump : ℕ → ℚ
  jump k = abs_ℚ (slope p.knots (values intercept (λ j. b (before + j))) (k + 1) -ℚ slope p.knots (values intercept (λ j. b (before + j))) k)

  -- one row
  row_costs : (k : ℕ) → along (bend_row intercept columns before p k (bend_after p.knots k)).x b ≡ slope p.knots (values intercept (λ j. b (before + j))) (k + 1) -ℚ slope p.knots (values intercept (λ j. b (before + j))) k
  row_costs k =
      along_placed columns before (with_columns intercept (bend_entries (length p.knots) k (bend_after p.knots k))) b
      ∙ along_columns intercept (bend_entries (length p.knots) k (bend_after p.knots k)) (λ j. b (before + j))
      ∙ along_bend p.knots (length p.knots) k (values intercept (λ j. b (before + j)))

  -- the rows from bend k on
  rows_cost : (n k : ℕ) → penalty (each (bend_row intercept columns before p) k (map (bend_after p.knots) (range_with_len k n))) b ≡ p.lambda *ℚ sum_ℚ n (λ j. jump (k + j))
  rows_cost zero k = ring_ℚ (p.lambda ∷ []) (number (pos 0)) (v0 ⊠ number (pos 0)) refl
  rows_cost (suc n) k =
      ap₂ (λ u z. (p.lambda *ℚ abs_ℚ u) +ℚ z) (row_costs k) (rows_cost n (k + 1) ∙ ap (λ z. p.lambda *ℚ z) (sum_ℚ-same n (λ j. jump (k + 1 + j)) (λ j. jump (k + suc j)) (λ j l. ap jump (omega arith))))
      ∙ ring_ℚ (p.lambda ∷ jump k ∷ sum_ℚ n (λ j. jump (k + suc j)) ∷ []) (v0 ⊠ v1 ⊞ v0 ⊠ v2) (v0 ⊠ (v1 ⊞ v2)) refl
      ∙ ap (λ m. p.lambda *ℚ (jump m +ℚ sum_ℚ n (λ j. jump (k + suc j)))) (omega arith)
      ∙ ap (λ z. p.lambda *ℚ z) (sym (sum_ℚ-first n (λ j. jump (k + j))))

  -- all rows of the smooth
  smooth_costs : p.bends ≡ bends_of p.knots → penalty (each (bend_row intercept columns before p) 0 p.bends) b ≡ p.lambda *ℚ total_variation p.knots (values intercept (λ j. b (before + j)))
  smooth_costs all =
      ap (λ bends. penalty (each (bend_row intercept columns before p) 0 bends) b) all ∙ rows_cost (length p.knots - 2) 0
      ∙ ap (λ z. p.lambda *ℚ z) (sum_ℚ-same (length p.knots - 2) (λ j. jump (0 + j)) jump (λ j l. ap jump (omega arith)))

  -- without rows lambda is 0
  smooth_free : p.bends ≡ [] → p.lambda ≡ whole (pos 0) → penalty (each (bend_row intercept columns before p) 0 p.bends) b ≡ p.lambda *ℚ total_variation p.knots (values intercept (λ j. b (before + j)))
  smooth_free none free =
      ap (λ bends. penalty (each (bend_row intercept columns before p) 0 bends) b) none
      ∙ ring_ℚ (total_variation p.knots (values intercept (λ j. b (before + j))) ∷ []) (number (pos 0)) (number (pos 0) ⊠ v0) refl
      ∙ ap (λ z. z *ℚ total_variation p.knots (values intercept (λ j. b (before + j)))) (sym free)

module _ (table : Table) (rows : List DesignRow) (intercept : Bool) (columns : ℕ) (b : ℕ → ℚ) where
  nought : (x : ℚ) → whole (pos 0) ≤ℚ x → is_lt (cmp_ℚ (whole (pos 0)) x) ≡ false → x ≡ whole (pos 0)
  nought x h = by_cmp (whole (pos 0)) x (λ o. is_lt o ≡ false → x ≡ whole (pos 0)) (λ l e. absurd (cc e)) (λ s e. sym s) (λ g e. absurd (g h))

  one_smooth : (before : ℕ) (s : Smooth) → whole (pos 0) ≤ℚ exact s.lambda → let p = part_of true table rows s in
      penalty (each (bend_row intercept columns before p) 0 p.bends) b ≡ p.lambda *ℚ total_variation p.knots (values intercept (λ j. b (before + j)))
  unfolding part_of
  one_smooth before s h = by (is_lt (cmp_ℚ (whole (pos 0)) (exact s.lambda))) refl
    where
      by : (t : Bool) → is_lt (cmp_ℚ (whole (pos 0)) (exact s.lambda)) ≡ t → let p = part_of true table rows s in
          penalty (each (bend_row intercept columns before p) 0 p.bends) b ≡ p.lambda *ℚ total_variation p.knots (values intercept (λ j. b (before + j)))
      by false e = smooth_free intercept columns before (part_of true table rows s) b (ap (λ t. if t then bends_of (knots_of table rows s) else []) e) (nought (exact s.lambda) h e)
      by true e = smooth_costs intercept columns before (part_of true table rows s) b (ap (λ t. if t then bends_of (knots_of table rows s) else []) e)

  rows_vary : (before : ℕ) (ss : List Smooth) → All (λ s. whole (pos 0) ≤ℚ exact s.lambda) ss → penalty (rows_from intercept columns before (map (part_of true table rows) ss)) b
      ≡ variation_from intercept before (map (part_of true table rows) ss) b
  rows_vary before [] h = refl
  rows_vary before (s ∷ ss) h =
      let p = part_of true table rows s in
      penalty_append (each (bend_row intercept columns before p) 0 p.bends) (rows_from intercept columns (before + width intercept p) (map (part_of true table rows) ss)) b
      ∙ ap₂ ◌+ℚ◌ (one_smooth before s (All-head (λ q. whole (pos 0) ≤ℚ exact q.lambda) s ss h)) (rows_vary (before + width intercept p) ss (All-tail (λ q. whole (pos 0) ≤ℚ exact q.lambda) s ss h))

pub penalty_is_variation : PenaltyIsVariation
unfolding smoothing_of
penalty_is_variation table design model b h = rows_vary table design.rows model.intercept _ b 0 model.smooths h
