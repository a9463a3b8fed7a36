-- What a problem loses: by its rows one after the other, first the data rows and then the penalty rows.
use Rattle.std.proofs.Common.{◌≡◌, ℕ, zero, suc, ◌+◌, ◌++◌, Bool, true, false, cond, List, [], ◌∷◌, All, length, map, replicate, zip, pos, refl, sym, ap, ap₂, subst, ◌∙◌}
use Rattle.std.proofs.lemmas.List.{length-map, length-replicate}
use Rattle.std.proofs.lemmas.List.Elements.{All-head, All-tail}
use Rattle.rational_laws.specs.Rational.{ℚ, ◌+ℚ◌, ◌-ℚ◌, ◌*ℚ◌, ◌≤ℚ◌, neg_ℚ, le_ℚ, whole}
use Rattle.rational_laws.specs.RationalSums.{sum_ℚ, positive_ℚ, negative_ℚ}
use Rattle.rational_laws.specs.Solver.{number, negated, ◌⊞◌, ◌⊟◌, ◌⊠◌, v0, v1, v2, v3}
use Rattle.rational_laws.proofs.OrderLaws.{≤ℚ-minus}
use Rattle.rational_laws.proofs.RationalLaws.{ring_ℚ, +ℚ_assoc, zero-+ℚ, ≤ℚ_total}
use Rattle.rational_laws.proofs.RationalSumLaws.{sum_ℚ-first}
use Rattle.frac_core.specs.declared.frac128.Frac128.{Frac128}
use Rattle.frac_core.specs.Values.{exact, value}
use Rattle.loss_model.specs.declared.problem.Row.{Row}
use Rattle.loss_model.specs.Problem.{sample, value_at}
use Rattle.loss_model.specs.Sample.{loss, row_loss}
use Rattle.loss_model.specs.Spill.{abs_ℚ}
use Rattle.loss_model.proofs.Duality.{cost_above, cost_below}
use Rattle.loss_model.specs.Values.{exact_row}
use Rattle.design_matrix.specs.declared.design.DesignRow.{DesignRow}
use Rattle.tv_penalty.specs.declared.PenaltyRow.{PenaltyRow}
use Rattle.tv_penalty.specs.Smoothings.{exact_penalty}
use Rattle.tv_penalty.specs.Variation.{along, penalty}
use Rattle.tv_penalty.proofs.Variations.{along_append, along_same, along_zeros}
use Rattle.rq_program.specs.Losses.{LossIsPenalised, check_loss, record_residual, records_loss}
use Rattle.rq_program.specs.Programs.{data_row, penalty_row}

-- ---- sums from the front

-- entries times coefficients, by index and one after the other
sum_along : (n : ℕ) (xs : List Frac128) (b : ℕ → ℚ) → n ≡ length xs → sum_ℚ n (λ k. value_at value xs k *ℚ b k) ≡ along (map exact xs) b
sum_along zero [] b e = refl
sum_along zero (x ∷ xs) b e = absurd (cc e)
sum_along (suc n) [] b e = absurd (cc e)
sum_along (suc n) (x ∷ xs) b e =
    sum_ℚ-first n (λ k. value_at value (x ∷ xs) k *ℚ b k) ∙ ap (λ z. (exact x *ℚ b zero) +ℚ z) (sum_along n xs (λ k. b (suc k)) (cc e))

-- ---- rows

-- what a row loses
row_of_loss : Row ℚ → ℚ → (ℕ → ℚ) → ℚ
row_of_loss q theta b =
    ((q.up0 +ℚ (q.up1 *ℚ theta)) *ℚ positive_ℚ (q.y -ℚ along q.x b)) +ℚ ((q.down0 +ℚ (q.down1 *ℚ theta)) *ℚ negative_ℚ (q.y -ℚ along q.x b))

-- what rows lose, added
rows_of_loss : List (Row ℚ) → ℚ → (ℕ → ℚ) → ℚ
rows_of_loss [] theta b = whole (pos 0)
rows_of_loss (q ∷ qs) theta b = row_of_loss q theta b +ℚ rows_of_loss qs theta b

rows_append : (ps qs : List (Row ℚ)) (theta : ℚ) (b : ℕ → ℚ) → rows_of_loss (ps ++ qs) theta b ≡ rows_of_loss ps theta b +ℚ rows_of_loss qs theta b
unfolding rows_of_loss
rows_append [] qs theta b = sym (zero-+ℚ (rows_of_loss qs theta b))
rows_append (p ∷ ps) qs theta b = ap (λ z. row_of_loss p theta b +ℚ z) (rows_append ps qs theta b) ∙ sym (+ℚ_assoc (row_of_loss p theta b) (rows_of_loss ps theta b) (rows_of_loss qs theta b))

-- by index and one after the other
loss_by_rows : (n : ℕ) (rs : List (Row Frac128)) (theta : ℚ) (b : ℕ → ℚ) → All (λ r. length r.x ≡ n) rs
    → loss (sample value (record { columns = n; rows = rs })) theta b ≡ rows_of_loss (map exact_row rs) theta b
unfolding rows_of_loss row_of_loss
loss_by_rows n [] theta b wide = refl
loss_by_rows n (r ∷ rs) theta b wide =
    sum_ℚ-first (length rs) (row_loss (sample value (record { columns = n; rows = r ∷ rs })) theta b)
    ∙ ap₂ ◌+ℚ◌ (ap lost (sum_along n r.x b (sym (All-head (λ q. length q.x ≡ n) r rs wide)))) (loss_by_rows n rs theta b (All-tail (λ q. length q.x ≡ n) r rs wide))
  where
    -- by what is fitted
    lost : ℚ → ℚ
    lost z =
        ((exact r.up0 +ℚ (exact r.up1 *ℚ theta)) *ℚ positive_ℚ (exact r.y -ℚ z)) +ℚ ((exact r.down0 +ℚ (exact r.down1 *ℚ theta)) *ℚ negative_ℚ (exact r.y -ℚ z))

-- ---- data rows

module _ (width : ℕ) (theta : ℚ) (b : ℕ → ℚ) where
  -- the coefficients behind the first ones
  abbrev behind : ℕ → ℚ
  behind j = b (width + j)

  along_behind : (front xs : List ℚ) → length front ≡ width → along (front ++ xs) b ≡ along front b +ℚ along xs behind
  along_behind front xs size =
      along_append front xs b ∙ ap (λ z. along front b +ℚ z) (along_same xs (λ j. b (length front + j)) behind (λ j. ap (λ n. b (n + j)) size))

  data_loss : (r : DesignRow) (smooth : List Frac128) → length r.x ≡ width → row_of_loss (data_row (r, smooth)) theta b ≡ exact r.weight *ℚ check_loss theta (record_residual (r, smooth) b behind)
  unfolding row_of_loss
  data_loss r smooth size =
      ap lost (along_behind (map exact r.x) (map exact smooth) (length-map r.x exact ∙ size))
      ∙ ring_ℚ (exact r.weight ∷ theta ∷ positive_ℚ (record_residual (r, smooth) b behind) ∷ negative_ℚ (record_residual (r, smooth) b behind) ∷ [])
      ((number (pos 0) ⊞ v0 ⊠ v1) ⊠ v2 ⊞ (v0 ⊞ negated v0 ⊠ v1) ⊠ v3) (v0 ⊠ (v1 ⊠ v2 ⊞ (number (pos 1) ⊟ v1) ⊠ v3)) refl
    where
      lost : ℚ → ℚ
      lost z =
          ((whole (pos 0) +ℚ (exact r.weight *ℚ theta)) *ℚ positive_ℚ (exact r.y -ℚ z)) +ℚ ((exact r.weight +ℚ (neg_ℚ (exact r.weight) *ℚ theta)) *ℚ negative_ℚ (exact r.y -ℚ z))

  data_losses : (rs : List DesignRow) (smooth : List (List Frac128)) → All (λ r. length r.x ≡ width) rs → rows_of_loss (map data_row (zip rs smooth)) theta b ≡ records_loss (zip rs smooth) theta b behind
  unfolding rows_of_loss
  data_losses [] smooth wide = refl
  data_losses (r ∷ rs) [] wide = refl
  data_losses (r ∷ rs) (s ∷ smooth) wide = ap₂ ◌+ℚ◌ (data_loss r s (All-head (λ q. length q.x ≡ width) r rs wide)) (data_losses rs smooth (All-tail (λ q. length q.x ≡ width) r rs wide))

  -- ---- penalty rows

  -- lambda on both sides of a residual of -a
  mirrored : (l a : ℚ) → (l *ℚ positive_ℚ (whole (pos 0) -ℚ a)) +ℚ (l *ℚ negative_ℚ (whole (pos 0) -ℚ a)) ≡ l *ℚ abs_ℚ a
  mirrored l a = by (le_ℚ (whole (pos 0)) a) refl
    where
      by : (t : Bool) → le_ℚ (whole (pos 0)) a ≡ t → (l *ℚ positive_ℚ (whole (pos 0) -ℚ a)) +ℚ (l *ℚ negative_ℚ (whole (pos 0) -ℚ a)) ≡ l *ℚ cond t a (neg_ℚ a)
      by true e =
          let least : whole (pos 0) ≤ℚ (whole (pos 0) -ℚ (whole (pos 0) -ℚ a)) = subst (λ z. whole (pos 0) ≤ℚ z) (ring_ℚ (a ∷ []) v0 (number (pos 0) ⊟ (number (pos 0) ⊟ v0)) refl) (record { le = e }) in
          cost_below l l (whole (pos 0) -ℚ a) ((≤ℚ-minus (whole (pos 0) -ℚ a) (whole (pos 0))).1 least)
          ∙ ring_ℚ (l ∷ a ∷ []) (v0 ⊠ negated (number (pos 0) ⊟ v1)) (v0 ⊠ v1) refl
      by false e =
          cost_above l l (whole (pos 0) -ℚ a) ((≤ℚ-minus a (whole (pos 0))).0 (≤ℚ_total (whole (pos 0)) a e))
          ∙ ring_ℚ (l ∷ a ∷ []) (v0 ⊠ (number (pos 0) ⊟ v1)) (v0 ⊠ negated v1) refl

  penalty_loss : (r : PenaltyRow) → row_of_loss (penalty_row width r) theta b ≡ exact r.lambda *ℚ abs_ℚ (along (map exact r.x) behind)
  unfolding row_of_loss
  penalty_loss r =
      ap lost (along_behind (replicate width (whole (pos 0))) (map exact r.x) (length-replicate width (whole (pos 0))) ∙ ap (λ z. z +ℚ a) (along_zeros width b) ∙ zero-+ℚ a)
      ∙ ring_ℚ (exact r.lambda ∷ theta ∷ positive_ℚ (whole (pos 0) -ℚ a) ∷ negative_ℚ (whole (pos 0) -ℚ a) ∷ [])
      ((v0 ⊞ number (pos 0) ⊠ v1) ⊠ v2 ⊞ (v0 ⊞ number (pos 0) ⊠ v1) ⊠ v3) (v0 ⊠ v2 ⊞ v0 ⊠ v3) refl
      ∙ mirrored (exact r.lambda) a
    where
      a : ℚ
      a = along (map exact r.x) behind

      lost : ℚ → ℚ
      lost z =
          ((exact r.lambda +ℚ (whole (pos 0) *ℚ theta)) *ℚ positive_ℚ (whole (pos 0) -ℚ z)) +ℚ ((exact r.lambda +ℚ (whole (pos 0) *ℚ theta)) *ℚ negative_ℚ (whole (pos 0) -ℚ z))

  penalty_losses : (rs : List PenaltyRow) → rows_of_loss (map (penalty_row width) rs) theta b ≡ penalty (map exact_penalty rs) behind
  unfolding rows_of_loss
  penalty_losses [] = refl
  penalty_losses (r ∷ rs) = ap₂ ◌+ℚ◌ (penalty_loss r) (penalty_losses rs)

-- ---- the problem

pub loss_is_penalised : LossIsPenalised
loss_is_penalised design smoothing p theta b together shaped rows =
    loss_by_rows p.columns p.rows theta b shaped.entries
    ∙ ap (λ qs. rows_of_loss qs theta b) rows
    ∙ rows_append (map data_row (zip design.rows smoothing.columns)) (map (penalty_row (length design.names)) smoothing.rows) theta b
    ∙ ap₂ ◌+ℚ◌ (data_losses (length design.names) theta b design.rows smoothing.columns together.entries) (penalty_losses (length design.names) theta b smoothing.rows)
