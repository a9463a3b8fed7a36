-- The rows of a design in its problem: where they stand, and what they cost.
use Rattle.std.proofs.Common.{◌≡◌, ◌<◌, ◌≤◌, ◌+◌, ◌-◌, ℕ, Some, List, [], ◌∷◌, length, map, zip, get_or, slice_get, pos, inl, inr, arith, refl, sym, ap, subst, ◌∙◌}
use Rattle.std.proofs.lemmas.List.{get_or_append_left, get_or-append_right, get_or-map, length-map}
use Rattle.std.proofs.lemmas.Option.{get_or_from_slice_get, slice_get_cases}
use Rattle.std.proofs.lemmas.Slice.Zip.{get_or-zip, length-zip}
use Rattle.std.specs.Option.{option_map_or}
use Rattle.std.specs.declared.cmp.Ordering.TheVariants.{Less}
use Rattle.rational_laws.specs.Order.{cmp_ℚ}
use Rattle.rational_laws.specs.Rational.{ℚ, ◌+ℚ◌, ◌*ℚ◌, neg_ℚ, whole}
use Rattle.rational_laws.proofs.RationalLaws.{ring_ℚ}
use Rattle.rational_laws.specs.Solver.{number, negated, ◌⊞◌, ◌⊟◌, ◌⊠◌, v0, v1}
use Rattle.rational_laws.proofs.Lists.{item_at}
use Rattle.frac_core.specs.declared.frac128.Frac128.{Frac128}
use Rattle.frac_core.specs.Values.{exact, value}
use Rattle.loss_model.specs.declared.problem.Row.{Row}
use Rattle.loss_model.specs.declared.problem.Problem.{Problem}
use Rattle.loss_model.specs.Dual.{IsDataRow}
use Rattle.loss_model.specs.Problem.{sample}
use Rattle.loss_model.specs.Sample.{Sample}
use Rattle.loss_model.specs.Values.{exact_row}
use Rattle.design_matrix.specs.declared.design.Design.{Design}
use Rattle.design_matrix.specs.declared.design.DesignRow.{DesignRow}
use Rattle.tv_penalty.specs.declared.PenaltyRow.{PenaltyRow}
use Rattle.tv_penalty.specs.declared.Smoothing.{Smoothing}
use Rattle.rq_program.specs.Programs.{data_row, penalty_row, rows_of}
use Rattle.rq_program.specs.Costs.{CostsBy, HasDataRows, IsPenaltyRow}
use Rattle.rq_program.specs.Faults.{row_count}
use Rattle.rq_program.proofs.Rows.{length-rows_of}

-- the four numbers that a row of this weight costs by
record IsCosted (weight : ℚ) (p : Sample) (i : ℕ) : Type 0 where
  up0 : p.up0 i ≡ whole (pos 0)
  up1 : p.up1 i ≡ weight
  down0 : p.down0 i ≡ weight
  down1 : p.down1 i ≡ neg_ℚ weight

costs_by : (weight : ℚ) (p : Sample) (i : ℕ) → IsCosted weight p i → CostsBy weight p i
costs_by weight p i h = record {
  up = λ theta.
      ap (λ z. z +ℚ (p.up1 i *ℚ theta)) h.up0 ∙ ap (λ z. whole (pos 0) +ℚ (z *ℚ theta)) h.up1
      ∙ ring_ℚ (weight ∷ theta ∷ []) (number (pos 0) ⊞ v0 ⊠ v1) (v0 ⊠ v1) refl;
  down = λ theta.
      ap (λ z. z +ℚ (p.down1 i *ℚ theta)) h.down0 ∙ ap (λ z. weight +ℚ (z *ℚ theta)) h.down1
      ∙ ring_ℚ (weight ∷ theta ∷ []) (v0 ⊞ negated v0 ⊠ v1) (v0 ⊠ (number (pos 1) ⊟ v1)) refl;
}

is_data_row : (weight : ℚ) (p : Sample) (i : ℕ) → IsCosted weight p i → cmp_ℚ (whole (pos 0)) weight ≡ Less → IsDataRow p i
is_data_row weight p i h above = record {
  weighted = ap (cmp_ℚ (whole (pos 0))) h.up1 ∙ above;
  up0 = h.up0;
  down0 = h.down0 ∙ sym h.up1;
  down1 = h.down1 ∙ ap neg_ℚ (sym h.up1);
}

-- a place where an item stands is one of the list
there : {X : Type 0} (xs : List X) (i : ℕ) (x : X) → slice_get xs i ≡ Some x → i < length xs
there xs i x here = elim (slice_get_cases xs i).1 [ inl w ↦ w.1 | inr h ↦ absurd (cc (sym h.1 ∙ here)) ]

module _ (design : Design) (smoothing : Smoothing) (p : Problem Frac128) (lists : length smoothing.columns ≡ length design.rows) (rows : map exact_row p.rows ≡ rows_of design smoothing) where
  count : length p.rows ≡ row_count design smoothing
  count = sym (length-map p.rows exact_row) ∙ ap length rows ∙ length-rows_of design smoothing lists

  -- the row of the problem that stands where this row of the design does
  row_is : (i : ℕ) (r : DesignRow) (q : Row Frac128) (s : List Frac128) → i < length design.rows → get_or design.rows i r ≡ r → get_or p.rows i q ≡ q → get_or smoothing.columns i s ≡ s → exact_row q ≡ data_row (r, s)
  row_is i r q s l at_r at_q at_s =
      let lp : i < length p.rows = omega (arith, count) in
      let ls : i < length smoothing.columns = omega (arith, lists) in
      let lz : i < length (zip design.rows smoothing.columns) = omega (arith, length-zip design.rows smoothing.columns, lists) in
      sym (ap exact_row at_q)
      ∙ sym (get_or-map exact_row p.rows i q (exact_row q) lp)
      ∙ ap (λ zs. get_or zs i (exact_row q)) rows
      ∙ get_or_append_left (map data_row (zip design.rows smoothing.columns)) (map (penalty_row (length design.names)) smoothing.rows) (exact_row q) i (omega (arith, length-map (zip design.rows smoothing.columns) data_row))
      ∙ get_or-map data_row (zip design.rows smoothing.columns) i (r, s) (exact_row q) lz
      ∙ ap data_row (get_or-zip design.rows smoothing.columns i (r, s) l ls ∙ ap (λ a. (a, get_or smoothing.columns i s)) at_r ∙ ap (λ b. (r, b)) at_s)

  costed : (i : ℕ) (r : DesignRow) → i < length design.rows → get_or design.rows i r ≡ r → IsCosted (exact r.weight) (sample value p) i
  costed i r l at_r =
      let q = item_at p.rows i (omega (arith, count)) in
      let s = item_at smoothing.columns i (omega (arith, lists)) in
      let same = row_is i r q.0 s.0 l at_r q.2 s.2 in
      record {
        up0 = ap (λ o. option_map_or (λ z. exact z.up0) o (whole (pos 0))) q.1 ∙ ap (λ z. z.up0) same;
        up1 = ap (λ o. option_map_or (λ z. exact z.up1) o (whole (pos 0))) q.1 ∙ ap (λ z. z.up1) same;
        down0 = ap (λ o. option_map_or (λ z. exact z.down0) o (whole (pos 0))) q.1 ∙ ap (λ z. z.down0) same;
        down1 = ap (λ o. option_map_or (λ z. exact z.down1) o (whole (pos 0))) q.1 ∙ ap (λ z. z.down1) same;
      }

  front : length (map data_row (zip design.rows smoothing.columns)) ≡ length design.rows
  front = omega (arith, length-map (zip design.rows smoothing.columns) data_row, length-zip design.rows smoothing.columns, lists)

  -- the row of the problem for a penalty
  penalty_is : (i : ℕ) (q : Row Frac128) (r : PenaltyRow) → length design.rows ≤ i → i < length p.rows → get_or p.rows i q ≡ q → get_or smoothing.rows (i - length design.rows) r ≡ r → exact_row q ≡ penalty_row (length design.names) r
  penalty_is i q r behind within at_q at_r =
      sym (ap exact_row at_q)
      ∙ sym (get_or-map exact_row p.rows i q (exact_row q) within)
      ∙ ap (λ zs. get_or zs i (exact_row q)) rows
      ∙ get_or-append_right (map data_row (zip design.rows smoothing.columns)) (map (penalty_row (length design.names)) smoothing.rows) (length design.rows) i (exact_row q) front behind
      ∙ get_or-map (penalty_row (length design.names)) smoothing.rows (i - length design.rows) r (exact_row q) (omega (arith, count))
      ∙ ap (penalty_row (length design.names)) at_r

  penalised : (i : ℕ) (r : PenaltyRow) → length design.rows ≤ i → i < row_count design smoothing → get_or smoothing.rows (i - length design.rows) r ≡ r → cmp_ℚ (whole (pos 0)) (exact r.lambda) ≡ Less → IsPenaltyRow (sample value p) i
  penalised i r behind within at_r above =
      let q = item_at p.rows i (omega (arith, count)) in
      let same = penalty_is i q.0 r behind (omega (arith, count)) q.2 at_r in
      let up0 = ap (λ o. option_map_or (λ z. exact z.up0) o (whole (pos 0))) q.1 ∙ ap (λ z. z.up0) same in
      record {
        weighted = ap (cmp_ℚ (whole (pos 0))) up0 ∙ above;
        up1 = ap (λ o. option_map_or (λ z. exact z.up1) o (whole (pos 0))) q.1 ∙ ap (λ z. z.up1) same;
        down0 = ap (λ o. option_map_or (λ z. exact z.down0) o (whole (pos 0))) q.1 ∙ ap (λ z. z.down0) same ∙ sym up0;
        down1 = ap (λ o. option_map_or (λ z. exact z.down1) o (whole (pos 0))) q.1 ∙ ap (λ z. z.down1) same;
        y = ap (λ o. option_map_or (λ z. exact z.y) o (whole (pos 0))) q.1 ∙ ap (λ z. z.y) same;
      }

  pub has_data_rows : HasDataRows design smoothing p
  has_data_rows = record {
    count = count;
    costs = λ i r here. costs_by (exact r.weight) (sample value p) i (costed i r (there design.rows i r here) (get_or_from_slice_get design.rows i r r here));
    are_data = λ above i l.
        let r = item_at design.rows i l in
        is_data_row (exact r.0.weight) (sample value p) i (costed i r.0 l r.2) (subst (λ z. cmp_ℚ (whole (pos 0)) (exact z.weight) ≡ Less) r.2 (above i r.0 l));
    are_penalties = λ above i behind within.
        let r = item_at smoothing.rows (i - length design.rows) (omega arith) in
        penalised i r.0 behind within r.2 (subst (λ z. cmp_ℚ (whole (pos 0)) (exact z.lambda) ≡ Less) r.2 (above (i - length design.rows) r.0 (omega arith)));
  }
