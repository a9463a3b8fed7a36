-- What a projection leaves of its column, in whole numbers.
use Rattle.std.specs.Prelude.{◌≡◌, ℕ, ◌+◌, ◌<◌, ◌≤◌, ◌*◌, ◌*ℤ◌, [], ◌∷◌, List, ℤ, length, slice_get, Option, Some, pos}
use Rattle.std.specs.Option.{option_map_or}
use Rattle.std.proofs.Common.{arith, refl, sym, ap, ap₂, ◌∙◌}
use Rattle.rational_laws.specs.Fraction.{Fraction, rational}
use Rattle.rational_laws.specs.Solver.{number, ◌⊞◌, ◌⊟◌, ◌⊠◌, v0, v1, v2, v3, v4}
use Rattle.rational_laws.specs.Rational.{◌+ℚ◌, ◌-ℚ◌, ◌*ℚ◌, whole}
use Rattle.rational_laws.specs.RationalSums.{sum_ℚ}
use Rattle.rational_laws.proofs.RationalLaws.{whole-mul, ring_ℚ}
use Rattle.rational_laws.proofs.RationalSumLaws.{sum_ℚ-next, sum_ℚ-same, sum_ℚ-scale}
use Rattle.rational_laws.proofs.Signs.{whole_product, some_product}
use Rattle.rational_laws.proofs.Lists.{item_there}
use Rattle.rational_laws.specs.Terms.{delta}
use Rattle.rational_laws.proofs.TermLaws.{sum_ℚ-delta}
use Rattle.frac_core.specs.declared.frac128.Frac128.{Frac128}
use Rattle.frac_core.specs.Values.{value as value128}
use Rattle.loss_model.specs.declared.problem.Problem.{Problem}
use Rattle.loss_model.specs.Problem.{number_at, sample, value_at}
use Rattle.loss_model.specs.Sample.{fitted}
use Rattle.rank_model.specs.Restricted.{projected}
use Rattle.rank_model.proofs.Lengths.{sum_ℚ-minus}
use Rattle.wide_int.specs.Numbers.{total}
use Rattle.rational_laws.specs.WholeLists.{whole_at}
use Rattle.cert_sums.specs.declared.duals.Duals.{Duals}
use Rattle.cert_sums.specs.declared.table.WholeRow.{WholeRow}
use Rattle.cert_sums.specs.declared.table.Table.{Table}
use Rattle.cert_sums.specs.Tables.{IsTable}
use Rattle.cert_sums.specs.Duals.{IsDuals}
use Rattle.cert_sums.specs.Ranks.{left_at}
use Rattle.cert_sums.proofs.RowsOf.{row_of, number_of}
use Rattle.cert_sums.proofs.Follow.{whole-total}

module _ (p : Problem Frac128) (t : Table) (h : IsTable p t) (factors : List Fraction) (j : ℕ) (same : length factors ≡ p.columns) (within : j < length factors) (scale : ℕ) (numbers : List ℤ)
    (size : length numbers ≡ length factors + 1)
    (each : (k : ℕ) → k < length factors → whole_at numbers k ≡ whole (pos scale) *ℚ (delta k j -ℚ number_at factors k))
    (last : whole_at numbers (length factors) ≡ whole (pos 0)) where
  -- a row's cells times the numbers are what is left times both scales; and its weight times the scale of the costs
  row_left : (i : ℕ) → i < length p.rows → (w : WholeRow) × (slice_get t.rows i ≡ Some w)
      × (whole (total w.cells numbers) ≡ (whole (pos t.scale) *ℚ whole (pos scale)) *ℚ ((sample value128 p).x i j -ℚ fitted (sample value128 p) (number_at factors) i))
      × (whole w.up.slope ≡ whole (pos t.cost_scale) *ℚ (sample value128 p).up1 i)
  row_left i l =
      let many = h.size in
      let w = item_there t.rows i (omega (arith, l, many)) in
      let r = row_of p t h i w.0 w.1 in
      let c = number_at factors in
      let s = sample value128 p in
      let S = whole (pos t.scale) in
      let D = whole (pos scale) in
      let width = r.2.width in
      let f = λ (k : ℕ). whole_at w.0.cells k *ℚ whole_at numbers k in
      let g = λ (k : ℕ). (s.x i k *ℚ delta k j) -ℚ (s.x i k *ℚ c k) in
      let entries : sum_ℚ p.columns f ≡ (S *ℚ D) *ℚ (s.x i j -ℚ fitted s c i)
      = sum_ℚ-same p.columns f (λ k. (S *ℚ D) *ℚ g k)
      (λ k n. ap₂ ◌*ℚ◌ (r.2.x k n ∙ ap (λ z. S *ℚ z) (sym (number_of p.rows (λ r. value_at value128 r.x k) i r.0 r.1))) (each k (omega (arith, n, same)))
      ∙ ring_ℚ (S ∷ s.x i k ∷ D ∷ delta k j ∷ c k ∷ []) ((v0 ⊠ v1) ⊠ (v2 ⊠ (v3 ⊟ v4))) ((v0 ⊠ v2) ⊠ (v1 ⊠ v3 ⊟ v1 ⊠ v4)) refl)
      ∙ sum_ℚ-scale p.columns (S *ℚ D) g
      ∙ ap (λ z. (S *ℚ D) *ℚ z) (sum_ℚ-minus p.columns (λ k. s.x i k *ℚ delta k j) (λ k. s.x i k *ℚ c k)
      ∙ ap (λ z. z -ℚ fitted s c i) (sum_ℚ-delta p.columns (λ k. s.x i k) j (omega (arith, within, same)))) in
      let response : f p.columns ≡ whole (pos 0)
      = ap (λ z. whole_at w.0.cells p.columns *ℚ z) (ap (whole_at numbers) (sym same) ∙ last)
      ∙ ring_ℚ (whole_at w.0.cells p.columns ∷ []) (v0 ⊠ number (pos 0)) (number (pos 0)) refl in (
        w.0,
        w.1,
        whole-total w.0.cells numbers (omega (arith, width, size, same)) ∙ ap (λ n. sum_ℚ n f) width ∙ sum_ℚ-next p.columns f
            ∙ ap₂ ◌+ℚ◌ entries response
            ∙ ring_ℚ (((S *ℚ D) *ℚ (s.x i j -ℚ fitted s c i)) ∷ []) (v0 ⊞ number (pos 0)) v0 refl,
        r.2.up.rise ∙ ap (λ z. whole (pos t.cost_scale) *ℚ z) (sym (number_of p.rows (λ r. rational (value128 r.up1)) i r.0 r.1)),
      )

  left_is : (i : ℕ) → i < length p.rows → left_at t.rows numbers i
      ≡ (whole (pos (scale * t.scale * t.cost_scale)) *ℚ whole (pos t.cost_scale)) *ℚ ((sample value128 p).up1 i *ℚ projected (sample value128 p) j (number_at factors) i)
  left_is i l =
      let w = row_left i l in
      let s = sample value128 p in
      let S = whole (pos t.scale) in
      let D = whole (pos scale) in
      let C = whole (pos t.cost_scale) in
      let u = s.up1 i in
      let L = s.x i j -ℚ fitted s (number_at factors) i in
      let sum = total w.0.cells numbers in
      let slope = w.0.up.slope in
      let joint : whole (pos (scale * t.scale * t.cost_scale)) ≡ (D *ℚ S) *ℚ C
      = whole_product (scale * t.scale) t.cost_scale ∙ ap (λ z. z *ℚ C) (whole_product scale t.scale) in
      ap (λ (o : Option WholeRow). option_map_or (λ w. whole ((total w.cells numbers *ℤ w.up.slope) *ℤ w.up.slope)) o (whole (pos 0))) w.1
      ∙ whole-mul (sum *ℤ slope) slope ∙ ap (λ z. z *ℚ whole slope) (whole-mul sum slope)
      ∙ ap₂ (λ a b. (a *ℚ b) *ℚ b) w.2 w.3
      ∙ ring_ℚ (S ∷ D ∷ L ∷ C ∷ u ∷ []) ((((v0 ⊠ v1) ⊠ v2) ⊠ (v3 ⊠ v4)) ⊠ (v3 ⊠ v4)) ((((v1 ⊠ v0) ⊠ v3) ⊠ v3) ⊠ (v4 ⊠ (v4 ⊠ v2))) refl
      ∙ ap (λ z. (z *ℚ C) *ℚ (u *ℚ (u *ℚ L))) (sym joint)

  pub left_duals : (d : Duals) → 1 ≤ scale → d.scale ≡ scale * t.scale * t.cost_scale → length d.values ≡ length t.rows → ((i : ℕ) → i < length t.rows → whole_at d.values i ≡ left_at t.rows numbers i)
      → IsDuals p t (λ i. (sample value128 p).up1 i *ℚ projected (sample value128 p) j (number_at factors) i) d
  left_duals d some product sized values =
      let many = h.size in
      let positive = some_product (scale * t.scale) t.cost_scale (some_product scale t.scale some h.scale) h.cost_scale in
      record {
        scale = omega (arith, positive, product);
        size = sized ∙ many;
        each = λ i l. values i (omega (arith, l, many)) ∙ left_is i l
            ∙ ap (λ n. (whole (pos n) *ℚ whole (pos t.cost_scale)) *ℚ ((sample value128 p).up1 i *ℚ projected (sample value128 p) j (number_at factors) i)) (sym product);
      }
