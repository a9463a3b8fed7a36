-- Rows in whole numbers are a scaled sample.
use Rattle.std.specs.Prelude.{◌≡◌, ◌≢◌, ◌⊎◌, ℕ, ℤ, ◌<◌, ◌≤◌, List, length, slice_get, All, Option, Some, None, pos}
use Rattle.std.specs.Option.{option_map_or}
use Rattle.std.proofs.Common.{refl, sym, ap, subst, ◌∙◌, get_or, inl, inr, arith}
use Rattle.std.proofs.lemmas.Option.{slice_get_cases, get_or_from_slice_get}
use Rattle.rational_laws.specs.Fraction.{Fraction, rational}
use Rattle.rational_laws.specs.Rational.{whole, ◌≤ℚ◌}
use Rattle.rational_laws.proofs.Signs.{positive_nonzero}
use Rattle.loss_model.specs.declared.problem.Row.{Row}
use Rattle.loss_model.specs.declared.problem.Problem.{Problem}
use Rattle.loss_model.specs.Problem.{value_at, sample, IsWellShaped}
use Rattle.rational_laws.specs.WholeLists.{whole_at}
use Rattle.whole_rows.specs.Scaled.{IsScaled}
use Rattle.whole_rows.specs.declared.factor.Factor.{Factor}
use Rattle.whole_rows.specs.declared.rows.WholeRow.{WholeRow}
use Rattle.rational_laws.specs.Pairs.{ArePaired}
use Rattle.whole_rows.specs.Wholes.{factor_value, factor_at, IsPositive, IsWholeRow, sample_of_rows}
use Rattle.whole_rows.proofs.WholeValues.{positive_share}
use Rattle.whole_rows.proofs.Pairs.{paired_read}

pub factor_positive : (f : Factor ℤ) → IsPositive f → ¬ (factor_value f ≤ℚ whole (pos 0))
factor_positive f h = positive_share f.over f.under h.over h.under

pub factor_some : (fs : List (Factor ℤ)) → All IsPositive fs → (k : ℕ) → k < length fs → factor_at fs k ≢ whole (pos 0)
factor_some fs h k lk = by (slice_get_cases fs k).1
  where
    by : (((f : Factor ℤ) × (k < length fs) × (slice_get fs k ≡ Some f) × (get_or fs k f ≡ f)) ⊎ ((length fs ≤ k) × (slice_get fs k ≡ None))) → factor_at fs k ≢ whole (pos 0)
    by (inl p) e =
        let there : IsPositive p.0 = subst IsPositive p.3 (h k p.0 lk) in
        positive_nonzero (factor_value p.0) (factor_positive p.0 there) (sym (ap (λ (o : Option (Factor ℤ)). option_map_or factor_value o (whole (pos 1))) p.2) ∙ e)
    by (inr p) e =
        let past : length fs ≤ k = p.0 in
        absurd (omega arith)

module _ {F : Type 0} (value : F → Fraction) (p : Problem F) (fs : List (Factor ℤ)) (fy fc : Factor ℤ) (ws : List (WholeRow ℤ)) where
  pub scaled_from : IsWellShaped p → length ws ≡ length p.rows → ArePaired (IsWholeRow value fs fy fc) p.rows ws → IsScaled (sample value p) (sample_of_rows p.columns ws) (factor_at fs) (factor_value fy) (factor_value fc)
  scaled_from shaped size pairs =
      record {
        rows = size;
        columns = refl;
        x = λ i k li lk. paired_read (IsWholeRow value fs fy fc) p.rows ws pairs size i li (λ r. value_at value r.x k) (λ w. whole_at w.x k) (factor_at fs k) (λ r w at h. h.x k (wide i li r at k lk));
        y = λ i li. paired_read (IsWholeRow value fs fy fc) p.rows ws pairs size i li (λ r. rational (value r.y)) (λ w. whole w.y) (factor_value fy) (λ r w at h. h.y);
        up0 = λ i li. paired_read (IsWholeRow value fs fy fc) p.rows ws pairs size i li (λ r. rational (value r.up0)) (λ w. whole w.up0) (factor_value fc) (λ r w at h. h.up0);
        up1 = λ i li. paired_read (IsWholeRow value fs fy fc) p.rows ws pairs size i li (λ r. rational (value r.up1)) (λ w. whole w.up1) (factor_value fc) (λ r w at h. h.up1);
        down0 = λ i li. paired_read (IsWholeRow value fs fy fc) p.rows ws pairs size i li (λ r. rational (value r.down0)) (λ w. whole w.down0) (factor_value fc) (λ r w at h. h.down0);
        down1 = λ i li. paired_read (IsWholeRow value fs fy fc) p.rows ws pairs size i li (λ r. rational (value r.down1)) (λ w. whole w.down1) (factor_value fc) (λ r w at h. h.down1);
      }
    where
      wide : (i : ℕ) → i < length p.rows → (r : Row F) → slice_get p.rows i ≡ Some r → (k : ℕ) → k < p.columns → k < length r.x
      wide i li r at k lk =
          let e : length r.x ≡ p.columns = subst (λ (r : Row F). length r.x ≡ p.columns) (get_or_from_slice_get p.rows i r r at) (shaped.entries i r li) in
          omega (arith, e, lk)

  -- each row has an entry for each column
  pub wide_from : IsWellShaped p → length ws ≡ length p.rows → ArePaired (IsWholeRow value fs fy fc) p.rows ws → All (λ w. length w.x ≡ p.columns) ws
  wide_from shaped size pairs i d li = by (slice_get_cases p.rows i).1 (slice_get_cases ws i).1
    where
      by : (((r : Row F) × (i < length p.rows) × (slice_get p.rows i ≡ Some r) × (get_or p.rows i r ≡ r)) ⊎ ((length p.rows ≤ i) × (slice_get p.rows i ≡ None)))
          → (((w : WholeRow ℤ) × (i < length ws) × (slice_get ws i ≡ Some w) × (get_or ws i w ≡ w)) ⊎ ((length ws ≤ i) × (slice_get ws i ≡ None)))
          → length (get_or ws i d).x ≡ p.columns
      by (inl r) (inl w) =
          let own : length r.0.x ≡ p.columns = subst (λ (r : Row F). length r.x ≡ p.columns) (get_or_from_slice_get p.rows i r.0 r.0 r.2) (shaped.entries i r.0 r.1) in
          ap (λ (w : WholeRow ℤ). length w.x) (get_or_from_slice_get ws i w.0 d w.2) ∙ (pairs i r.0 w.0 r.2 w.2).size ∙ own
      by (inr r) w =
          let past : length p.rows ≤ i = r.0 in
          absurd (omega arith)
      by (inl r) (inr w) =
          let past : length ws ≤ i = w.0 in
          absurd (omega arith)
