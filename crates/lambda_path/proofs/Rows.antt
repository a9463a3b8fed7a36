-- Rows of a path problem, one more at a time, and what they are.
use Rattle.std.specs.Prelude.{◌≡◌, ◌≢◌, ◌⊎◌, ℕ, zero, suc, ◌+◌, ◌-◌, ◌<◌, ◌≤◌, ◌==◌, Bool, true, false, List, [], ◌∷◌, ◌++◌, length, map, get_or, replicate, slice_get, pos}
use Rattle.std.specs.Option.{option_map_or}
use Rattle.std.proofs.Common.{arith, inl, inr, refl, sym, ap, ap₂, subst, ◌∙◌}
use Rattle.std.proofs.lemmas.Bool.{cases_lt}
use Rattle.std.proofs.lemmas.List.{get_or_default, get_or-map, get_or_append_left, get_or-append_right, length-append, length-map, length-replicate}
use Rattle.std.proofs.lemmas.List.FromFn.{get_or-map-range_with_len, length-map-range_with_len}
use borrow.Author.Tests.{eqb-true, eqb-false}
use Rattle.rational_laws.specs.Rational.{ℚ, ◌-ℚ◌, ◌*ℚ◌, whole}
use Rattle.rational_laws.proofs.Lists.{item_at}
use Rattle.rational_laws.specs.Terms.{delta}
use Rattle.rational_laws.proofs.TermLaws.{if-same, if-other}
use Rattle.frac_core.specs.Limits.{most_rows}
use Rattle.frac_core.specs.declared.frac128.Frac128.{Frac128}
use Rattle.frac_core.specs.Values.{exact, value}
use Rattle.loss_model.specs.declared.problem.Row.{Row}
use Rattle.loss_model.specs.declared.problem.Problem.{Problem}
use Rattle.loss_model.specs.Problem.{IsWellShaped, sample, value_at}
use Rattle.loss_model.specs.Values.{exact_row}
use Rattle.tv_penalty.specs.Smoothings.{PenaltyOf, placed, unit_row, unit_rows}
use Rattle.lambda_path.specs.Paths.{IsPathOf}
use Rattle.lambda_path.specs.Rows.{data_row, penalty_row, rows_of}

-- what is made of what is made of items
map_twice : {X Y Z : Type 0} (f : Y → Z) (g : X → Y) (xs : List X) → map (λ x. f (g x)) xs ≡ map f (map g xs)
map_twice f g [] = refl
map_twice f g (x ∷ xs) = ap (λ z. f (g x) ∷ z) (map_twice f g xs)

-- both kinds of rows
pub all_rows : {X : Type 0} (p : Problem Frac128) (first : ℕ) (tau : ℚ) (see : X → PenaltyOf) (penalties : List X) (olds news : List (Row Frac128)) → map see penalties ≡ unit_rows p.columns first (whole (pos 1))
    → map exact_row olds ≡ map (data_row tau) p.rows
    → map exact_row news ≡ map exact_row olds ++ map (λ r. penalty_row (see r)) penalties → map exact_row news ≡ rows_of p first tau
all_rows p first tau see penalties olds news units front all =
    all ∙ ap₂ (λ xs ys. xs ++ ys) front (map_twice penalty_row see penalties ∙ ap (map penalty_row) units)

-- ---- entries

-- item k of a list of fractions, or 0 beyond its end
number_at : List ℚ → ℕ → ℚ
number_at xs k = option_map_or (λ z. z) (slice_get xs k) (whole (pos 0))

value_is : (xs : List Frac128) (k : ℕ) → value_at value xs k ≡ number_at (map exact xs) k
unfolding number_at
value_is [] k = refl
value_is (x ∷ xs) zero = refl
value_is (x ∷ xs) (suc k) = value_is xs k

zeros_at : (n k : ℕ) → number_at (replicate n (whole (pos 0))) k ≡ whole (pos 0)
unfolding number_at
zeros_at zero k = refl
zeros_at (suc n) zero = refl
zeros_at (suc n) (suc k) = zeros_at n k

delta_next : (n k : ℕ) → delta n k ≡ delta (suc n) (suc k)
delta_next n k = by (n == k) refl
  where
    by : (b : Bool) → (n == k) ≡ b → delta n k ≡ delta (suc n) (suc k)
    by true e =
        let same : n ≡ k = eqb-true n k e in
        if-same n k (whole (pos 1)) (whole (pos 0)) same ∙ sym (if-same (suc n) (suc k) (whole (pos 1)) (whole (pos 0)) (ap suc same))
    by false e =
        let other : n ≢ k = eqb-false n k e in
        if-other n k (whole (pos 1)) (whole (pos 0)) other ∙ sym (if-other (suc n) (suc k) (whole (pos 1)) (whole (pos 0)) (λ e. other (cc e)))

unit_at : (n m k : ℕ) → number_at (replicate n (whole (pos 0)) ++ whole (pos 1) ∷ replicate m (whole (pos 0))) k ≡ delta n k
unfolding number_at
unit_at zero m zero = sym (if-same 0 0 (whole (pos 1)) (whole (pos 0)) refl)
unit_at zero m (suc k) = zeros_at m k ∙ sym (if-other 0 (suc k) (whole (pos 1)) (whole (pos 0)) (λ e. omega (arith, e)))
unit_at (suc n) m zero = sym (if-other (suc n) 0 (whole (pos 1)) (whole (pos 0)) (λ e. omega (arith, e)))
unit_at (suc n) m (suc k) = unit_at n m k ∙ delta_next n k

length-placed : (columns k : ℕ) → k < columns → length (placed columns k (whole (pos 1) ∷ [])) ≡ columns
length-placed columns k l =
    length-append (replicate k (whole (pos 0))) (whole (pos 1) ∷ replicate (columns - (k + 1)) (whole (pos 0)))
    ∙ ap₂ (λ m n. m + suc n) (length-replicate k (whole (pos 0))) (length-replicate (columns - (k + 1)) (whole (pos 0)))
    ∙ (let e : k + suc (columns - (k + 1)) ≡ columns = omega (arith, l) in e)

-- ---- the problem

module _ (p q : Problem Frac128) (first : ℕ) (tau : ℚ) (within : first ≤ p.columns) (columns : q.columns ≡ p.columns) (rows : map exact_row q.rows ≡ rows_of p first tau) where
  abbrev units : List PenaltyOf
  units = unit_rows p.columns first (whole (pos 1))

  abbrev back : List (Row ℚ)
  back = map penalty_row units

  size : length units ≡ p.columns - first
  size = length-map-range_with_len (unit_row p.columns (whole (pos 1))) first (p.columns - first)

  front : length (map (data_row tau) p.rows) ≡ length p.rows
  front = length-map p.rows (data_row tau)

  count : length q.rows ≡ length p.rows + (p.columns - first)
  count =
      sym (length-map q.rows exact_row) ∙ ap length rows ∙ length-append (map (data_row tau) p.rows) back
      ∙ ap₂ (λ m n. m + n) front (length-map units penalty_row ∙ size)

  -- the row that stands where this one of p does
  data_is : (i : ℕ) (r s : Row Frac128) → i < length p.rows → get_or p.rows i r ≡ r → get_or q.rows i s ≡ s → exact_row s ≡ data_row tau r
  data_is i r s l at_r at_s =
      let lq : i < length q.rows = omega (arith, count, l) in
      sym (ap exact_row at_s) ∙ sym (get_or-map exact_row q.rows i s (exact_row s) lq)
      ∙ ap (λ zs. get_or zs i (exact_row s)) rows
      ∙ get_or_append_left (map (data_row tau) p.rows) back (exact_row s) i (omega (arith, front, l))
      ∙ get_or-map (data_row tau) p.rows i r (exact_row s) l
      ∙ ap (data_row tau) at_r

  -- the row of a penalty
  penalty_is : (m : ℕ) (s : Row Frac128) → m < p.columns - first → get_or q.rows (length p.rows + m) s ≡ s → exact_row s ≡ penalty_row (unit_row p.columns (whole (pos 1)) (first + m))
  penalty_is m s l at_s =
      let lq : length p.rows + m < length q.rows = omega (arith, count, l) in
      let place : length p.rows + m - length p.rows ≡ m = omega arith in
      let lu : m < length units = omega (arith, size, l) in
      let unit : PenaltyOf = unit_row p.columns (whole (pos 1)) (first + m) in
      sym (ap exact_row at_s) ∙ sym (get_or-map exact_row q.rows (length p.rows + m) s (exact_row s) lq)
      ∙ ap (λ zs. get_or zs (length p.rows + m) (exact_row s)) rows
      ∙ get_or-append_right (map (data_row tau) p.rows) back (length p.rows) (length p.rows + m) (exact_row s) front (omega arith)
      ∙ ap (λ n. get_or back n (exact_row s)) place
      ∙ get_or-map penalty_row units m unit (exact_row s) lu
      ∙ ap penalty_row (get_or-map-range_with_len (unit_row p.columns (whole (pos 1))) first (p.columns - first) m (first + m) unit l refl)

  -- the number of a data row is that of the row of p
  from_data : (of : Row ℚ → ℚ) (see : Row Frac128 → ℚ) (i : ℕ) → ((r : Row Frac128) → see r ≡ of (exact_row r)) → (l : i < length p.rows)
      → option_map_or see (slice_get q.rows i) (whole (pos 0)) ≡ option_map_or (λ r. of (data_row tau r)) (slice_get p.rows i) (whole (pos 0))
  from_data of see i sees l =
      let r = item_at p.rows i l in
      let s = item_at q.rows i (omega (arith, count, l)) in
      ap (λ o. option_map_or see o (whole (pos 0))) s.1 ∙ sees s.0 ∙ ap of (data_is i r.0 s.0 l r.2 s.2) ∙ sym (ap (λ o. option_map_or (λ r. of (data_row tau r)) o (whole (pos 0))) r.1)

  -- that of a penalty is its own
  from_penalty : (of : Row ℚ → ℚ) (see : Row Frac128 → ℚ) (m : ℕ) → ((r : Row Frac128) → see r ≡ of (exact_row r)) → (l : m < p.columns - first)
      → option_map_or see (slice_get q.rows (length p.rows + m)) (whole (pos 0)) ≡ of (penalty_row (unit_row p.columns (whole (pos 1)) (first + m)))
  from_penalty of see m sees l =
      let s = item_at q.rows (length p.rows + m) (omega (arith, count, l)) in
      ap (λ o. option_map_or see o (whole (pos 0))) s.1 ∙ sees s.0 ∙ ap of (penalty_is m s.0 l s.2)

  -- a product with a number of the row
  times : (r : ℕ) (z : ℚ) → r < length p.rows → option_map_or (λ r. exact r.up1 *ℚ z) (slice_get p.rows r) (whole (pos 0)) ≡ option_map_or (λ r. exact r.up1) (slice_get p.rows r) (whole (pos 0)) *ℚ z
  times i z l =
      let r = item_at p.rows i l in
      ap (λ o. option_map_or (λ r. exact r.up1 *ℚ z) o (whole (pos 0))) r.1 ∙ sym (ap (λ o. option_map_or (λ r. exact r.up1) o (whole (pos 0)) *ℚ z) r.1)

  -- no row has another number than this one
  constant : (i : ℕ) (z : ℚ) → i < length p.rows → option_map_or (λ (r : Row Frac128). z) (slice_get p.rows i) (whole (pos 0)) ≡ z
  constant i z l = let r = item_at p.rows i l in ap (λ o. option_map_or (λ (r : Row Frac128). z) o (whole (pos 0))) r.1

  entry : (i k : ℕ) → i < length p.rows → option_map_or (λ r. number_at (map exact r.x) k) (slice_get p.rows i) (whole (pos 0)) ≡ option_map_or (λ r. value_at value r.x k) (slice_get p.rows i) (whole (pos 0))
  entry i k l =
      let r = item_at p.rows i l in
      ap (λ o. option_map_or (λ r. number_at (map exact r.x) k) o (whole (pos 0))) r.1 ∙ sym (value_is r.0.x k) ∙ sym (ap (λ o. option_map_or (λ r. value_at value r.x k) o (whole (pos 0))) r.1)

  pub path_is : IsPathOf (sample value p) first tau (sample value q)
  path_is = record {
    columns = columns;
    rows = count;
    data_x = λ i k l lk. from_data (λ r. number_at r.x k) (λ r. value_at value r.x k) i (λ r. value_is r.x k) l ∙ entry i k l;
    data_y = λ i l. from_data (λ r. r.y) (λ r. exact r.y) i (λ r. refl) l;
    data_up0 = λ i l. from_data (λ r. r.up0) (λ r. exact r.up0) i (λ r. refl) l ∙ times i tau l;
    data_up1 = λ i l. from_data (λ r. r.up1) (λ r. exact r.up1) i (λ r. refl) l ∙ constant i (whole (pos 0)) l;
    data_down0 = λ i l. from_data (λ r. r.down0) (λ r. exact r.down0) i (λ r. refl) l ∙ times i (whole (pos 1) -ℚ tau) l;
    data_down1 = λ i l. from_data (λ r. r.down1) (λ r. exact r.down1) i (λ r. refl) l ∙ constant i (whole (pos 0)) l;
    penalty_x = λ m k l lk. from_penalty (λ r. number_at r.x k) (λ r. value_at value r.x k) m (λ r. value_is r.x k) l ∙ unit_at (first + m) (p.columns - (first + m + 1)) k;
    penalty_y = λ m l. from_penalty (λ r. r.y) (λ r. exact r.y) m (λ r. refl) l;
    penalty_up0 = λ m l. from_penalty (λ r. r.up0) (λ r. exact r.up0) m (λ r. refl) l;
    penalty_up1 = λ m l. from_penalty (λ r. r.up1) (λ r. exact r.up1) m (λ r. refl) l;
    penalty_down0 = λ m l. from_penalty (λ r. r.down0) (λ r. exact r.down0) m (λ r. refl) l;
    penalty_down1 = λ m l. from_penalty (λ r. r.down1) (λ r. exact r.down1) m (λ r. refl) l;
  }

  -- each row has an entry for each column
  wide : IsWellShaped p → (i : ℕ) (d : Row Frac128) → i < length q.rows → length (get_or q.rows i d).x ≡ q.columns
  wide shaped i d l =
      let s = item_at q.rows i l in
      ap (λ r. length r.x) (same s.0 s.2) ∙ sym (length-map s.0.x exact) ∙ by s.0 s.2 (cases_lt i (length p.rows))
    where
      same : (s : Row Frac128) → get_or q.rows i s ≡ s → get_or q.rows i d ≡ s
      same s at_s = get_or_default q.rows i d s l ∙ at_s

      by : (s : Row Frac128) → get_or q.rows i s ≡ s → (i < length p.rows) ⊎ (length p.rows ≤ i) → length (map exact s.x) ≡ q.columns
      by s at_s (inl lp) =
          let r = item_at p.rows i lp in
          ap (λ z. length z.x) (data_is i r.0 s lp r.2 at_s) ∙ length-map r.0.x exact ∙ ap (λ z. length z.x) (sym r.2) ∙ shaped.entries i r.0 lp ∙ sym columns
      by s at_s (inr behind) =
          let m : i - length p.rows < p.columns - first = omega (arith, count, l, behind) in
          let place : i ≡ length p.rows + (i - length p.rows) = omega (arith, behind) in
          ap (λ z. length z.x) (penalty_is (i - length p.rows) s m (subst (λ n. get_or q.rows n s ≡ s) place at_s)) ∙ length-placed p.columns (first + (i - length p.rows)) (omega (arith, m, within)) ∙ sym columns

  pub path_shaped : IsWellShaped p → length p.rows + (p.columns - first) ≤ most_rows → IsWellShaped q
  path_shaped shaped few = record {
    some = subst (λ n. 1 ≤ n) (sym columns) shaped.some;
    columns = subst (λ n. n ≤ 128) (sym columns) shaped.columns;
    rows = subst (λ n. n ≤ most_rows) (sym count) few;
    entries = wide shaped;
  }
