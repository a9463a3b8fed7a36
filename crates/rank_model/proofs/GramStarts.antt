-- The greedy start of the Gram rows takes them in order.
use Rattle.std.specs.Prelude.{◌≡◌, ◌≢◌, ◌⊎◌, ℕ, zero, suc, ◌<◌, ◌≤◌, Bool, true, false, if◌then◌else◌, nat_lt, List, length, map, replicate, slice_set, Option, Some, None, is_some, unwrap_or, [], ◌∷◌, pos, negsuc}
use Rattle.std.specs.Option.{option_map, option_map_or}
use Rattle.std.proofs.Common.{arith, refl, sym, ap, ap₂, subst, ◌∙◌, inl, inr, length-set, get_or}
use Rattle.std.proofs.lemmas.List.{get_or-set_same, get_or-set_other, get_or-replicate, length-replicate, length-map}
use Rattle.std.proofs.lemmas.Option.{unwrap_or-slice_get, slice_get-get_or, slice_get-map}
use Rattle.std.proofs.lemmas.Bool.{ltb-false, cases_order}
use borrow.Author.Tests.{ltb-true}
use Rattle.rational_laws.specs.Solver.{number, ◌⊟◌, ◌⊠◌, v0, v1, v2}
use Rattle.rational_laws.specs.Rational.{ℚ, ◌-ℚ◌, ◌*ℚ◌, whole}
use Rattle.rational_laws.proofs.RationalLaws.{ring_ℚ}
use Rattle.rational_laws.specs.RationalSums.{sum_ℚ}
use Rattle.rational_laws.proofs.RationalSumLaws.{sum_ℚ-same, sum_ℚ-zero}
use Rattle.rational_laws.proofs.WholeNumbers.{same_from_whole}
use Rattle.rational_laws.specs.Terms.{delta}
use Rattle.rational_laws.proofs.TermLaws.{if-same, if-other, sum_ℚ-delta}
use Rattle.rational_laws.specs.Exchange.{with_row}
use Rattle.rational_laws.specs.Spans.{AreIndependent, selected}
use Rattle.loss_model.specs.Sample.{Sample, fitted}
use Rattle.loss_model.specs.FullRank.{HasFullRank}
use Rattle.loss_model.specs.Greedy.{row_at, is_taken, held, IsSpanned, CanTake, IsLeastTaken, Enters, Passes, IsStartAfter}
use Rattle.rank_model.specs.Gram.{gram, IsGramOf, HasWeights, GramStartsInOrder}
use Rattle.rank_model.proofs.Optimal.{sum_ℚ-single}
use Rattle.rank_model.proofs.Lengths.{sum_ℚ-minus}
use Rattle.rank_model.proofs.Grams.{gram_fitted, gram_kernel}

-- the rows before i have entered, each at its own position
record InOrder (n i : ℕ) (start : List (Option ℕ)) : Type 0 where
  pub size : length start ≡ n
  pub entered : (k : ℕ) → k < n → k < i → row_at start k ≡ Some k
  pub free : (k : ℕ) → k < n → i ≤ k → row_at start k ≡ None

module _ (p g : Sample) (is : IsGramOf p g) (some : HasWeights p) (full : HasFullRank p) where
  n : ℕ
  n = g.columns

  to_columns : (k : ℕ) → k < g.columns → k < p.columns
  to_columns k l = subst (λ m. k < m) is.columns l

  symmetric : (k l : ℕ) → k < g.columns → l < g.columns → g.x k l ≡ g.x l k
  symmetric k l lk ll =
      is.entries k l (to_columns k lk) (to_columns l ll)
      ∙ sum_ℚ-same p.rows (λ i. (p.up1 i *ℚ p.x i k) *ℚ (p.up1 i *ℚ p.x i l)) (λ i. (p.up1 i *ℚ p.x i l) *ℚ (p.up1 i *ℚ p.x i k)) (λ i li. ring_ℚ ((p.up1 i *ℚ p.x i k) ∷ (p.up1 i *ℚ p.x i l) ∷ []) (v0 ⊠ v1) (v1 ⊠ v0) refl)
      ∙ sym (is.entries l k (to_columns l ll) (to_columns k lk))

  -- factors that are 0 past i, and that the rows up to i send to 0, are 0
  leading : (i : ℕ) (h : ℕ → ℚ) → ((k : ℕ) → k < g.columns → i < k → h k ≡ whole (pos 0)) → ((k : ℕ) → k < g.columns → k ≤ i → fitted g h k ≡ whole (pos 0)) → (k : ℕ) → k < g.columns → h k ≡ whole (pos 0)
  leading i h past gone k lk =
      full h (gram_kernel p some h square) k (to_columns k lk)
    where
      square : sum_ℚ p.columns (λ k. h k *ℚ sum_ℚ p.columns (λ l. gram p k l *ℚ h l)) ≡ whole (pos 0)
      square =
          sum_ℚ-same p.columns (λ k. h k *ℚ sum_ℚ p.columns (λ l. gram p k l *ℚ h l)) (λ k. whole (pos 0)) (λ k l. each k l (cases_order k i))
          ∙ sum_ℚ-zero p.columns
        where
          zero_row : (k : ℕ) → k < p.columns → k ≤ i → h k *ℚ sum_ℚ p.columns (λ l. gram p k l *ℚ h l) ≡ whole (pos 0)
          zero_row k l below =
              ap (λ z. h k *ℚ z) (sym (gram_fitted p g is h k l) ∙ gone k (subst (λ m. k < m) (sym is.columns) l) below)
              ∙ ring_ℚ (h k ∷ []) (v0 ⊠ number (pos 0)) (number (pos 0)) refl

          each : (k : ℕ) → k < p.columns → (k ≡ i) ⊎ ((k < i) ⊎ (i < k)) → h k *ℚ sum_ℚ p.columns (λ l. gram p k l *ℚ h l) ≡ whole (pos 0)
          each k l (inr (inl below)) = zero_row k l (omega arith)
          each k l (inl same) = zero_row k l (omega arith)
          each k l (inr (inr above)) =
              ap (λ z. z *ℚ sum_ℚ p.columns (λ l. gram p k l *ℚ h l)) (past k (subst (λ m. k < m) (sym is.columns) l) above)
              ∙ ring_ℚ (sum_ℚ p.columns (λ l. gram p k l *ℚ h l) ∷ []) (number (pos 0) ⊠ v0) (number (pos 0)) refl

  module _ (i : ℕ) (start : List (Option ℕ)) (li : i < g.columns) (order : InOrder g.columns i start) where
    taken : (k : ℕ) → k < g.columns → k < i → is_taken start k ≡ true
    taken k l below = ap (λ (o : Option ℕ). is_some o) (order.entered k l below)

    open_at : (k : ℕ) → k < g.columns → i ≤ k → is_taken start k ≡ false
    open_at k l above = ap (λ (o : Option ℕ). is_some o) (order.free k l above)

    held_row : (k : ℕ) → k < g.columns → k < i → (l : ℕ) → held g start k l ≡ g.x k l
    held_row k lk below l = ap (λ (o : Option ℕ). option_map_or g.x o (delta k) l) (order.entered k lk below)

    held_unit : (k : ℕ) → k < g.columns → i ≤ k → (l : ℕ) → held g start k l ≡ delta k l
    held_unit k lk above l = ap (λ (o : Option ℕ). option_map_or g.x o (delta k) l) (order.free k lk above)

    -- row i is no combination of those before
    new : ¬ IsSpanned g start i
    new spanned = apart (same_from_whole (negsuc 0) (pos 0) (sym own ∙ leading i h past gone i li))
      where
        apart : negsuc 0 ≡ pos 0 → ⊥
        apart e = cc

        h : ℕ → ℚ
        h k = (if is_taken start k then spanned.factors k else whole (pos 0)) -ℚ delta k i

        own : h i ≡ whole (negsuc 0)
        own =
            ap (λ t. (if t then spanned.factors i else whole (pos 0)) -ℚ delta i i) (open_at i li (omega arith))
            ∙ ap (λ z. whole (pos 0) -ℚ z) (if-same i i (whole (pos 1)) (whole (pos 0)) refl)
            ∙ ring_ℚ [] (number (pos 0) ⊟ number (pos 1)) (number (negsuc 0)) refl

        past : (k : ℕ) → k < g.columns → i < k → h k ≡ whole (pos 0)
        past k l above =
            let other : k ≢ i = λ e. omega arith in
            ap (λ t. (if t then spanned.factors k else whole (pos 0)) -ℚ delta k i) (open_at k l (omega arith))
            ∙ ap (λ z. whole (pos 0) -ℚ z) (if-other k i (whole (pos 1)) (whole (pos 0)) other)
            ∙ ring_ℚ [] (number (pos 0) ⊟ number (pos 0)) (number (pos 0)) refl

        gone : (k : ℕ) → k < g.columns → k ≤ i → fitted g h k ≡ whole (pos 0)
        gone k lk below =
            sum_ℚ-same g.columns (λ l. g.x k l *ℚ h l) (λ l. (spanned.factors l *ℚ selected (is_taken start) (held g start) l k) -ℚ (g.x k l *ℚ delta l i)) (λ l ll. by l ll (cases_order l i))
            ∙ sum_ℚ-minus g.columns (λ l. spanned.factors l *ℚ selected (is_taken start) (held g start) l k) (λ l. g.x k l *ℚ delta l i)
            ∙ ap₂ (λ y z. y -ℚ z) (sym (spanned.equal k lk)) (sum_ℚ-delta g.columns (g.x k) i li)
            ∙ ap (λ z. z -ℚ g.x k i) (symmetric i k li lk)
            ∙ ring_ℚ (g.x k i ∷ []) (v0 ⊟ v0) (number (pos 0)) refl
          where
            unit_term : (l : ℕ) → l < g.columns → i ≤ l → g.x k l *ℚ h l ≡ (spanned.factors l *ℚ selected (is_taken start) (held g start) l k) -ℚ (g.x k l *ℚ delta l i)
            unit_term l ll above =
                ap (λ t. g.x k l *ℚ ((if t then spanned.factors l else whole (pos 0)) -ℚ delta l i)) (open_at l ll above)
                ∙ ring_ℚ (g.x k l ∷ delta l i ∷ spanned.factors l ∷ []) (v0 ⊠ (number (pos 0) ⊟ v1)) (v2 ⊠ number (pos 0) ⊟ v0 ⊠ v1) refl
                ∙ ap (λ t. (spanned.factors l *ℚ (if t then held g start l k else whole (pos 0))) -ℚ (g.x k l *ℚ delta l i)) (sym (open_at l ll above))

            by : (l : ℕ) → l < g.columns → (l ≡ i) ⊎ ((l < i) ⊎ (i < l)) → g.x k l *ℚ h l ≡ (spanned.factors l *ℚ selected (is_taken start) (held g start) l k) -ℚ (g.x k l *ℚ delta l i)
            by l ll (inr (inl before)) =
                ap (λ t. g.x k l *ℚ ((if t then spanned.factors l else whole (pos 0)) -ℚ delta l i)) (taken l ll before)
                ∙ ring_ℚ (g.x k l ∷ delta l i ∷ spanned.factors l ∷ []) (v0 ⊠ (v2 ⊟ v1)) (v2 ⊠ v0 ⊟ v0 ⊠ v1) refl
                ∙ ap (λ z. (spanned.factors l *ℚ z) -ℚ (g.x k l *ℚ delta l i)) (symmetric k l lk ll ∙ sym (held_row l ll before k))
                ∙ ap (λ t. (spanned.factors l *ℚ (if t then held g start l k else whole (pos 0))) -ℚ (g.x k l *ℚ delta l i)) (sym (taken l ll before))
            by l ll (inl same) = unit_term l ll (omega arith)
            by l ll (inr (inr above)) = unit_term l ll (omega arith)

    -- and it can take its own position
    independent : AreIndependent g.columns (with_row (held g start) i (g.x i))
    independent f gone j lj = by j lj (cases_order j i)
      where
        row : (k l : ℕ) → ℚ
        row = with_row (held g start) i (g.x i)

        row_is : (k : ℕ) → k < g.columns → k ≤ i → (l : ℕ) → row k l ≡ g.x k l
        row_is k lk below l = at (cases_order k i)
          where
            at : (k ≡ i) ⊎ ((k < i) ⊎ (i < k)) → row k l ≡ g.x k l
            at (inr (inl before)) = let other : k ≢ i = λ e. omega arith in if-other k i (g.x i l) (held g start k l) other ∙ held_row k lk before l
            at (inl same) = if-same k i (g.x i l) (held g start k l) same ∙ ap (λ m. g.x m l) (sym same)
            at (inr (inr above)) = absurd (omega arith)

        unit_is : (k : ℕ) → k < g.columns → i < k → (l : ℕ) → row k l ≡ delta k l
        unit_is k lk above l = let other : k ≢ i = λ e. omega arith in if-other k i (g.x i l) (held g start k l) other ∙ held_unit k lk (omega arith) l

        h : ℕ → ℚ
        h k = if nat_lt i k then whole (pos 0) else f k

        past : (k : ℕ) → k < g.columns → i < k → h k ≡ whole (pos 0)
        past k l above = at (nat_lt i k) refl
          where
            at : (t : Bool) → nat_lt i k ≡ t → (if t then whole (pos 0) else f k) ≡ whole (pos 0)
            at true e = refl
            at false e = absurd (omega (arith, ltb-false i k e))

        kept : (k : ℕ) → k ≤ i → h k ≡ f k
        kept k below = at (nat_lt i k) refl
          where
            at : (t : Bool) → nat_lt i k ≡ t → (if t then whole (pos 0) else f k) ≡ f k
            at true e = let l : i < k = ltb-true i k e in absurd (omega arith)
            at false e = refl

        sent : (k : ℕ) → k < g.columns → k ≤ i → fitted g h k ≡ whole (pos 0)
        sent k lk below = sum_ℚ-same g.columns (λ l. g.x k l *ℚ h l) (λ l. f l *ℚ row l k) (λ l ll. at l ll (cases_order l i)) ∙ gone k lk
          where
            low : (l : ℕ) → l < g.columns → l ≤ i → g.x k l *ℚ h l ≡ f l *ℚ row l k
            low l ll under =
                ap₂ ◌*ℚ◌ (symmetric k l lk ll ∙ sym (row_is l ll under k)) (kept l under)
                ∙ ring_ℚ (row l k ∷ f l ∷ []) (v0 ⊠ v1) (v1 ⊠ v0) refl

            at : (l : ℕ) → l < g.columns → (l ≡ i) ⊎ ((l < i) ⊎ (i < l)) → g.x k l *ℚ h l ≡ f l *ℚ row l k
            at l ll (inr (inl before)) = low l ll (omega arith)
            at l ll (inl same) = low l ll (omega arith)
            at l ll (inr (inr above)) =
                let other : l ≢ k = λ e. omega arith in
                ap (λ z. g.x k l *ℚ z) (past l ll above) ∙ ring_ℚ (g.x k l ∷ f l ∷ []) (v0 ⊠ number (pos 0)) (v1 ⊠ number (pos 0)) refl
                ∙ ap (λ z. f l *ℚ z) (sym (unit_is l ll above k ∙ if-other l k (whole (pos 1)) (whole (pos 0)) other))

        zero_low : (k : ℕ) → k < g.columns → k ≤ i → f k ≡ whole (pos 0)
        zero_low k lk below = sym (kept k below) ∙ leading i h past sent k lk

        by : (j : ℕ) → j < g.columns → (j ≡ i) ⊎ ((j < i) ⊎ (i < j)) → f j ≡ whole (pos 0)
        by j lj (inr (inl before)) = zero_low j lj (omega arith)
        by j lj (inl same) = zero_low j lj (omega arith)
        by j lj (inr (inr above)) =
            ring_ℚ (f j ∷ []) v0 (v0 ⊠ number (pos 1)) refl
            ∙ ap (λ z. f j *ℚ z) (sym (unit_is j lj above j ∙ if-same j j (whole (pos 1)) (whole (pos 0)) refl))
            ∙ sym (sum_ℚ-single g.columns (λ k. f k *ℚ row k j) j lj (λ k lk other. none k lk other (cases_order k i)))
            ∙ gone j lj
          where
            gone_low : (k : ℕ) → k < g.columns → k ≤ i → f k *ℚ row k j ≡ whole (pos 0)
            gone_low k lk below = ap (λ z. z *ℚ row k j) (zero_low k lk below) ∙ ring_ℚ (row k j ∷ []) (number (pos 0) ⊠ v0) (number (pos 0)) refl

            none : (k : ℕ) → k < g.columns → k ≢ j → (k ≡ i) ⊎ ((k < i) ⊎ (i < k)) → f k *ℚ row k j ≡ whole (pos 0)
            none k lk other (inr (inl before)) = gone_low k lk (omega arith)
            none k lk other (inl same) = gone_low k lk (omega arith)
            none k lk other (inr (inr above)) =
                ap (λ z. f k *ℚ z) (unit_is k lk above j ∙ if-other k j (whole (pos 1)) (whole (pos 0)) other)
                ∙ ring_ℚ (f k ∷ []) (v0 ⊠ number (pos 0)) (number (pos 0)) refl

    can : CanTake g start i i
    can = record { within = li; free = open_at i li (omega arith); independent = independent }

    -- so the position that it takes is its own
    own_position : (q : ℕ) → IsLeastTaken g start i q → q ≡ i
    own_position q least = by (cases_order q i)
      where
        by : (q ≡ i) ⊎ ((q < i) ⊎ (i < q)) → q ≡ i
        by (inr (inl below)) = absurd (clash (sym (taken q least.takes.within below) ∙ least.takes.free))
          where
            clash : true ≡ false → ⊥
            clash e = cc
        by (inl same) = same
        by (inr (inr above)) = absurd (least.least i above can)

    -- so the order is kept
    entered : (after : List (Option ℕ)) → Passes g i start after ⊎ Enters g i start after → InOrder g.columns (suc i) after
    entered after (inl passes) = absurd (new passes.spanned)
    entered after (inr enters) = subst (InOrder g.columns (suc i)) (sym (enters.put ∙ ap (λ (q : ℕ). slice_set start q (Some i)) (own_position enters.position enters.least))) next
      where
        within : i < length start
        within = subst (λ m. i < m) (sym order.size) li

        at_own : (k : ℕ) → k ≡ i → row_at (slice_set start i (Some i)) k ≡ Some k
        at_own k same =
            ap (λ (k : ℕ). row_at (slice_set start i (Some i)) k) same
            ∙ unwrap_or-slice_get (slice_set start i (Some i)) i None ∙ get_or-set_same start i (Some i) None within
            ∙ ap (λ (k : ℕ). Some k) (sym same)

        at_other : (k : ℕ) → k ≢ i → row_at (slice_set start i (Some i)) k ≡ row_at start k
        at_other k other =
            unwrap_or-slice_get (slice_set start i (Some i)) k None ∙ get_or-set_other start i k (Some i) None other
            ∙ sym (unwrap_or-slice_get start k None)

        next : InOrder g.columns (suc i) (slice_set start i (Some i))
        next =
            record {
              size = length-set start i (Some i) ∙ order.size;
              entered = λ k l below. by k l below (cases_order k i);
              free = λ k l above. let other : k ≢ i = λ e. omega arith in at_other k other ∙ order.free k l (omega arith);
            }
          where
            by : (k : ℕ) → k < g.columns → k < suc i → (k ≡ i) ⊎ ((k < i) ⊎ (i < k)) → row_at (slice_set start i (Some i)) k ≡ Some k
            by k l below (inr (inl before)) = let other : k ≢ i = λ e. omega arith in at_other k other ∙ order.entered k l before
            by k l below (inl same) = at_own k same
            by k l below (inr (inr above)) = absurd (omega arith)

  in_order : (i : ℕ) (start : List (Option ℕ)) → i ≤ g.columns → IsStartAfter g i start → InOrder g.columns i start
  in_order zero start l h =
      subst (InOrder g.columns 0) (sym h)
      (record {
        size = length-replicate g.columns None;
        entered = λ k lk below. absurd (omega arith);
        free = λ k lk above. unwrap_or-slice_get (replicate g.columns None) k None ∙ get_or-replicate g.columns k None None lk;
      })
  in_order (suc i) start l (before, (h, next)) = entered i before (omega arith) (in_order i before (omega arith) h) start next

pub starts_in_order : GramStartsInOrder
starts_in_order p g basis is some full greedy k lk =
    let order = in_order p g is some full g.rows (map (λ (m : ℕ). Some m) basis) rows_within greedy in
    let size : length basis ≡ g.columns = sym (length-map basis (λ (m : ℕ). Some m)) ∙ order.size in
    let inside : k < length basis = subst (λ m. k < m) (sym (size ∙ is.columns)) lk in
    let listed : row_at (map (λ (m : ℕ). Some m) basis) k ≡ Some (get_or basis k 0) =
    ap (λ (o : Option (Option ℕ)). unwrap_or o None) (slice_get-map (λ (m : ℕ). Some m) basis k ∙ ap (λ (o : Option ℕ). option_map (λ (m : ℕ). Some m) o) (slice_get-get_or basis k 0 inside)) in
    let own : Some (get_or basis k 0) ≡ Some k = sym listed ∙ order.entered k (subst (λ m. k < m) (sym is.columns) lk) (subst (λ m. k < m) (sym is.rows) lk) in
    cc
  where
    rows_within : g.rows ≤ g.columns
    rows_within = omega (arith, is.rows, is.columns)
