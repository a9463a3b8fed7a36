-- The rows that move, passed in the order of their perturbed ratios.
use Rattle.std.specs.Prelude.{◌≡◌, ◌≢◌, ◌⊎◌, ℕ, suc, ◌<◌, Bool, true, false, ◌==◌, ◌&&◌, if◌then◌else◌, [], ◌∷◌, pos}
use Rattle.std.specs.Ordering.{is_lt, is_gt}
use Rattle.std.specs.declared.cmp.Ordering.TheVariants.{Less}
use Rattle.std.proofs.Common.{refl, sym, ap, ap₂, subst, ◌∙◌, inl, inr}
use borrow.Author.Tests.{eqb-true, eqb-false}
use Rattle.rational_laws.specs.Solver.{number, negated, ◌⊞◌, ◌⊟◌, v0, v1, v2}
use Rattle.rational_laws.specs.Rational.{ℚ, ◌+ℚ◌, ◌-ℚ◌, neg_ℚ, whole, ◌≤ℚ◌}
use Rattle.rational_laws.proofs.RationalLaws.{ring_ℚ, ≤ℚ_refl, ≤ℚ_add}
use Rattle.rational_laws.specs.RationalSums.{sum_ℚ}
use Rattle.rational_laws.proofs.RationalSumLaws.{sum_ℚ-same, sum_ℚ-le}
use Rattle.rational_laws.proofs.OrderLaws.{cmp_ℚ-Equal}
use Rattle.rational_laws.proofs.Comparisons.{is_less}
use Rattle.rational_laws.proofs.Signs.{sum_not_negative, product_not_negative}
use Rattle.rational_laws.proofs.TermLaws.{if-same, if-other, sum_ℚ-replaced}
use Rattle.rational_laws.specs.Selections.{is_among, AreDistinct, among}
use Rattle.rational_laws.proofs.SelectionLaws.{sum_ℚ-among}
use Rattle.loss_model.specs.declared.vertex.Side.{Side}
use Rattle.loss_model.specs.declared.vertex.Side.TheVariants.{Up, Down, Basic}
use Rattle.loss_model.specs.Sample.{Sample, up_cost, down_cost}
use Rattle.loss_model.specs.Spill.{abs_ℚ}
use Rattle.basis_model.specs.Lexicographic.{lex_cmp}
use Rattle.basis_model.proofs.LexicographicLaws.{lex_cmp-Equal, less-trans}
use Rattle.basis_model.specs.Perturbed.{IsOutside, ratio}
use Rattle.basis_model.proofs.Ratios.{abs_not_negative}
use Rattle.basis_model.proofs.Ordered.{ordered}
use Rattle.pivot_model.specs.declared.direction.Direction.{Direction}
use Rattle.pivot_model.specs.declared.direction.Direction.TheVariants.{Upward, Downward}
use Rattle.basis_model.specs.Basis.{IsBasis, coord, outside_row, side_at}
use Rattle.pivot_model.specs.Duals.{HasCosts}
use Rattle.pivot_model.proofs.Bounds.{is_basic}
use Rattle.pivot_model.specs.Steps.{is_towards, slope, change, moves, is_before, passing, slope_before}
use Rattle.pivot_model.proofs.Among.{among_at, among_place}
use Rattle.pivot_model.proofs.Sides.{side_basic}

pub no : true ≡ false → ⊥
no h = cc

-- ---- rows that move

-- what takes a residual towards 0 is not 0
some_change : (s : Side) (c : ℚ) → is_towards s c ≡ true → c ≢ whole (pos 0)
some_change Up c h none = no (sym h ∙ ap is_lt ((cmp_ℚ-Equal c (whole (pos 0))).1 none))
some_change Down c h none = no (sym h ∙ ap is_gt ((cmp_ℚ-Equal c (whole (pos 0))).1 none))
some_change Basic c h none = no (sym h)

module _ (p : Sample) (at : ℕ → ℕ) (a : ℕ → ℕ → ℚ) (j : ℕ) where
  -- a row that moves has a coordinate at the position
  pub mover_some : (d : Direction) (i : ℕ) → moves p at a j d i ≡ true → coord p a i j ≢ whole (pos 0)
  mover_some Upward i h none = some_change (side_at p at a i) (coord p a i j) h none
  mover_some Downward i h none =
      some_change (side_at p at a i) (neg_ℚ (coord p a i j)) h
      (ap neg_ℚ none ∙ ring_ℚ [] (negated (number (pos 0))) (number (pos 0)) refl)

  -- and is not in the basis
  pub mover_outside : (d : Direction) (i : ℕ) → moves p at a j d i ≡ true → is_basic p at a i ≡ false
  mover_outside d i h = by (is_basic p at a i) refl
    where
      by : (t : Bool) → is_basic p at a i ≡ t → is_basic p at a i ≡ false
      by true e = absurd (no (sym h ∙ ap (λ s. is_towards s (change p at a j d i)) (side_basic p at a i e)))
      by false e = e

  pub is_outside : IsBasis p at a → (d : Direction) (i : ℕ) → moves p at a j d i ≡ true → IsOutside p.columns at i
  is_outside basis d i h =
      record {
        apart = basis.distinct.apart;
        outside = λ k lk s. no (sym (ap (is_among at p.columns) (sym s) ∙ among_at at p.columns k lk) ∙ mover_outside d i h);
      }

  -- of two rows that move one comes before the other
  pub mover_order : IsBasis p at a → (d : Direction) (i r : ℕ) → i < p.rows → moves p at a j d i ≡ true → i ≢ r
      → (is_before p at a j i r ≡ true) ⊎ (is_before p at a j r i ≡ true)
  mover_order basis d i r li h differ =
      by (ordered p.rows p.columns at j (outside_row p at a i) (outside_row p at a r) (is_outside basis d i h) differ li (mover_some d i h))
    where
      by : (lex_cmp (suc p.rows) (ratio p.rows p.columns at j (outside_row p at a i)) (ratio p.rows p.columns at j (outside_row p at a r)) ≡ Less)
          ⊎ (lex_cmp (suc p.rows) (ratio p.rows p.columns at j (outside_row p at a r)) (ratio p.rows p.columns at j (outside_row p at a i)) ≡ Less)
          → (is_before p at a j i r ≡ true) ⊎ (is_before p at a j r i ≡ true)
      by (inl e) = inl (ap is_lt e)
      by (inr e) = inr (ap is_lt e)

  -- ---- the order

  pub before_trans : (i r s : ℕ) → is_before p at a j i r ≡ true → is_before p at a j r s ≡ true → is_before p at a j i s ≡ true
  before_trans i r s h k =
      ap is_lt (less-trans (suc p.rows) (ratio p.rows p.columns at j (outside_row p at a i)) (ratio p.rows p.columns at j (outside_row p at a r)) (ratio p.rows p.columns at j (outside_row p at a s)) (is_less _ h) (is_less _ k))

  pub not_before_itself : (i : ℕ) → is_before p at a j i i ≡ false
  not_before_itself i = ap is_lt (lex_cmp-Equal (suc p.rows) (ratio p.rows p.columns at j (outside_row p at a i)) (ratio p.rows p.columns at j (outside_row p at a i)) (λ m lm. refl))

  module _ (theta : ℚ) (d : Direction) where
    -- the terms of the rows before row r
    abbrev terms : ℕ → ℕ → ℚ
    terms r i = if moves p at a j d i && is_before p at a j i r then passing p at a theta j i else whole (pos 0)

    -- the rows that move and come before row r are the first ones of the order
    pub passed_test : (order : ℕ → ℕ) (k r : ℕ)
        → ((t : ℕ) → t < k → (moves p at a j d (order t) ≡ true) × (is_before p at a j (order t) r ≡ true))
        → ((i : ℕ) → i < p.rows → moves p at a j d i ≡ true → is_before p at a j i r ≡ true → is_among order k i ≡ true)
        → (i : ℕ) → i < p.rows → (moves p at a j d i && is_before p at a j i r) ≡ is_among order k i
    passed_test order k r known all i li = by (is_among order k i) refl (moves p at a j d i) refl (is_before p at a j i r) refl
      where
        both : (s t : Bool) → s ≡ true → t ≡ true → (s && t) ≡ true
        both s t h k = ap₂ (λ s t. s && t) h k

        by : (g : Bool) → is_among order k i ≡ g → (m : Bool) → moves p at a j d i ≡ m → (b : Bool) → is_before p at a j i r ≡ b → (m && b) ≡ g
        by true g m f b h =
            let place : (t : ℕ) × (t < k) × (order t ≡ i) = among_place order k i g in
            let own : (moves p at a j d (order place.0) ≡ true) × (is_before p at a j (order place.0) r ≡ true) = known place.0 place.1 in
            both m b (sym f ∙ ap (moves p at a j d) (sym place.2) ∙ own.0) (sym h ∙ ap (λ i. is_before p at a j i r) (sym place.2) ∙ own.1)
        by false g true f true h = absurd (no (sym (all i li f h) ∙ g))
        by false g true f false h = refl
        by false g false f b h = refl

    pub passed : (order : ℕ → ℕ) (k r : ℕ) → AreDistinct order k p.rows
        → ((t : ℕ) → t < k → (moves p at a j d (order t) ≡ true) × (is_before p at a j (order t) r ≡ true))
        → ((i : ℕ) → i < p.rows → moves p at a j d i ≡ true → is_before p at a j i r ≡ true → is_among order k i ≡ true)
        → slope_before p at a theta j d r ≡ slope p at a theta j d +ℚ sum_ℚ k (λ t. passing p at a theta j (order t))
    passed order k r distinct known all =
        ap (λ z. slope p at a theta j d +ℚ z)
        (sum_ℚ-same p.rows (terms r) (among order k (passing p at a theta j)) (λ i li. ap (λ t. if t then passing p at a theta j i else whole (pos 0)) (passed_test order k r known all i li))
        ∙ sum_ℚ-among order k p.rows (passing p at a theta j) distinct)

    -- what passing a row adds is not negative
    passing_not_negative : HasCosts p theta → (i : ℕ) → i < p.rows → whole (pos 0) ≤ℚ passing p at a theta j i
    passing_not_negative costs i li =
        product_not_negative (abs_ℚ (coord p a i j)) (up_cost p theta i +ℚ down_cost p theta i) (abs_not_negative (coord p a i j))
        (sum_not_negative (up_cost p theta i) (down_cost p theta i) (costs.up i li) (costs.down i li))

    -- the slope before a later row has the term of the earlier one
    pub before_later : HasCosts p theta → (r s : ℕ) → r < p.rows → moves p at a j d r ≡ true → is_before p at a j r s ≡ true
        → (slope_before p at a theta j d r +ℚ passing p at a theta j r) ≤ℚ slope_before p at a theta j d s
    before_later costs r s lr mover earlier =
        subst (λ z. z ≤ℚ slope_before p at a theta j d s) (sym total)
        (≤ℚ_add (sum_ℚ p.rows more) (sum_ℚ p.rows (terms s)) (slope p at a theta j d) (sum_ℚ-le p.rows more (terms s) (λ i li. each i li (i == r) refl)))
      where
        more : ℕ → ℚ
        more i = if i == r then passing p at a theta j i else terms r i

        none : (t : Bool) → (t && false) ≡ false
        none true = refl
        none false = refl

        own : terms r r ≡ whole (pos 0)
        own = ap (λ t. if t then passing p at a theta j r else whole (pos 0)) (ap (λ t. moves p at a j d r && t) (not_before_itself r) ∙ none (moves p at a j d r))

        total : slope_before p at a theta j d r +ℚ passing p at a theta j r ≡ slope p at a theta j d +ℚ sum_ℚ p.rows more
        total =
            ring_ℚ (slope p at a theta j d ∷ sum_ℚ p.rows (terms r) ∷ passing p at a theta j r ∷ []) ((v0 ⊞ v1) ⊞ v2) (v0 ⊞ ((v1 ⊟ number (pos 0)) ⊞ v2)) refl
            ∙ ap (λ z. slope p at a theta j d +ℚ ((sum_ℚ p.rows (terms r) -ℚ z) +ℚ passing p at a theta j r)) (sym own)
            ∙ ap (λ z. slope p at a theta j d +ℚ z) (sym (sum_ℚ-replaced p.rows r (terms r) (passing p at a theta j) lr))

        at_least : (i : ℕ) → i < p.rows → (t : Bool) → whole (pos 0) ≤ℚ (if t then passing p at a theta j i else whole (pos 0))
        at_least i li true = passing_not_negative costs i li
        at_least i li false = ≤ℚ_refl (whole (pos 0))

        follows : (i : ℕ) → i < p.rows → (m : Bool) → moves p at a j d i ≡ m → (b : Bool) → is_before p at a j i r ≡ b → terms r i ≤ℚ terms s i
        follows i li true f true h =
            subst (λ t. (if t then passing p at a theta j i else whole (pos 0)) ≤ℚ terms s i) (sym (ap₂ (λ s t. s && t) f h))
            (subst (λ t. passing p at a theta j i ≤ℚ (if t then passing p at a theta j i else whole (pos 0))) (sym (ap₂ (λ s t. s && t) f (before_trans i r s h earlier))) (≤ℚ_refl (passing p at a theta j i)))
        follows i li true f false h =
            subst (λ t. (if t then passing p at a theta j i else whole (pos 0)) ≤ℚ terms s i) (sym (ap₂ (λ s t. s && t) f h))
            (at_least i li (moves p at a j d i && is_before p at a j i s))
        follows i li false f b h =
            subst (λ t. (if t && is_before p at a j i r then passing p at a theta j i else whole (pos 0)) ≤ℚ terms s i) (sym f)
            (at_least i li (moves p at a j d i && is_before p at a j i s))

        each : (i : ℕ) → i < p.rows → (t : Bool) → (i == r) ≡ t → more i ≤ℚ terms s i
        each i li true e =
            let here : i ≡ r = eqb-true i r e in
            subst (λ z. z ≤ℚ terms s i) (sym (if-same i r (passing p at a theta j i) (terms r i) here))
            (subst (λ t. passing p at a theta j i ≤ℚ (if t then passing p at a theta j i else whole (pos 0)))
            (sym (ap₂ (λ s t. s && t) (ap (moves p at a j d) here ∙ mover) (ap (λ i. is_before p at a j i s) here ∙ earlier))) (≤ℚ_refl (passing p at a theta j i)))
        each i li false e =
            subst (λ z. z ≤ℚ terms s i) (sym (if-other i r (passing p at a theta j i) (terms r i) (eqb-false i r e)))
            (follows i li (moves p at a j d i) refl (is_before p at a j i r) refl)
