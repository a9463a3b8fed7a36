-- What a walking step improves: every list changes by a multiple of the perturbed ratio of the row that
-- enters, which is positive.
use Rattle.std.specs.Prelude.{◌≡◌, ◌≢◌, ℕ, zero, suc, ◌<◌, Bool, true, false, ◌==◌, if◌then◌else◌, [], ◌∷◌, pos, negsuc}
use Rattle.std.specs.Ordering.{ordering_reverse}
use Rattle.std.specs.declared.cmp.Ordering.TheVariants.{Less}
use Rattle.std.proofs.Common.{refl, sym, ap, ap₂, subst, ◌∙◌}
use borrow.Author.Tests.{eqb-true, eqb-false}
use Rattle.rational_laws.specs.Solver.{var, number, negated, ◌⊞◌, ◌⊟◌, ◌⊠◌, v0, v1, v2, v3, v4, v5}
use Rattle.rational_laws.specs.Rational.{ℚ, ◌+ℚ◌, ◌-ℚ◌, ◌*ℚ◌, neg_ℚ, inverse, whole}
use Rattle.rational_laws.proofs.RationalLaws.{ring_ℚ, ring_by_ℚ, *ℚ-inverse}
use Rattle.rational_laws.specs.RationalSums.{sum_ℚ}
use Rattle.rational_laws.proofs.RationalSumLaws.{sum_ℚ-same, sum_ℚ-scale, sum_ℚ-swap, sum_ℚ-mix}
use Rattle.rational_laws.proofs.Inverses.{inverse-neg}
use Rattle.rational_laws.specs.Terms.{delta}
use Rattle.rational_laws.proofs.TermLaws.{if-same, sum_ℚ-replaced}
use Rattle.rational_laws.specs.Matrices.{coordinate}
use Rattle.rational_laws.proofs.MatrixLaws.{coordinate-delta}
use Rattle.loss_model.specs.declared.vertex.Side.{Side}
use Rattle.loss_model.specs.declared.vertex.Side.TheVariants.{Up, Down, Basic}
use Rattle.loss_model.specs.Sample.{Sample, up_cost, down_cost}
use Rattle.loss_model.specs.Vertex.{value_of_side}
use Rattle.pivot_model.specs.Lexicographic.{lex_cmp}
use Rattle.pivot_model.proofs.LexicographicLaws.{lex_cmp_swap}
use Rattle.pivot_model.specs.Perturbed.{perturbed, zeros, turned}
use Rattle.pivot_model.specs.declared.direction.Direction.{Direction}
use Rattle.pivot_model.specs.declared.direction.Direction.TheVariants.{Upward, Downward}
use Rattle.pivot_model.specs.Part.TheVariants.{Linear}
use Rattle.pivot_model.specs.Basis.{IsBasis, coord, outside_row, side_at, bound_part, nonbasic_total, basic_dual, dual_value}
use Rattle.pivot_model.specs.Duals.{◌<ℚ◌}
use Rattle.pivot_model.specs.Steps.{slope, change}
use Rattle.pivot_model.specs.Responses.{residual_for, response}
use Rattle.pivot_model.proofs.Among.{among_at}
use Rattle.pivot_model.proofs.Bounds.{is_basic, bound, dual_is}
use Rattle.pivot_model.proofs.Exchanged.{perturbed_is, held_sum}
use Rattle.pivot_model.proofs.Sides.{side_basic}
use Rattle.walk_model.specs.Families.{over_quantiles, rising_value, falling_value, slope_in, slope_part}
use Rattle.walk_model.specs.Walks.{IsFirstMover, side_towards, AreExchanged, Crosses}
use Rattle.pivot_model.specs.PerturbedLoss.{by_side, perturbed_sum, perturbed_loss, change_list, perturbed_coefficient}
use Rattle.walk_model.proofs.Lines.{positive_neg, negative_neg, le_by}
use Rattle.walk_model.proofs.Lists.{cmp_by, lex_cmp-by, sign_scaled}
use Rattle.walk_model.proofs.Slopes.{crossing, slope_is, nothing_added}
use Rattle.walk_model.proofs.Exchanges.{residual_next, coord_own, residual_own, outside_from}
use Rattle.walk_model.proofs.Changes.{coefficient_for, coefficients_after}
use Rattle.walk_model.proofs.Tested.{negated_entry}
use Rattle.walk_model.proofs.Moved.{ratios}
use Rattle.walk_model.proofs.Joint.{some, out_r, ratio_positive, ratio_is, next_same, sides_stay, side_left}

-- the entries of the perturbed coefficient are coefficients for responses
module _ (p : Sample) (k : ℕ) (lk : k < p.columns) where
  pub coefficient_is : (at : ℕ → ℕ) (a : ℕ → ℕ → ℚ) (basis : IsBasis p at a) (m : ℕ) → perturbed_coefficient p at a k m ≡ coefficient_for p at a (response p m) k
  coefficient_is at a basis zero = refl
  coefficient_is at a basis (suc m) = held_sum p.columns at (a k) m basis.distinct.apart

-- ---- sums over the rows outside

module _ (p : Sample) (at : ℕ → ℕ) (a : ℕ → ℕ → ℚ) (basis : IsBasis p at a) (up down : ℕ → ℚ) where
  -- the signed cost of a side
  abbrev pub price : ℕ → Side → ℚ
  price i Up = up i
  price i Down = neg_ℚ (down i)
  price i Basic = whole (pos 0)

  abbrev pub priced : ℕ → ℚ
  priced i = price i (side_at p at a i)

  priced_basic : (i : ℕ) → is_basic p at a i ≡ true → priced i ≡ whole (pos 0)
  priced_basic i e = ap (price i) (side_basic p at a i e)

  signed : (i : ℕ) (s : Side) (x : ℚ) → by_side up down i s *ℚ turned s x ≡ price i s *ℚ x
  signed i Up x = refl
  signed i Down x = ring_ℚ (down i ∷ x ∷ []) (v0 ⊠ negated v1) (negated v0 ⊠ v1) refl
  signed i Basic x = refl

  -- as a sum of residuals for a response
  pub sum_is : (m : ℕ) → perturbed_sum p at a up down m ≡ sum_ℚ p.rows (λ i. priced i *ℚ residual_for p at a (response p m) i)
  sum_is m =
      sum_ℚ-same p.rows (λ i. by_side up down i (side_at p at a i) *ℚ turned (side_at p at a i) (perturbed p.columns at (outside_row p at a i) m)) (λ i. priced i *ℚ residual_for p at a (response p m) i)
      (λ i li. signed i (side_at p at a i) (perturbed p.columns at (outside_row p at a i) m) ∙ each i (is_basic p at a i) refl)
    where
      each : (i : ℕ) (t : Bool) → is_basic p at a i ≡ t → priced i *ℚ perturbed p.columns at (outside_row p at a i) m ≡ priced i *ℚ residual_for p at a (response p m) i
      each i true e =
          ap (λ z. z *ℚ perturbed p.columns at (outside_row p at a i) m) (priced_basic i e)
          ∙ ring_ℚ (perturbed p.columns at (outside_row p at a i) m ∷ residual_for p at a (response p m) i ∷ []) (number (pos 0) ⊠ v0) (number (pos 0) ⊠ v1) refl
          ∙ ap (λ z. z *ℚ residual_for p at a (response p m) i) (sym (priced_basic i e))
      each i false e = ap (λ z. priced i *ℚ z) (perturbed_is p at a i (outside_from p at a basis i e) m)

-- ---- after an exchange

module _ (p : Sample) (at next : ℕ → ℕ) (a b : ℕ → ℕ → ℚ) (j r : ℕ) (d : Direction) (basis : IsBasis p at a) (after : IsBasis p next b) (ex : AreExchanged p.columns at next j r) (lj : j < p.columns) (first : IsFirstMover p at a j d r) where
  abbrev c : ℕ → ℚ
  c i = coord p a i j

  abbrev cr : ℚ
  cr = coord p a r j

  nonzero : cr ≢ whole (pos 0)
  nonzero = some p at a basis j d r first

  -- the perturbed residual of the row that enters over its coordinate, by its ratio
  over : Direction → ℚ → ℚ
  over Upward x = neg_ℚ x
  over Downward x = x

  quotient_by : (e : Direction) (m : ℕ) → ratios p at a basis j d r m ≡ neg_ℚ (residual_for p at a (response p m) r *ℚ inverse (change p at a j e r))
      → residual_for p at a (response p m) r *ℚ inverse cr ≡ over e (ratios p at a basis j d r m)
  unfolding over
  quotient_by Upward m h = ring_ℚ ((residual_for p at a (response p m) r *ℚ inverse cr) ∷ []) v0 (negated (negated v0)) refl ∙ ap neg_ℚ (sym h)
  quotient_by Downward m h =
      ring_ℚ (residual_for p at a (response p m) r ∷ inverse cr ∷ []) (v0 ⊠ v1) (negated (v0 ⊠ negated v1)) refl
      ∙ ap (λ z. neg_ℚ (residual_for p at a (response p m) r *ℚ z)) (sym (inverse-neg cr)) ∙ sym h

  quotient : (m : ℕ) → residual_for p at a (response p m) r *ℚ inverse cr ≡ over d (ratios p at a basis j d r m)
  quotient m =
      quotient_by d m (ratio_is p at a basis j d r first m
      ∙ ap (λ z. neg_ℚ (z *ℚ inverse (change p at a j d r))) (perturbed_is p at a r (outside_from p at a basis r (out_r p at a basis j d r first)) m))

  -- ---- sums of prices

  module _ (up down : ℕ → ℚ) where
    abbrev old : ℕ → ℚ
    old = priced p at a basis up down

    abbrev new : ℕ → ℚ
    new = priced p next b after up down

    abbrev left : ℚ
    left = price p at a basis up down (at j) (side_towards d)

    old_left : old (at j) ≡ whole (pos 0)
    old_left = priced_basic p at a basis up down (at j) (among_at at p.columns j lj)

    -- the row that enters loses its price, and the one that leaves has that of its direction
    replaced : (g : ℕ → ℚ) → sum_ℚ p.rows (λ i. new i *ℚ g i) ≡ (sum_ℚ p.rows (λ i. old i *ℚ g i) -ℚ (old r *ℚ g r)) +ℚ (left *ℚ g (at j))
    replaced g =
        sum_ℚ-same p.rows (λ i. new i *ℚ g i) (λ i. if i == at j then left_of i else kept i) (λ i li. each i li (i == at j) refl (i == r) refl)
        ∙ sum_ℚ-replaced p.rows (at j) kept left_of (basis.distinct.within j lj)
        ∙ ap₂ (λ x y. (x -ℚ y) +ℚ (left *ℚ g (at j))) (sum_ℚ-replaced p.rows r (λ i. old i *ℚ g i) (λ i. whole (pos 0)) first.row) (gone (at j == r))
        ∙ ring_ℚ (sum_ℚ p.rows (λ i. old i *ℚ g i) ∷ (old r *ℚ g r) ∷ (left *ℚ g (at j)) ∷ []) ((((v0 ⊟ v1) ⊞ number (pos 0)) ⊟ number (pos 0)) ⊞ v2) ((v0 ⊟ v1) ⊞ v2) refl
      where
        left_of : ℕ → ℚ
        left_of i = price p at a basis up down i (side_towards d) *ℚ g i

        kept : ℕ → ℚ
        kept i = if i == r then whole (pos 0) else old i *ℚ g i

        zero_times : (x : ℚ) → whole (pos 0) *ℚ x ≡ whole (pos 0)
        zero_times x = ring_ℚ (x ∷ []) (number (pos 0) ⊠ v0) (number (pos 0)) refl

        gone : (t : Bool) → (if t then whole (pos 0) else old (at j) *ℚ g (at j)) ≡ whole (pos 0)
        gone true = refl
        gone false = ap (λ z. z *ℚ g (at j)) old_left ∙ zero_times (g (at j))

        each : (i : ℕ) → i < p.rows → (t : Bool) → (i == at j) ≡ t → (u : Bool) → (i == r) ≡ u → new i *ℚ g i ≡ (if t then left_of i else if u then whole (pos 0) else old i *ℚ g i)
        each i li true e u h = ap (λ s. price p next b after up down i s *ℚ g i) (ap (side_at p next b) (eqb-true i (at j) e) ∙ side_left p at a basis j d r first next b after ex lj) ∙ same (side_towards d)
          where
            same : (s : Side) → price p next b after up down i s *ℚ g i ≡ price p at a basis up down i s *ℚ g i
            same Up = refl
            same Down = refl
            same Basic = refl
        each i li false e true h =
            ap (λ z. z *ℚ g i) (priced_basic p next b after up down i (ap (is_basic p next b) (eqb-true i r h ∙ sym (next_same p at a basis j d r first next b after ex lj)) ∙ among_at next p.columns j lj))
            ∙ zero_times (g i)
        each i li false e false h = ap (λ s. price p next b after up down i s *ℚ g i) (sides_stay p at a basis j d r first next b after ex lj i li (eqb-false i r h) (eqb-false i (at j) e)) ∙ same (side_at p at a i)
          where
            same : (s : Side) → price p next b after up down i s *ℚ g i ≡ price p at a basis up down i s *ℚ g i
            same Up = refl
            same Down = refl
            same Basic = refl

    -- how far the price of the row that leaves is from what balances the others at its position
    abbrev excess : ℚ
    excess = left +ℚ sum_ℚ p.rows (λ i. old i *ℚ c i)

    sum_after : (v : ℕ → ℚ) → sum_ℚ p.rows (λ i. new i *ℚ residual_for p next b v i) ≡ sum_ℚ p.rows (λ i. old i *ℚ residual_for p at a v i) -ℚ ((residual_for p at a v r *ℚ inverse cr) *ℚ excess)
    sum_after v =
        sum_ℚ-same p.rows (λ i. new i *ℚ residual_for p next b v i) (λ i. (whole (pos 1) *ℚ (new i *ℚ residual_for p at a v i)) +ℚ (neg_ℚ (q *ℚ rr) *ℚ (new i *ℚ c i)))
        (λ i li. ap (λ z. new i *ℚ z) (residual_next p at next a b j r basis after ex lj nonzero v i)
        ∙ ring_ℚ (new i ∷ residual_for p at a v i ∷ c i ∷ q ∷ rr ∷ []) (v0 ⊠ (v1 ⊟ (v2 ⊠ v3) ⊠ v4)) (number (pos 1) ⊠ (v0 ⊠ v1) ⊞ negated (v3 ⊠ v4) ⊠ (v0 ⊠ v2)) refl)
        ∙ sum_ℚ-mix p.rows (whole (pos 1)) (neg_ℚ (q *ℚ rr)) (λ i. new i *ℚ residual_for p at a v i) (λ i. new i *ℚ c i)
        ∙ ap₂ (λ x y. (whole (pos 1) *ℚ x) +ℚ (neg_ℚ (q *ℚ rr) *ℚ y))
        (replaced (residual_for p at a v) ∙ ap (λ z. (sum_ℚ p.rows (λ i. old i *ℚ residual_for p at a v i) -ℚ (old r *ℚ rr)) +ℚ (left *ℚ z)) (residual_own p at a basis v j lj))
        (replaced c ∙ ap (λ z. (sum_ℚ p.rows (λ i. old i *ℚ c i) -ℚ (old r *ℚ cr)) +ℚ (left *ℚ z)) (coord_own p at a basis j j lj lj ∙ if-same j j (whole (pos 1)) (whole (pos 0)) refl))
        ∙ ring_by_ℚ (sum_ℚ p.rows (λ i. old i *ℚ residual_for p at a v i) ∷ old r ∷ rr ∷ left ∷ q ∷ sum_ℚ p.rows (λ i. old i *ℚ c i) ∷ cr ∷ [])
        (number (pos 1) ⊠ ((v0 ⊟ v1 ⊠ v2) ⊞ v3 ⊠ number (pos 0)) ⊞ negated (v4 ⊠ v2) ⊠ ((v5 ⊟ v1 ⊠ var 6) ⊞ v3 ⊠ number (pos 1)))
        (v0 ⊟ (v2 ⊠ v4) ⊠ (v3 ⊞ v5)) (v1 ⊠ v2) (var 6 ⊠ v4) (number (pos 1)) refl (*ℚ-inverse cr nonzero)
      where
        q : ℚ
        q = inverse cr

        rr : ℚ
        rr = residual_for p at a v r

  -- ---- over quantiles

  -- the prices at a quantile balance at the position
  excess_none : (t : ℚ) (e : Direction) → slope_in (over_quantiles p) at a t j e ≡ whole (pos 0)
      → price p at a basis (up_cost p t) (down_cost p t) (at j) (side_towards e) +ℚ sum_ℚ p.rows (λ i. priced p at a basis (up_cost p t) (down_cost p t) i *ℚ c i) ≡ whole (pos 0)
  excess_none t e meets = ap (λ z. price p at a basis (up_cost p t) (down_cost p t) (at j) (side_towards e) +ℚ z) balance ∙ by e (sym (slope_is p at a t j e) ∙ meets)
    where
      same : (i : ℕ) (s : Side) → price p at a basis (up_cost p t) (down_cost p t) i s ≡ value_of_side p t (λ i. whole (pos 0)) i s
      same i Up = refl
      same i Down = refl
      same i Basic = refl

      balance : sum_ℚ p.rows (λ i. priced p at a basis (up_cost p t) (down_cost p t) i *ℚ c i) ≡ neg_ℚ (dual_value p at a t j)
      balance =
          sum_ℚ-same p.rows (λ i. priced p at a basis (up_cost p t) (down_cost p t) i *ℚ c i) (λ i. bound p at a t i *ℚ c i) (λ i li. ap (λ z. z *ℚ c i) (same i (side_at p at a i)))
          ∙ ring_ℚ (sum_ℚ p.rows (λ i. bound p at a t i *ℚ c i) ∷ []) v0 (negated (negated v0)) refl ∙ ap neg_ℚ (sym (dual_is p at a t j))

      by : (e : Direction) → slope p at a t j e ≡ whole (pos 0) → price p at a basis (up_cost p t) (down_cost p t) (at j) (side_towards e) +ℚ neg_ℚ (dual_value p at a t j) ≡ whole (pos 0)
      by Upward h = h
      by Downward h = ring_ℚ (down_cost p t (at j) ∷ dual_value p at a t j ∷ []) (negated v0 ⊞ negated v1) (negated (v0 ⊞ v1)) refl ∙ ap neg_ℚ h ∙ ring_ℚ [] (negated (number (pos 0))) (number (pos 0)) refl

  pub loss_stays : (t : ℚ) → slope_in (over_quantiles p) at a t j d ≡ whole (pos 0) → (m : ℕ) → perturbed_loss p next b t m ≡ perturbed_loss p at a t m
  loss_stays t meets m =
      sum_is p next b after (up_cost p t) (down_cost p t) m
      ∙ sum_after (up_cost p t) (down_cost p t) (response p m)
      ∙ ap (λ z. sum_ℚ p.rows (λ i. priced p at a basis (up_cost p t) (down_cost p t) i *ℚ residual_for p at a (response p m) i) -ℚ ((residual_for p at a (response p m) r *ℚ inverse cr) *ℚ z)) (excess_none t d meets)
      ∙ ring_ℚ (sum_ℚ p.rows (λ i. priced p at a basis (up_cost p t) (down_cost p t) i *ℚ residual_for p at a (response p m) i) ∷ (residual_for p at a (response p m) r *ℚ inverse cr) ∷ []) (v0 ⊟ v1 ⊠ number (pos 0)) v0 refl
      ∙ sym (sum_is p at a basis (up_cost p t) (down_cost p t) m)

  -- the linear prices do not, by the slope that falls
  linear_balance : sum_ℚ p.rows (λ i. priced p at a basis p.up1 p.down1 i *ℚ c i) ≡ neg_ℚ (basic_dual p at a Linear j)
  linear_balance =
      sum_ℚ-same p.rows (λ i. priced p at a basis p.up1 p.down1 i *ℚ c i) (λ i. sum_ℚ p.columns (λ k. a k j *ℚ (p.x i k *ℚ β i)))
      (λ i li. ap (λ z. z *ℚ c i) (same i (side_at p at a i)) ∙ sym (sum_ℚ-scale p.columns (β i) (λ k. p.x i k *ℚ a k j))
      ∙ sum_ℚ-same p.columns (λ k. β i *ℚ (p.x i k *ℚ a k j)) (λ k. a k j *ℚ (p.x i k *ℚ β i)) (λ k lk. ring_ℚ (β i ∷ p.x i k ∷ a k j ∷ []) (v0 ⊠ (v1 ⊠ v2)) (v2 ⊠ (v1 ⊠ v0)) refl))
      ∙ sum_ℚ-swap p.rows p.columns (λ i k. a k j *ℚ (p.x i k *ℚ β i))
      ∙ sum_ℚ-same p.columns (λ k. sum_ℚ p.rows (λ i. a k j *ℚ (p.x i k *ℚ β i))) (λ k. whole (negsuc 0) *ℚ (neg_ℚ (nonbasic_total p (side_at p at a) Linear k) *ℚ a k j))
      (λ k lk. sum_ℚ-scale p.rows (a k j) (λ i. p.x i k *ℚ β i) ∙ ring_ℚ (a k j ∷ nonbasic_total p (side_at p at a) Linear k ∷ []) (v0 ⊠ v1) (number (negsuc 0) ⊠ (negated v1 ⊠ v0)) refl)
      ∙ sum_ℚ-scale p.columns (whole (negsuc 0)) (λ k. neg_ℚ (nonbasic_total p (side_at p at a) Linear k) *ℚ a k j)
      ∙ ring_ℚ (basic_dual p at a Linear j ∷ []) (number (negsuc 0) ⊠ v0) (negated v0) refl
    where
      β : ℕ → ℚ
      β i = bound_part p Linear i (side_at p at a i)

      same : (i : ℕ) (s : Side) → price p at a basis p.up1 p.down1 i s ≡ bound_part p Linear i s
      same i Up = refl
      same i Down = refl
      same i Basic = refl

  over_excess : (e : Direction) (x : ℚ) → over e x *ℚ (price p at a basis p.up1 p.down1 (at j) (side_towards e) +ℚ neg_ℚ (basic_dual p at a Linear j)) ≡ neg_ℚ (slope_part (over_quantiles p) at a Linear j e *ℚ x)
  unfolding over
  over_excess Upward x =
      ring_ℚ (x ∷ p.up1 (at j) ∷ basic_dual p at a Linear j ∷ []) (negated v0 ⊠ (v1 ⊞ negated v2)) (negated ((v1 ⊟ (v2 ⊞ number (pos 0))) ⊠ v0)) refl
      ∙ ap (λ z. neg_ℚ ((p.up1 (at j) -ℚ (basic_dual p at a Linear j +ℚ z)) *ℚ x)) (sym (nothing_added p at a j))
  over_excess Downward x =
      ring_ℚ (x ∷ p.down1 (at j) ∷ basic_dual p at a Linear j ∷ []) (v0 ⊠ (negated v1 ⊞ negated v2)) (negated ((v1 ⊞ (v2 ⊞ number (pos 0))) ⊠ v0)) refl
      ∙ ap (λ z. neg_ℚ ((p.down1 (at j) +ℚ (basic_dual p at a Linear j +ℚ z)) *ℚ x)) (sym (nothing_added p at a j))

  pub change_falls : (t : ℚ) → Crosses (over_quantiles p) at a t j d → lex_cmp (suc p.rows) (change_list p next b) (change_list p at a) ≡ Less
  change_falls t cross =
      lex_cmp-by (suc p.rows) (change_list p next b) (change_list p at a) zeros (λ m. neg_ℚ l *ℚ ρ m)
      (λ m. cmp_by (change_list p next b m) (change_list p at a m) (whole (pos 0)) (neg_ℚ l *ℚ ρ m) (ap (λ z. change_list p at a m -ℚ z) (moved m)
      ∙ ring_ℚ (change_list p at a m ∷ l ∷ ρ m ∷ []) (v0 ⊟ (v0 ⊞ v1 ⊠ v2)) (negated v1 ⊠ v2 ⊟ number (pos 0)) refl))
      ∙ lex_cmp_swap (suc p.rows) (λ m. neg_ℚ l *ℚ ρ m) zeros
      ∙ ap ordering_reverse (sign_scaled (suc p.rows) (neg_ℚ l) ρ steep ∙ ratio_positive p at a basis j d r first)
    where
      l : ℚ
      l = slope_part (over_quantiles p) at a Linear j d

      ρ : ℕ → ℚ
      ρ = ratios p at a basis j d r

      steep : whole (pos 0) <ℚ neg_ℚ l
      steep h = ((crossing (over_quantiles p) at a j d t).0 cross).0 (le_by (neg_ℚ l) (whole (pos 0)) (whole (pos 0)) l h (ring_ℚ (l ∷ []) (number (pos 0) ⊟ negated v0) (v0 ⊟ number (pos 0)) refl))

      moved : (m : ℕ) → change_list p next b m ≡ change_list p at a m +ℚ (l *ℚ ρ m)
      moved m =
          sum_is p next b after p.up1 p.down1 m
          ∙ sum_after p.up1 p.down1 (response p m)
          ∙ ap₂ (λ x y. sum_ℚ p.rows (λ i. priced p at a basis p.up1 p.down1 i *ℚ residual_for p at a (response p m) i) -ℚ (x *ℚ (price p at a basis p.up1 p.down1 (at j) (side_towards d) +ℚ y))) (quotient m) linear_balance
          ∙ ap₂ (λ x y. x -ℚ y) (sym (sum_is p at a basis p.up1 p.down1 m)) (over_excess d (ρ m))
          ∙ ring_ℚ (change_list p at a m ∷ (l *ℚ ρ m) ∷ []) (v0 ⊟ negated v1) (v0 ⊞ v1) refl

  -- ---- the coefficient of a column

  module _ (k : ℕ) (lk : k < p.columns) where
    moved_coefficient : (m : ℕ) → perturbed_coefficient p next b k m ≡ perturbed_coefficient p at a k m +ℚ (a k j *ℚ over d (ratios p at a basis j d r m))
    moved_coefficient m =
        coefficient_is p k lk next b after m ∙ coefficients_after p at next a b j r basis after ex lj nonzero (response p m) k lk
        ∙ ap₂ (λ x y. x +ℚ y) (sym (coefficient_is p k lk at a basis m))
        (ring_ℚ (a k j ∷ inverse cr ∷ residual_for p at a (response p m) r ∷ []) ((v0 ⊠ v1) ⊠ v2) (v0 ⊠ (v2 ⊠ v1)) refl ∙ ap (λ z. a k j *ℚ z) (quotient m))

    -- where the multiple of the ratio is positive it rises
    raised : (g : ℚ) → whole (pos 0) <ℚ g → ((m : ℕ) → perturbed_coefficient p next b k m ≡ perturbed_coefficient p at a k m +ℚ (g *ℚ ratios p at a basis j d r m))
        → lex_cmp (suc p.rows) (perturbed_coefficient p at a k) (perturbed_coefficient p next b k) ≡ Less
    raised g above moved =
        lex_cmp-by (suc p.rows) (perturbed_coefficient p at a k) (perturbed_coefficient p next b k) zeros (λ m. g *ℚ ratios p at a basis j d r m)
        (λ m. cmp_by (perturbed_coefficient p at a k m) (perturbed_coefficient p next b k m) (whole (pos 0)) (g *ℚ ratios p at a basis j d r m)
        (ap (λ z. z -ℚ perturbed_coefficient p at a k m) (moved m) ∙ ring_ℚ (perturbed_coefficient p at a k m ∷ g ∷ ratios p at a basis j d r m ∷ []) ((v0 ⊞ v1 ⊠ v2) ⊟ v0) (v1 ⊠ v2 ⊟ number (pos 0)) refl))
        ∙ lex_cmp_swap (suc p.rows) (λ m. g *ℚ ratios p at a basis j d r m) zeros
        ∙ ap ordering_reverse (sign_scaled (suc p.rows) g (ratios p at a basis j d r) above ∙ ratio_positive p at a basis j d r first)

    lowered : (g : ℚ) → whole (pos 0) <ℚ g → ((m : ℕ) → perturbed_coefficient p next b k m ≡ perturbed_coefficient p at a k m -ℚ (g *ℚ ratios p at a basis j d r m))
        → lex_cmp (suc p.rows) (perturbed_coefficient p next b k) (perturbed_coefficient p at a k) ≡ Less
    lowered g above moved =
        lex_cmp-by (suc p.rows) (perturbed_coefficient p next b k) (perturbed_coefficient p at a k) zeros (λ m. g *ℚ ratios p at a basis j d r m)
        (λ m. cmp_by (perturbed_coefficient p next b k m) (perturbed_coefficient p at a k m) (whole (pos 0)) (g *ℚ ratios p at a basis j d r m)
        (ap (λ z. perturbed_coefficient p at a k m -ℚ z) (moved m) ∙ ring_ℚ (perturbed_coefficient p at a k m ∷ g ∷ ratios p at a basis j d r m ∷ []) (v0 ⊟ (v0 ⊟ v1 ⊠ v2)) (v1 ⊠ v2 ⊟ number (pos 0)) refl))
        ∙ lex_cmp_swap (suc p.rows) (λ m. g *ℚ ratios p at a basis j d r m) zeros
        ∙ ap ordering_reverse (sign_scaled (suc p.rows) g (ratios p at a basis j d r) above ∙ ratio_positive p at a basis j d r first)

    abbrev Moved : Direction → ℕ → Type 0
    Moved e m = perturbed_coefficient p next b k m ≡ perturbed_coefficient p at a k m +ℚ (a k j *ℚ over e (ratios p at a basis j d r m))

    rises_by : (tau : ℚ) (e : Direction) → slope_part (rising_value p tau k) at a Linear j e <ℚ whole (pos 0) → ((m : ℕ) → Moved e m) → lex_cmp (suc p.rows) (perturbed_coefficient p at a k) (perturbed_coefficient p next b k) ≡ Less
    unfolding over
    rises_by tau Upward falls moved =
        raised (neg_ℚ (a k j))
        (positive_neg (a k j) (subst (λ z. z <ℚ whole (pos 0)) (ring_ℚ (coordinate p.columns a (λ l. neg_ℚ (delta k l)) j ∷ []) (number (pos 0) ⊟ (number (pos 0) ⊞ v0)) (negated v0) refl ∙ ap neg_ℚ (negated_entry p tau k at a j lk)
        ∙ ring_ℚ (a k j ∷ []) (negated (negated v0)) v0 refl) falls))
        (λ m. moved m ∙ ring_ℚ (perturbed_coefficient p at a k m ∷ a k j ∷ ratios p at a basis j d r m ∷ []) (v0 ⊞ v1 ⊠ negated v2) (v0 ⊞ negated v1 ⊠ v2) refl)
    rises_by tau Downward falls moved =
        raised (a k j)
        (negative_neg (a k j) (subst (λ z. z <ℚ whole (pos 0)) (ring_ℚ (coordinate p.columns a (λ l. neg_ℚ (delta k l)) j ∷ []) (number (pos 0) ⊞ (number (pos 0) ⊞ v0)) v0 refl ∙ negated_entry p tau k at a j lk) falls))
        moved

    falls_by : (tau : ℚ) (e : Direction) → slope_part (falling_value p tau k) at a Linear j e <ℚ whole (pos 0) → ((m : ℕ) → Moved e m) → lex_cmp (suc p.rows) (perturbed_coefficient p next b k) (perturbed_coefficient p at a k) ≡ Less
    unfolding over
    falls_by tau Upward falls moved =
        lowered (a k j)
        (negative_neg (a k j) (subst (λ z. z <ℚ whole (pos 0)) (ring_ℚ (coordinate p.columns a (delta k) j ∷ []) (number (pos 0) ⊟ (number (pos 0) ⊞ v0)) (negated v0) refl ∙ ap neg_ℚ (coordinate-delta p.columns a k j lk)) falls))
        (λ m. moved m ∙ ring_ℚ (perturbed_coefficient p at a k m ∷ a k j ∷ ratios p at a basis j d r m ∷ []) (v0 ⊞ v1 ⊠ negated v2) (v0 ⊟ v1 ⊠ v2) refl)
    falls_by tau Downward falls moved =
        lowered (neg_ℚ (a k j))
        (positive_neg (a k j) (subst (λ z. z <ℚ whole (pos 0)) (ring_ℚ (coordinate p.columns a (delta k) j ∷ []) (number (pos 0) ⊞ (number (pos 0) ⊞ v0)) v0 refl ∙ coordinate-delta p.columns a k j lk) falls))
        (λ m. moved m ∙ ring_ℚ (perturbed_coefficient p at a k m ∷ a k j ∷ ratios p at a basis j d r m ∷ []) (v0 ⊞ v1 ⊠ v2) (v0 ⊟ negated v1 ⊠ v2) refl)

    pub coefficient_moves : (tau t : ℚ)
        → (Crosses (rising_value p tau k) at a t j d → lex_cmp (suc p.rows) (perturbed_coefficient p at a k) (perturbed_coefficient p next b k) ≡ Less)
        × (Crosses (falling_value p tau k) at a t j d → lex_cmp (suc p.rows) (perturbed_coefficient p next b k) (perturbed_coefficient p at a k) ≡ Less)
    coefficient_moves tau t = (
      λ cross. rises_by tau d ((crossing (rising_value p tau k) at a j d t).0 cross).0 moved_coefficient,
      λ cross. falls_by tau d ((crossing (falling_value p tau k) at a j d t).0 cross).0 moved_coefficient,
    )
