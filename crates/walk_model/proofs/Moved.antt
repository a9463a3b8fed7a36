-- The sides of the rows after an exchange by which any row that moves enters: those that don't move, or
-- come after it, keep theirs.
use Rattle.std.specs.Prelude.{◌≡◌, ◌≢◌, ◌⊎◌, ℕ, suc, ◌<◌, ◌≤◌, Bool, true, false, ◌==◌, [], ◌∷◌, pos}
use Rattle.std.specs.Ordering.{is_lt, is_gt, ordering_reverse}
use Rattle.std.specs.declared.cmp.Ordering.{Ordering}
use Rattle.std.specs.declared.cmp.Ordering.TheVariants.{Less, Equal, Greater}
use Rattle.std.proofs.Common.{arith, refl, sym, ap, ap₂, subst, ◌∙◌, inl, inr}
use Rattle.std.proofs.lemmas.Bool.{cases_lt}
use borrow.Author.Tests.{eqb-true, eqb-false}
use Rattle.rational_laws.specs.Solver.{number, negated, ◌⊞◌, ◌⊟◌, ◌⊠◌, v0, v1, v2, v3}
use Rattle.rational_laws.specs.Rational.{ℚ, ◌+ℚ◌, ◌-ℚ◌, ◌*ℚ◌, neg_ℚ, inverse, whole, ◌≤ℚ◌}
use Rattle.rational_laws.proofs.RationalLaws.{ring_ℚ, ≤ℚ_antisym}
use Rattle.rational_laws.proofs.Inverses.{inverse-neg}
use Rattle.rational_laws.specs.Order.{cmp_ℚ}
use Rattle.rational_laws.proofs.OrderLaws.{cmp_ℚ-Less, cmp_ℚ-Greater, le_from_not}
use Rattle.rational_laws.proofs.Comparisons.{is_less, is_greater}
use Rattle.rational_laws.proofs.Signs.{neg-neg}
use Rattle.rational_laws.proofs.TermLaws.{if-same, if-other}
use Rattle.loss_model.specs.declared.vertex.Side.TheVariants.{Up, Down}
use Rattle.loss_model.specs.Sample.{Sample}
use Rattle.loss_model.specs.Spill.{abs_ℚ}
use Rattle.pivot_model.specs.Lexicographic.{lex_cmp}
use Rattle.pivot_model.specs.Perturbed.{IsOutside, perturbed, zeros, side_of, ratio, ratio_on}
use Rattle.pivot_model.proofs.Ratios.{abs_not_negative, abs_nonzero}
use Rattle.pivot_model.proofs.Signs.{lex_cmp-same}
use Rattle.pivot_model.proofs.Ordered.{not_zero}
use Rattle.pivot_model.specs.declared.direction.Direction.{Direction}
use Rattle.pivot_model.specs.declared.direction.Direction.TheVariants.{Upward, Downward}
use Rattle.pivot_model.specs.Basis.{IsBasis, coord, outside_row, side_at}
use Rattle.pivot_model.specs.Duals.{◌<ℚ◌}
use Rattle.pivot_model.specs.Steps.{is_towards, change, moves, is_before}
use Rattle.pivot_model.specs.Responses.{residual_for, response}
use Rattle.pivot_model.proofs.Among.{among_at, among_place}
use Rattle.pivot_model.proofs.Bounds.{is_basic}
use Rattle.pivot_model.proofs.Entering.{abs_above, abs_below}
use Rattle.pivot_model.proofs.Exchanged.{perturbed_is}
use Rattle.pivot_model.proofs.Passing.{mover_some, mover_outside}
use Rattle.pivot_model.proofs.Sides.{sign, side_basic, side_outside}
use Rattle.walk_model.specs.Walks.{side_towards, AreExchanged}
use Rattle.walk_model.proofs.Lines.{le_by}
use Rattle.walk_model.proofs.Lists.{inverse_above, sign_scaled, sign_negated, sign_kept}
use Rattle.walk_model.proofs.Exchanges.{residual_next, coord_own, residual_own, outside_from, outside_test}

module _ (p : Sample) (at : ℕ → ℕ) (a : ℕ → ℕ → ℚ) (basis : IsBasis p at a) (j : ℕ) (d : Direction) where
  -- the perturbed ratio of row i, entry by entry
  abbrev pub ratios : ℕ → ℕ → ℚ
  ratios i = ratio p.rows p.columns at j (outside_row p at a i)

  abbrev pub entries : ℕ → ℕ → ℚ
  entries i = perturbed p.columns at (outside_row p at a i)

  abbrev c : ℕ → ℚ
  c i = coord p a i j

  -- the ratio where the sign is known
  ratio_above : (i : ℕ) → sign p at a i ≡ Greater → (m : ℕ) → ratios i m ≡ entries i m *ℚ inverse (abs_ℚ (c i))
  ratio_above i e m = ap (λ o. ratio_on (side_of o) p.columns at j (outside_row p at a i) m) e

  ratio_below : (i : ℕ) → sign p at a i ≡ Less → (m : ℕ) → ratios i m ≡ neg_ℚ (entries i m *ℚ inverse (abs_ℚ (c i)))
  ratio_below i e m = ap (λ o. ratio_on (side_of o) p.columns at j (outside_row p at a i) m) e

  signed : (i : ℕ) → i < p.rows → (sign p at a i ≡ Greater) ⊎ (sign p at a i ≡ Less)
  signed i li = by (sign p at a i) refl
    where
      by : (o : Ordering) → sign p at a i ≡ o → (sign p at a i ≡ Greater) ⊎ (sign p at a i ≡ Less)
      by Greater e = inl e
      by Less e = inr e
      by Equal e = absurd (not_zero p.rows p.columns at (outside_row p at a i) li e)

  side_above : (i : ℕ) → is_basic p at a i ≡ false → sign p at a i ≡ Greater → side_at p at a i ≡ Up
  side_above i out e = side_outside p at a i out ∙ ap side_of e

  side_below : (i : ℕ) → is_basic p at a i ≡ false → sign p at a i ≡ Less → side_at p at a i ≡ Down
  side_below i out e = side_outside p at a i out ∙ ap side_of e

  -- a row above the fit moves where its change is negative, and one below it where that is positive
  moves_above : (i : ℕ) → is_basic p at a i ≡ false → sign p at a i ≡ Greater → change p at a j d i <ℚ whole (pos 0) → moves p at a j d i ≡ true
  moves_above i out e h =
      ap (λ s. is_towards s (change p at a j d i)) (side_above i out e) ∙ ap is_lt ((cmp_ℚ-Less (change p at a j d i) (whole (pos 0))).1 h)

  moves_below : (i : ℕ) → is_basic p at a i ≡ false → sign p at a i ≡ Less → whole (pos 0) <ℚ change p at a j d i → moves p at a j d i ≡ true
  moves_below i out e h =
      ap (λ s. is_towards s (change p at a j d i)) (side_below i out e) ∙ ap is_gt ((cmp_ℚ-Greater (change p at a j d i) (whole (pos 0))).1 h)

  change_above : (i : ℕ) → moves p at a j d i ≡ true → sign p at a i ≡ Greater → change p at a j d i <ℚ whole (pos 0)
  change_above i h e =
      (cmp_ℚ-Less (change p at a j d i) (whole (pos 0))).0
      (is_less (cmp_ℚ (change p at a j d i) (whole (pos 0))) (sym (ap (λ s. is_towards s (change p at a j d i)) (side_above i (mover_outside p at a j d i h) e)) ∙ h))

  change_below : (i : ℕ) → moves p at a j d i ≡ true → sign p at a i ≡ Less → whole (pos 0) <ℚ change p at a j d i
  change_below i h e =
      (cmp_ℚ-Greater (change p at a j d i) (whole (pos 0))).0
      (is_greater (cmp_ℚ (change p at a j d i) (whole (pos 0))) (sym (ap (λ s. is_towards s (change p at a j d i)) (side_below i (mover_outside p at a j d i h) e)) ∙ h))

  -- absolute coordinates by changes
  neg_above : (x : ℚ) → x <ℚ whole (pos 0) → whole (pos 0) ≤ℚ neg_ℚ x
  neg_above x h = le_by x (whole (pos 0)) (whole (pos 0)) (neg_ℚ x) (le_from_not x (whole (pos 0)) h) (ring_ℚ (x ∷ []) (number (pos 0) ⊟ v0) (negated v0 ⊟ number (pos 0)) refl)

  neg_below : (x : ℚ) → whole (pos 0) <ℚ x → neg_ℚ x ≤ℚ whole (pos 0)
  neg_below x h = le_by (whole (pos 0)) x (neg_ℚ x) (whole (pos 0)) (le_from_not (whole (pos 0)) x h) (ring_ℚ (x ∷ []) (v0 ⊟ number (pos 0)) (number (pos 0) ⊟ negated v0) refl)

  abs_falling : (d : Direction) (i : ℕ) → change p at a j d i <ℚ whole (pos 0) → abs_ℚ (c i) ≡ neg_ℚ (change p at a j d i)
  abs_falling Upward i h = abs_below (c i) (le_from_not (c i) (whole (pos 0)) h)
  abs_falling Downward i h = abs_above (c i) (subst (λ z. whole (pos 0) ≤ℚ z) (neg-neg (c i)) (neg_above (neg_ℚ (c i)) h)) ∙ sym (neg-neg (c i))

  abs_rising : (d : Direction) (i : ℕ) → whole (pos 0) <ℚ change p at a j d i → abs_ℚ (c i) ≡ change p at a j d i
  abs_rising Upward i h = abs_above (c i) (le_from_not (whole (pos 0)) (c i) h)
  abs_rising Downward i h = abs_below (c i) (subst (λ z. z ≤ℚ whole (pos 0)) (neg-neg (c i)) (neg_below (neg_ℚ (c i)) h))

  -- ---- the row that enters

  module _ (r : ℕ) (lr : r < p.rows) (mover : moves p at a j d r ≡ true) where
    pub out_r : is_basic p at a r ≡ false
    out_r = mover_outside p at a j d r mover

    pub some : c r ≢ whole (pos 0)
    some = mover_some p at a j d r mover

    abs_some : whole (pos 0) <ℚ abs_ℚ (c r)
    abs_some h = abs_nonzero (c r) some (both h)
      where
        both : abs_ℚ (c r) ≤ℚ whole (pos 0) → abs_ℚ (c r) ≡ whole (pos 0)
        both h = ≤ℚ_antisym (abs_ℚ (c r)) (whole (pos 0)) h (abs_not_negative (c r))

    -- its perturbed ratio is positive
    pub ratio_positive : lex_cmp (suc p.rows) (ratios r) zeros ≡ Greater
    ratio_positive = by (signed r lr)
      where
        by : (sign p at a r ≡ Greater) ⊎ (sign p at a r ≡ Less) → lex_cmp (suc p.rows) (ratios r) zeros ≡ Greater
        by (inl e) =
            lex_cmp-same (suc p.rows) (ratios r) (λ m. inverse (abs_ℚ (c r)) *ℚ entries r m) zeros
            (λ m. ratio_above r e m ∙ ring_ℚ (entries r m ∷ inverse (abs_ℚ (c r)) ∷ []) (v0 ⊠ v1) (v1 ⊠ v0) refl)
            ∙ sign_scaled (suc p.rows) (inverse (abs_ℚ (c r))) (entries r) (inverse_above (abs_ℚ (c r)) abs_some) ∙ e
        by (inr e) =
            lex_cmp-same (suc p.rows) (ratios r) (λ m. neg_ℚ (inverse (abs_ℚ (c r)) *ℚ entries r m)) zeros
            (λ m. ratio_below r e m ∙ ring_ℚ (entries r m ∷ inverse (abs_ℚ (c r)) ∷ []) (negated (v0 ⊠ v1)) (negated (v1 ⊠ v0)) refl)
            ∙ sign_negated (suc p.rows) (λ m. inverse (abs_ℚ (c r)) *ℚ entries r m)
            ∙ ap ordering_reverse (sign_scaled (suc p.rows) (inverse (abs_ℚ (c r))) (entries r) (inverse_above (abs_ℚ (c r)) abs_some) ∙ e)

    -- its perturbed residual over its change is the negated ratio
    pub ratio_is : (m : ℕ) → ratios r m ≡ neg_ℚ (entries r m *ℚ inverse (change p at a j d r))
    ratio_is m = by (signed r lr)
      where
        by : (sign p at a r ≡ Greater) ⊎ (sign p at a r ≡ Less) → ratios r m ≡ neg_ℚ (entries r m *ℚ inverse (change p at a j d r))
        by (inl e) =
            ratio_above r e m
            ∙ ap (λ z. entries r m *ℚ z) (ap inverse (abs_falling d r (change_above r mover e)) ∙ inverse-neg (change p at a j d r))
            ∙ ring_ℚ (entries r m ∷ inverse (change p at a j d r) ∷ []) (v0 ⊠ negated v1) (negated (v0 ⊠ v1)) refl
        by (inr e) =
            ratio_below r e m ∙ ap (λ z. neg_ℚ (entries r m *ℚ inverse z)) (abs_rising d r (change_below r mover e))

    -- a coordinate over that of the entering row is a change over its change
    changes : (d : Direction) (i : ℕ) → c i *ℚ inverse (c r) ≡ change p at a j d i *ℚ inverse (change p at a j d r)
    changes Upward i = refl
    changes Downward i =
        ring_ℚ (c i ∷ inverse (c r) ∷ []) (v0 ⊠ v1) (negated v0 ⊠ negated v1) refl
        ∙ ap (λ z. neg_ℚ (c i) *ℚ z) (sym (inverse-neg (c r)))

    -- ---- after the exchange

    module _ (next : ℕ → ℕ) (b : ℕ → ℕ → ℚ) (after : IsBasis p next b) (ex : AreExchanged p.columns at next j r) (lj : j < p.columns) where
      abbrev entries_next : ℕ → ℕ → ℚ
      entries_next i = perturbed p.columns next (outside_row p next b i)

      residuals : (v : ℕ → ℚ) (i : ℕ) → residual_for p next b v i ≡ residual_for p at a v i -ℚ ((c i *ℚ inverse (c r)) *ℚ residual_for p at a v r)
      residuals = residual_next p at next a b j r basis after ex lj some

      out_at : IsOutside p.columns at r
      out_at = outside_from p at a basis r out_r

      -- the rows by position
      next_other : (k : ℕ) → k < p.columns → k ≢ j → next k ≡ at k
      next_other k lk other = ex k lk ∙ if-other k j r (at k) other

      pub next_same : next j ≡ r
      next_same = ex j lj ∙ if-same j j r (at j) refl

      -- rows outside after it
      pub stays_out : (i : ℕ) → IsOutside p.columns at i → i ≢ r → IsOutside p.columns next i
      stays_out i out other =
          record {
            apart = after.distinct.apart;
            outside = λ k lk e. by k lk e (k == j) refl;
          }
        where
          by : (k : ℕ) → k < p.columns → next k ≡ i → (t : Bool) → (k == j) ≡ t → ⊥
          by k lk e true h = other (sym e ∙ ap next (eqb-true k j h) ∙ next_same)
          by k lk e false h = out.outside k lk (sym (next_other k lk (eqb-false k j h)) ∙ e)

      left_out : IsOutside p.columns next (at j)
      left_out =
          record {
            apart = after.distinct.apart;
            outside = λ k lk e. by k lk e (k == j) refl;
          }
        where
          differ : (k : ℕ) → k < p.columns → k ≢ j → at k ≢ at j
          differ k lk other e = cases (cases_lt k j) (cases_lt j k)
            where
              cases : (k < j) ⊎ (j ≤ k) → (j < k) ⊎ (k ≤ j) → ⊥
              cases (inl l) o = basis.distinct.apart k j l lj e
              cases (inr g) (inl l) = basis.distinct.apart j k l lk (sym e)
              cases (inr g) (inr h) = other (omega arith)

          by : (k : ℕ) → k < p.columns → next k ≡ at j → (t : Bool) → (k == j) ≡ t → ⊥
          by k lk e true h = out_at.outside j lj (sym e ∙ ap next (eqb-true k j h) ∙ next_same)
          by k lk e false h = differ k lk (eqb-false k j h) (sym (next_other k lk (eqb-false k j h)) ∙ e)

      -- each perturbed residual gains a multiple of the ratio of the entering row
      gained : (i : ℕ) → IsOutside p.columns at i → i ≢ r → (m : ℕ) → entries_next i m ≡ entries i m +ℚ (change p at a j d i *ℚ ratios r m)
      gained i out other m =
          perturbed_is p next b i (stays_out i out other) m
          ∙ residuals (response p m) i
          ∙ ap₂ (λ x y. x -ℚ ((c i *ℚ inverse (c r)) *ℚ y)) (sym (perturbed_is p at a i out m)) (sym (perturbed_is p at a r out_at m))
          ∙ ap (λ z. entries i m -ℚ (z *ℚ entries r m)) (changes d i)
          ∙ ring_ℚ (entries i m ∷ change p at a j d i ∷ inverse (change p at a j d r) ∷ entries r m ∷ []) (v0 ⊟ (v1 ⊠ v2) ⊠ v3) (v0 ⊞ v1 ⊠ negated (v3 ⊠ v2)) refl
          ∙ ap (λ z. entries i m +ℚ (change p at a j d i *ℚ z)) (sym (ratio_is m))

      sign_same : (i : ℕ) → i < p.rows → IsOutside p.columns at i → i ≢ r → (moves p at a j d i ≡ true → is_before p at a j r i ≡ true) → sign p next b i ≡ sign p at a i
      sign_same i li out other later =
          lex_cmp-same (suc p.rows) (entries_next i) (λ m. entries i m +ℚ (change p at a j d i *ℚ ratios r m)) zeros (gained i out other)
          ∙ sign_kept (suc p.rows) (entries i) (ratios r) (change p at a j d i) ratio_positive above below (not_zero p.rows p.columns at (outside_row p at a i) li)
        where
          test : is_basic p at a i ≡ false
          test = outside_test p at a basis i out

          first_of : moves p at a j d i ≡ true → lex_cmp (suc p.rows) (ratios r) (ratios i) ≡ Less
          first_of h = is_less (lex_cmp (suc p.rows) (ratios r) (ratios i)) (later h)

          above : sign p at a i ≡ Greater → change p at a j d i <ℚ whole (pos 0) → lex_cmp (suc p.rows) (ratios r) (λ m. entries i m *ℚ inverse (neg_ℚ (change p at a j d i))) ≡ Less
          above e h =
              subst (λ u. lex_cmp (suc p.rows) (ratios r) u ≡ Less)
              (λ s. λ m. (ratio_above i e m ∙ ap (λ z. entries i m *ℚ inverse z) (abs_falling d i h)) s) (first_of (moves_above i test e h))

          below : sign p at a i ≡ Less → whole (pos 0) <ℚ change p at a j d i → lex_cmp (suc p.rows) (ratios r) (λ m. neg_ℚ (entries i m *ℚ inverse (change p at a j d i))) ≡ Less
          below e h =
              subst (λ u. lex_cmp (suc p.rows) (ratios r) u ≡ Less)
              (λ s. λ m. (ratio_below i e m ∙ ap (λ z. neg_ℚ (entries i m *ℚ inverse z)) (abs_rising d i h)) s) (first_of (moves_below i test e h))

      -- a row that stays outside has its side
      pub side_same : (i : ℕ) → i < p.rows → IsOutside p.columns at i → i ≢ r → (moves p at a j d i ≡ true → is_before p at a j r i ≡ true) → side_at p next b i ≡ side_at p at a i
      side_same i li out other later =
          side_outside p next b i (outside_test p next b after i (stays_out i out other))
          ∙ ap side_of (sign_same i li out other later)
          ∙ sym (side_outside p at a i (outside_test p at a basis i out))

      -- the row that leaves
      left_entries : (m : ℕ) → entries_next (at j) m ≡ neg_ℚ (inverse (c r) *ℚ entries r m)
      left_entries m =
          perturbed_is p next b (at j) left_out m
          ∙ residuals (response p m) (at j)
          ∙ ap₂ (λ x y. x -ℚ ((y *ℚ inverse (c r)) *ℚ residual_for p at a (response p m) r)) (residual_own p at a basis (response p m) j lj) (coord_own p at a basis j j lj lj ∙ if-same j j (whole (pos 1)) (whole (pos 0)) refl)
          ∙ ap (λ z. whole (pos 0) -ℚ ((whole (pos 1) *ℚ inverse (c r)) *ℚ z)) (sym (perturbed_is p at a r out_at m))
          ∙ ring_ℚ (inverse (c r) ∷ entries r m ∷ []) (number (pos 0) ⊟ (number (pos 1) ⊠ v0) ⊠ v1) (negated (v0 ⊠ v1)) refl

      left_by : (e : Direction) → ((m : ℕ) → ratios r m ≡ neg_ℚ (entries r m *ℚ inverse (change p at a j e r))) → side_of (sign p next b (at j)) ≡ side_towards e
      left_by Upward h =
          ap side_of (lex_cmp-same (suc p.rows) (entries_next (at j)) (ratios r) zeros
          (λ m. left_entries m ∙ ring_ℚ (inverse (c r) ∷ entries r m ∷ []) (negated (v0 ⊠ v1)) (negated (v1 ⊠ v0)) refl ∙ sym (h m)) ∙ ratio_positive)
      left_by Downward h =
          ap side_of (lex_cmp-same (suc p.rows) (entries_next (at j)) (λ m. neg_ℚ (ratios r m)) zeros
          (λ m. left_entries m ∙ ring_ℚ (inverse (c r) ∷ entries r m ∷ []) (negated (v0 ⊠ v1)) (negated (negated (v1 ⊠ negated v0))) refl
          ∙ ap (λ z. neg_ℚ (neg_ℚ (entries r m *ℚ z))) (sym (inverse-neg (c r))) ∙ ap neg_ℚ (sym (h m)))
          ∙ sign_negated (suc p.rows) (ratios r) ∙ ap ordering_reverse ratio_positive)

      pub side_left : side_at p next b (at j) ≡ side_towards d
      side_left = side_outside p next b (at j) (outside_test p next b after (at j) left_out) ∙ left_by d ratio_is

      -- a row that stays in the basis is in it
      pub stays_in : (i : ℕ) → is_basic p at a i ≡ true → i ≢ at j → is_basic p next b i ≡ true
      stays_in i e other =
          let place : (k : ℕ) × (k < p.columns) × (at k ≡ i) = among_place at p.columns i e in
          let apart : place.0 ≢ j = λ h. other (sym place.2 ∙ ap at h) in
          ap (is_basic p next b) (sym (next_other place.0 place.1 apart ∙ place.2)) ∙ among_at next p.columns place.0 place.1

      pub sides_stay : (i : ℕ) → i < p.rows → i ≢ r → i ≢ at j → (moves p at a j d i ≡ true → is_before p at a j r i ≡ true) → side_at p next b i ≡ side_at p at a i
      sides_stay i li other left later = by (is_basic p at a i) refl
        where
          by : (t : Bool) → is_basic p at a i ≡ t → side_at p next b i ≡ side_at p at a i
          by true e = side_basic p next b i (stays_in i e left) ∙ sym (side_basic p at a i e)
          by false e = side_same i li (outside_from p at a basis i e) other later
