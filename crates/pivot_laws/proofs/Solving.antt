-- What a solving step improves. At the ratio of the row that enters the perturbed loss has changed by the
-- slope times that ratio, and by what each row that was passed adds to the slope, times how far it was
-- passed. So it falls by a positive multiple of the ratio, and by multiples of the ratios passed.
use Rattle.std.specs.Prelude.{◌≡◌, ◌≢◌, ◌⊎◌, ℕ, zero, suc, ◌<◌, ◌≤◌, Bool, true, false, ◌==◌, ◌&&◌, if◌then◌else◌, [], ◌∷◌, pos, negsuc}
use Rattle.std.specs.Ordering.{ordering_reverse}
use Rattle.std.specs.declared.cmp.Ordering.TheVariants.{Less, Greater}
use Rattle.std.proofs.Common.{arith, refl, sym, ap, ap₂, subst, ◌∙◌, inl, inr}
use Rattle.std.proofs.lemmas.Bool.{and_parts}
use borrow.Author.Tests.{eqb-true, eqb-false}
use Rattle.rational_laws.specs.Solver.{var, number, negated, ◌⊞◌, ◌⊟◌, ◌⊠◌, v0, v1, v2, v3, v4, v5}
use Rattle.rational_laws.specs.Rational.{ℚ, ◌+ℚ◌, ◌-ℚ◌, ◌*ℚ◌, neg_ℚ, inverse, whole, ◌≤ℚ◌}
use Rattle.rational_laws.proofs.RationalLaws.{ring_ℚ, ring_by_ℚ, *ℚ-inverse}
use Rattle.rational_laws.specs.RationalSums.{sum_ℚ}
use Rattle.rational_laws.proofs.RationalSumLaws.{sum_ℚ-same, sum_ℚ-zero, sum_ℚ-add, sum_ℚ-mix}
use Rattle.rational_laws.proofs.Inverses.{inverse-neg}
use Rattle.rational_laws.proofs.OrderLaws.{by_cmp}
use Rattle.rational_laws.proofs.Signs.{sum_not_negative, product_not_negative}
use Rattle.rational_laws.proofs.TermLaws.{if-same, sum_ℚ-replaced}
use Rattle.loss_model.specs.declared.vertex.Side.{Side}
use Rattle.loss_model.specs.declared.vertex.Side.TheVariants.{Up, Down, Basic}
use Rattle.loss_model.specs.Sample.{Sample, up_cost, down_cost}
use Rattle.loss_model.specs.Spill.{abs_ℚ}
use Rattle.loss_model.specs.Vertex.{value_of_side}
use Rattle.basis_model.specs.Lexicographic.{lex_cmp}
use Rattle.basis_model.proofs.LexicographicLaws.{lex_cmp_swap, less-trans}
use Rattle.basis_model.specs.Perturbed.{zeros, side_of}
use Rattle.basis_model.proofs.Ratios.{abs_not_negative}
use Rattle.basis_model.proofs.Signs.{lex_cmp-same}
use Rattle.pivot_model.specs.declared.direction.Direction.{Direction}
use Rattle.pivot_model.specs.declared.direction.Direction.TheVariants.{Upward, Downward}
use Rattle.basis_model.specs.Basis.{IsBasis, coord, side_at, dual_value}
use Rattle.basis_model.specs.PerturbedLoss.{perturbed_loss}
use Rattle.pivot_model.specs.Duals.{HasCosts, ◌<ℚ◌}
use Rattle.pivot_model.specs.Steps.{slope, change, moves, is_before, passing, slope_before, IsEntering}
use Rattle.pivot_model.specs.Responses.{residual_for, response}
use Rattle.pivot_model.proofs.Among.{among_at}
use Rattle.pivot_model.proofs.Bounds.{is_basic, bound, dual_is}
use Rattle.pivot_model.proofs.Exchanged.{perturbed_is}
use Rattle.pivot_model.proofs.Passing.{no, mover_some, mover_outside, mover_order}
use Rattle.pivot_model.proofs.Sides.{side_basic, side_outside}
use Rattle.walk_model.specs.Walks.{side_towards, AreExchanged}
use Rattle.walk_model.proofs.Lines.{le_by}
use Rattle.walk_model.proofs.Lists.{cmp_by, lex_cmp-by, sign_scaled}
use Rattle.walk_model.proofs.Exchanges.{residual_next, coord_own, residual_own, outside_from}
use Rattle.walk_model.proofs.Improved.{price, priced, sum_is}
use Rattle.walk_model.proofs.Moved.{ratios, ratio_positive, ratio_is, next_same, side_left, sides_stay, stays_out}
use Rattle.pivot_laws.proofs.Passed.{IsKnown, known, entries_after, side_down, side_up}

-- a sum of positive lists is positive
sum_above : (n : ℕ) (u v : ℕ → ℚ) → lex_cmp n u zeros ≡ Greater → lex_cmp n v zeros ≡ Greater → lex_cmp n (λ m. u m +ℚ v m) zeros ≡ Greater
sum_above n u v h k =
    lex_cmp_swap n zeros (λ m. u m +ℚ v m)
    ∙ ap ordering_reverse (less-trans n zeros v (λ m. u m +ℚ v m) (lex_cmp_swap n v zeros ∙ ap ordering_reverse k)
    (lex_cmp-by n v (λ m. u m +ℚ v m) zeros u (λ m. cmp_by (v m) (u m +ℚ v m) (whole (pos 0)) (u m) (ring_ℚ (u m ∷ v m ∷ []) ((v0 ⊞ v1) ⊟ v1) (v0 ⊟ number (pos 0)) refl))
    ∙ lex_cmp_swap n u zeros ∙ ap ordering_reverse h))

module _ (p : Sample) (at next : ℕ → ℕ) (a b : ℕ → ℕ → ℚ) (theta : ℚ) (j r : ℕ) (d : Direction) (basis : IsBasis p at a) (after : IsBasis p next b) (ex : AreExchanged p.columns at next j r) (lj : j < p.columns)
    (enters : IsEntering p at a theta j d r) where
  abbrev c : ℕ → ℚ
  c i = coord p a i j

  abbrev cr : ℚ
  cr = coord p a r j

  nonzero : cr ≢ whole (pos 0)
  nonzero = mover_some p at a j d r enters.mover

  abbrev u : ℕ → ℚ
  u = up_cost p theta

  abbrev w : ℕ → ℚ
  w = down_cost p theta

  abbrev old : ℕ → ℚ
  old = priced p at a basis u w

  abbrev new : ℕ → ℚ
  new = priced p next b after u w

  abbrev R : ℕ → ℕ → ℚ
  R m i = residual_for p at a (response p m) i

  abbrev R' : ℕ → ℕ → ℚ
  R' m i = residual_for p next b (response p m) i

  abbrev ρ : ℕ → ℕ → ℚ
  ρ = ratios p at a basis j d

  abbrev left : ℚ
  left = price p at a basis u w (at j) (side_towards d)

  abbrev q : ℕ → ℚ
  q m = R m r *ℚ inverse cr

  abbrev is_passed : ℕ → Bool
  is_passed i = moves p at a j d i && is_before p at a j i r

  abbrev t : ℕ → ℚ
  t i = if is_passed i then passing p at a theta j i else whole (pos 0)

  -- ---- a row

  moved : (m i : ℕ) → R' m i ≡ R m i -ℚ ((c i *ℚ inverse cr) *ℚ R m r)
  moved m i = residual_next p at next a b j r basis after ex lj nonzero (response p m) i

  price_same : (i : ℕ) (s : Side) → price p next b after u w i s ≡ price p at a basis u w i s
  price_same i Up = refl
  price_same i Down = refl
  price_same i Basic = refl

  new_is : (i : ℕ) (s : Side) → side_at p next b i ≡ s → new i ≡ price p at a basis u w i s
  new_is i s e = ap (price p next b after u w i) e ∙ price_same i s

  old_is : (i : ℕ) (s : Side) → side_at p at a i ≡ s → old i ≡ price p at a basis u w i s
  old_is i s e = ap (price p at a basis u w i) e

  zero_times : (x : ℚ) → whole (pos 0) *ℚ x ≡ whole (pos 0)
  zero_times x = ring_ℚ (x ∷ []) (number (pos 0) ⊠ v0) (number (pos 0)) refl

  -- what a row gives after the exchange
  abbrev given : Bool → ℕ → ℕ → ℚ
  given here m i = ((whole (pos 1) *ℚ (old i *ℚ R m i)) +ℚ (neg_ℚ (q m) *ℚ (old i *ℚ c i)))
      +ℚ ((if here then neg_ℚ (left *ℚ q m) else whole (pos 0)) +ℚ ((ρ r m *ℚ t i) +ℚ (whole (negsuc 0) *ℚ (t i *ℚ ρ i m))))

  t_none : (i : ℕ) → is_passed i ≡ false → t i ≡ whole (pos 0)
  t_none i e = ap (λ b. if b then passing p at a theta j i else whole (pos 0)) e

  t_all : (i : ℕ) → is_passed i ≡ true → t i ≡ passing p at a theta j i
  t_all i e = ap (λ b. if b then passing p at a theta j i else whole (pos 0)) e

  not_mover : (i : ℕ) → is_basic p at a i ≡ true → is_passed i ≡ false
  not_mover i e = by (is_passed i) refl
    where
      by : (s : Bool) → is_passed i ≡ s → is_passed i ≡ false
      by true h = absurd (no (sym e ∙ mover_outside p at a j d i (and_parts (moves p at a j d i) (is_before p at a j i r) h).0))
      by false h = h

  -- the row that leaves
  leaves : (m : ℕ) → new (at j) *ℚ R' m (at j) ≡ given true m (at j)
  leaves m =
      ap₂ (λ x y. x *ℚ y) (new_is (at j) (side_towards d) (side_left p at a basis j d r enters.row enters.mover next b after ex lj))
      (moved m (at j) ∙ ap₂ (λ x y. x -ℚ ((y *ℚ inverse cr) *ℚ R m r)) (residual_own p at a basis (response p m) j lj) (coord_own p at a basis j j lj lj ∙ if-same j j (whole (pos 1)) (whole (pos 0)) refl))
      ∙ ring_ℚ (left ∷ inverse cr ∷ R m r ∷ R m (at j) ∷ c (at j) ∷ ρ r m ∷ ρ (at j) m ∷ [])
      (v0 ⊠ (number (pos 0) ⊟ (number (pos 1) ⊠ v1) ⊠ v2))
      ((number (pos 1) ⊠ (number (pos 0) ⊠ v3) ⊞ negated (v2 ⊠ v1) ⊠ (number (pos 0) ⊠ v4)) ⊞ (negated (v0 ⊠ (v2 ⊠ v1)) ⊞ (v5 ⊠ number (pos 0) ⊞ number (negsuc 0) ⊠ (number (pos 0) ⊠ var 6)))) refl
      ∙ ap₂ (λ x y. ((whole (pos 1) *ℚ (x *ℚ R m (at j))) +ℚ (neg_ℚ (q m) *ℚ (x *ℚ c (at j)))) +ℚ (neg_ℚ (left *ℚ q m) +ℚ ((ρ r m *ℚ y) +ℚ (whole (negsuc 0) *ℚ (y *ℚ ρ (at j) m)))))
      (sym (old_is (at j) Basic (side_basic p at a (at j) basic))) (sym (t_none (at j) (not_mover (at j) basic)))
    where
      basic : is_basic p at a (at j) ≡ true
      basic = among_at at p.columns j lj

  -- the row that enters
  entered : (m : ℕ) → new r *ℚ R' m r ≡ given false m r
  entered m =
      ap (λ z. z *ℚ R' m r) (new_is r Basic (side_basic p next b r (ap (is_basic p next b) (sym (next_same p at a basis j d r enters.row enters.mover next b after ex lj)) ∙ among_at next p.columns j lj)))
      ∙ zero_times (R' m r)
      ∙ ring_by_ℚ (old r ∷ R m r ∷ cr ∷ inverse cr ∷ t r ∷ ρ r m ∷ []) (number (pos 0))
      ((number (pos 1) ⊠ (v0 ⊠ v1) ⊞ negated (v1 ⊠ v3) ⊠ (v0 ⊠ v2)) ⊞ (number (pos 0) ⊞ (v5 ⊠ v4 ⊞ number (negsuc 0) ⊠ (v4 ⊠ v5))))
      (v0 ⊠ v1) (v2 ⊠ v3) (number (pos 1)) refl (*ℚ-inverse cr nonzero)

  -- a row that stays where it is
  stays : (i : ℕ) → side_at p next b i ≡ side_at p at a i → is_passed i ≡ false → (m : ℕ) → new i *ℚ R' m i ≡ given false m i
  stays i same none m =
      ap₂ (λ x y. x *ℚ y) (new_is i (side_at p at a i) same) (moved m i)
      ∙ ring_ℚ (old i ∷ R m i ∷ c i ∷ inverse cr ∷ R m r ∷ ρ r m ∷ ρ i m ∷ [])
      (v0 ⊠ (v1 ⊟ (v2 ⊠ v3) ⊠ v4))
      ((number (pos 1) ⊠ (v0 ⊠ v1) ⊞ negated (v4 ⊠ v3) ⊠ (v0 ⊠ v2)) ⊞ (number (pos 0) ⊞ (v5 ⊠ number (pos 0) ⊞ number (negsuc 0) ⊠ (number (pos 0) ⊠ var 6)))) refl
      ∙ ap (λ y. ((whole (pos 1) *ℚ (old i *ℚ R m i)) +ℚ (neg_ℚ (q m) *ℚ (old i *ℚ c i))) +ℚ (whole (pos 0) +ℚ ((ρ r m *ℚ y) +ℚ (whole (negsuc 0) *ℚ (y *ℚ ρ i m))))) (sym (t_none i none))

  -- a row that is passed
  module _ (i : ℕ) (li : i < p.rows) (mover : moves p at a j d i ≡ true) (earlier : is_before p at a j i r ≡ true) (other : i ≢ r) where
    out : is_basic p at a i ≡ false
    out = mover_outside p at a j d i mover

    residual_after : (m : ℕ) → R' m i ≡ change p at a j d i *ℚ (ρ r m -ℚ ρ i m)
    residual_after m =
        sym (perturbed_is p next b i (stays_out p at a basis j d r enters.row enters.mover next b after ex lj i (outside_from p at a basis i out) other) m)
        ∙ entries_after p at a basis j d i li mover r enters.row enters.mover next b after ex lj other m

    -- with prices before and after, and how far the price moves over the change
    turned_by : (x y g : ℚ) → old i ≡ x → new i ≡ y → ((y -ℚ x) *ℚ change p at a j d i) ≡ g → (m : ℕ)
        → new i *ℚ R' m i ≡ ((whole (pos 1) *ℚ (old i *ℚ R m i)) +ℚ (neg_ℚ (q m) *ℚ (old i *ℚ c i))) +ℚ (whole (pos 0) +ℚ ((ρ r m *ℚ g) +ℚ (whole (negsuc 0) *ℚ (g *ℚ ρ i m))))
    turned_by x y g ex ey eg m =
        ap (λ z. z *ℚ R' m i) ey
        ∙ ring_ℚ (x ∷ y ∷ R' m i ∷ []) (v1 ⊠ v2) (v0 ⊠ v2 ⊞ (v1 ⊟ v0) ⊠ v2) refl
        ∙ ap₂ (λ v z. (x *ℚ v) +ℚ ((y -ℚ x) *ℚ z)) (moved m i) (residual_after m)
        ∙ ring_ℚ (x ∷ R m i ∷ c i ∷ inverse cr ∷ R m r ∷ ((y -ℚ x) *ℚ change p at a j d i) ∷ ρ r m ∷ ρ i m ∷ (y -ℚ x) ∷ change p at a j d i ∷ [])
        (v0 ⊠ (v1 ⊟ (v2 ⊠ v3) ⊠ v4) ⊞ var 8 ⊠ (var 9 ⊠ (var 6 ⊟ var 7)))
        ((number (pos 1) ⊠ (v0 ⊠ v1) ⊞ negated (v4 ⊠ v3) ⊠ (v0 ⊠ v2)) ⊞ (number (pos 0) ⊞ (var 6 ⊠ (var 8 ⊠ var 9) ⊞ number (negsuc 0) ⊠ ((var 8 ⊠ var 9) ⊠ var 7)))) refl
        ∙ ap₂ (λ x g. ((whole (pos 1) *ℚ (x *ℚ R m i)) +ℚ (neg_ℚ (q m) *ℚ (x *ℚ c i))) +ℚ (whole (pos 0) +ℚ ((ρ r m *ℚ g) +ℚ (whole (negsuc 0) *ℚ (g *ℚ ρ i m))))) (sym ex) eg

    passed : (m : ℕ) → new i *ℚ R' m i ≡ ((whole (pos 1) *ℚ (old i *ℚ R m i)) +ℚ (neg_ℚ (q m) *ℚ (old i *ℚ c i))) +ℚ (whole (pos 0) +ℚ ((ρ r m *ℚ passing p at a theta j i) +ℚ (whole (negsuc 0) *ℚ (passing p at a theta j i *ℚ ρ i m))))
    passed = by (known p at a basis j d i li mover)
      where
        by : IsKnown p at a basis j d i li mover
            → (m : ℕ) → new i *ℚ R' m i ≡ ((whole (pos 1) *ℚ (old i *ℚ R m i)) +ℚ (neg_ℚ (q m) *ℚ (old i *ℚ c i))) +ℚ (whole (pos 0) +ℚ ((ρ r m *ℚ passing p at a theta j i) +ℚ (whole (negsuc 0) *ℚ (passing p at a theta j i *ℚ ρ i m))))
        by (inl h) =
            turned_by (u i) (neg_ℚ (w i)) (passing p at a theta j i)
            (old_is i Up (side_outside p at a i out ∙ ap side_of h.0))
            (new_is i Down (side_down p at a basis j d i li mover r enters.row enters.mover next b after ex lj other earlier h.1))
            (ring_ℚ (u i ∷ w i ∷ change p at a j d i ∷ []) ((negated v1 ⊟ v0) ⊠ v2) (negated v2 ⊠ (v0 ⊞ v1)) refl ∙ ap (λ z. z *ℚ (u i +ℚ w i)) (sym h.2))
        by (inr h) =
            turned_by (neg_ℚ (w i)) (u i) (passing p at a theta j i)
            (old_is i Down (side_outside p at a i out ∙ ap side_of h.0))
            (new_is i Up (side_up p at a basis j d i li mover r enters.row enters.mover next b after ex lj other earlier h.1))
            (ring_ℚ (u i ∷ w i ∷ change p at a j d i ∷ []) ((v0 ⊟ negated v1) ⊠ v2) (v2 ⊠ (v0 ⊞ v1)) refl ∙ ap (λ z. z *ℚ (u i +ℚ w i)) (sym h.2))

  each : (m i : ℕ) → i < p.rows → new i *ℚ R' m i ≡ given (i == at j) m i
  each m i li = by (i == at j) refl (i == r) refl (is_passed i) refl
    where
      by : (e : Bool) → (i == at j) ≡ e → (f : Bool) → (i == r) ≡ f → (g : Bool) → is_passed i ≡ g → new i *ℚ R' m i ≡ given e m i
      by true h f k g l = let here : i ≡ at j = eqb-true i (at j) h in subst (λ i. new i *ℚ R' m i ≡ given true m i) (sym here) (leaves m)
      by false h true k g l = let here : i ≡ r = eqb-true i r k in subst (λ i. new i *ℚ R' m i ≡ given false m i) (sym here) (entered m)
      by false h false k true l =
          let two : (moves p at a j d i ≡ true) × (is_before p at a j i r ≡ true) = and_parts (moves p at a j d i) (is_before p at a j i r) l in
          passed i li two.0 two.1 (eqb-false i r k) m
          ∙ ap (λ y. ((whole (pos 1) *ℚ (old i *ℚ R m i)) +ℚ (neg_ℚ (q m) *ℚ (old i *ℚ c i))) +ℚ (whole (pos 0) +ℚ ((ρ r m *ℚ y) +ℚ (whole (negsuc 0) *ℚ (y *ℚ ρ i m))))) (sym (t_all i l))
      by false h false k false l =
          stays i (sides_stay p at a basis j d r enters.row enters.mover next b after ex lj i li (eqb-false i r k) (eqb-false i (at j) h) later) l m
        where
          later : moves p at a j d i ≡ true → is_before p at a j r i ≡ true
          later mover = at_last (mover_order p at a j basis d i r li mover (eqb-false i r k))
            where
              at_last : (is_before p at a j i r ≡ true) ⊎ (is_before p at a j r i ≡ true) → is_before p at a j r i ≡ true
              at_last (inl s) = absurd (no (sym (ap₂ (λ x y. x && y) mover s) ∙ l))
              at_last (inr s) = s

  -- ---- all rows

  balance : sum_ℚ p.rows (λ i. old i *ℚ c i) ≡ neg_ℚ (dual_value p at a theta j)
  balance =
      sum_ℚ-same p.rows (λ i. old i *ℚ c i) (λ i. bound p at a theta i *ℚ c i) (λ i li. ap (λ z. z *ℚ c i) (same i (side_at p at a i)))
      ∙ ring_ℚ (sum_ℚ p.rows (λ i. bound p at a theta i *ℚ c i) ∷ []) v0 (negated (negated v0)) refl ∙ ap neg_ℚ (sym (dual_is p at a theta j))
    where
      same : (i : ℕ) (s : Side) → price p at a basis u w i s ≡ value_of_side p theta (λ i. whole (pos 0)) i s
      same i Up = refl
      same i Down = refl
      same i Basic = refl

  -- the slope times the ratio
  along : (m : ℕ) → (neg_ℚ (q m) *ℚ neg_ℚ (dual_value p at a theta j)) +ℚ neg_ℚ (left *ℚ q m) ≡ slope p at a theta j d *ℚ ρ r m
  along m =
      by d (ratio_is p at a basis j d r enters.row enters.mover m
      ∙ ap (λ z. neg_ℚ (z *ℚ inverse (change p at a j d r))) (perturbed_is p at a r (outside_from p at a basis r (mover_outside p at a j d r enters.mover)) m))
    where
      by : (e : Direction) → ρ r m ≡ neg_ℚ (R m r *ℚ inverse (change p at a j e r)) → (neg_ℚ (q m) *ℚ neg_ℚ (dual_value p at a theta j)) +ℚ neg_ℚ (price p at a basis u w (at j) (side_towards e) *ℚ q m) ≡ slope p at a theta j e *ℚ ρ r m
      by Upward h = ring_ℚ (q m ∷ dual_value p at a theta j ∷ u (at j) ∷ []) (negated v0 ⊠ negated v1 ⊞ negated (v2 ⊠ v0)) ((v2 ⊟ v1) ⊠ negated v0) refl ∙ ap (λ z. slope p at a theta j Upward *ℚ z) (sym h)
      by Downward h =
          ring_ℚ (R m r ∷ inverse cr ∷ dual_value p at a theta j ∷ w (at j) ∷ []) (negated (v0 ⊠ v1) ⊠ negated v2 ⊞ negated (negated v3 ⊠ (v0 ⊠ v1))) ((v3 ⊞ v2) ⊠ negated (v0 ⊠ negated v1)) refl
          ∙ ap (λ z. slope p at a theta j Downward *ℚ neg_ℚ (R m r *ℚ z)) (sym (inverse-neg cr)) ∙ ap (λ z. slope p at a theta j Downward *ℚ z) (sym h)

  abbrev gone : ℕ → ℚ
  gone m = sum_ℚ p.rows (λ i. t i *ℚ ρ i m)

  pub loss_after : (m : ℕ) → perturbed_loss p next b theta m ≡ (perturbed_loss p at a theta m +ℚ (slope_before p at a theta j d r *ℚ ρ r m)) -ℚ gone m
  loss_after m =
      sum_is p next b after u w m
      ∙ sum_ℚ-same p.rows (λ i. new i *ℚ R' m i) (λ i. given (i == at j) m i) (each m)
      ∙ sum_ℚ-add p.rows (λ i. (whole (pos 1) *ℚ (old i *ℚ R m i)) +ℚ (neg_ℚ (q m) *ℚ (old i *ℚ c i))) (λ i. (if i == at j then neg_ℚ (left *ℚ q m) else whole (pos 0)) +ℚ ((ρ r m *ℚ t i) +ℚ (whole (negsuc 0) *ℚ (t i *ℚ ρ i m))))
      ∙ ap₂ (λ x y. x +ℚ y)
      (sum_ℚ-mix p.rows (whole (pos 1)) (neg_ℚ (q m)) (λ i. old i *ℚ R m i) (λ i. old i *ℚ c i) ∙ ap₂ (λ x y. (whole (pos 1) *ℚ x) +ℚ (neg_ℚ (q m) *ℚ y)) (sym (sum_is p at a basis u w m)) balance)
      (sum_ℚ-add p.rows (λ i. if i == at j then neg_ℚ (left *ℚ q m) else whole (pos 0)) (λ i. (ρ r m *ℚ t i) +ℚ (whole (negsuc 0) *ℚ (t i *ℚ ρ i m)))
      ∙ ap₂ (λ x y. x +ℚ y) one (sum_ℚ-mix p.rows (ρ r m) (whole (negsuc 0)) t (λ i. t i *ℚ ρ i m)))
      ∙ ring_ℚ (perturbed_loss p at a theta m ∷ (neg_ℚ (q m) *ℚ neg_ℚ (dual_value p at a theta j)) ∷ neg_ℚ (left *ℚ q m) ∷ ρ r m ∷ sum_ℚ p.rows t ∷ gone m ∷ [])
      ((number (pos 1) ⊠ v0 ⊞ v1) ⊞ (v2 ⊞ (v3 ⊠ v4 ⊞ number (negsuc 0) ⊠ v5))) ((v0 ⊞ ((v1 ⊞ v2) ⊞ v3 ⊠ v4)) ⊟ v5) refl
      ∙ ap (λ z. (perturbed_loss p at a theta m +ℚ (z +ℚ (ρ r m *ℚ sum_ℚ p.rows t))) -ℚ gone m) (along m)
      ∙ ring_ℚ (perturbed_loss p at a theta m ∷ slope p at a theta j d ∷ ρ r m ∷ sum_ℚ p.rows t ∷ gone m ∷ [])
      ((v0 ⊞ (v1 ⊠ v2 ⊞ v2 ⊠ v3)) ⊟ v4) ((v0 ⊞ (v1 ⊞ v3) ⊠ v2) ⊟ v4) refl
    where
      one : sum_ℚ p.rows (λ i. if i == at j then neg_ℚ (left *ℚ q m) else whole (pos 0)) ≡ neg_ℚ (left *ℚ q m)
      one =
          sum_ℚ-replaced p.rows (at j) (λ i. whole (pos 0)) (λ i. neg_ℚ (left *ℚ q m)) (basis.distinct.within j lj)
          ∙ ap (λ z. (z -ℚ whole (pos 0)) +ℚ neg_ℚ (left *ℚ q m)) (sum_ℚ-zero p.rows)
          ∙ ring_ℚ (neg_ℚ (left *ℚ q m) ∷ []) ((number (pos 0) ⊟ number (pos 0)) ⊞ v0) v0 refl

  -- ---- it falls

  abbrev fall : ℕ → ℕ → ℚ
  fall k m = (neg_ℚ (slope_before p at a theta j d r) *ℚ ρ r m) +ℚ sum_ℚ k (λ i. t i *ℚ ρ i m)

  steep : whole (pos 0) <ℚ neg_ℚ (slope_before p at a theta j d r)
  steep h =
      enters.still (le_by (neg_ℚ (slope_before p at a theta j d r)) (whole (pos 0)) (whole (pos 0)) (slope_before p at a theta j d r) h
      (ring_ℚ (slope_before p at a theta j d r ∷ []) (number (pos 0) ⊟ negated v0) (v0 ⊟ number (pos 0)) refl))

  module _ (costs : HasCosts p theta) where
    falls : (k : ℕ) → k ≤ p.rows → lex_cmp (suc p.rows) (fall k) zeros ≡ Greater
    falls zero lk =
        lex_cmp-same (suc p.rows) (fall zero) (λ m. neg_ℚ (slope_before p at a theta j d r) *ℚ ρ r m) zeros (λ m. ring_ℚ ((neg_ℚ (slope_before p at a theta j d r) *ℚ ρ r m) ∷ []) (v0 ⊞ number (pos 0)) v0 refl)
        ∙ sign_scaled (suc p.rows) (neg_ℚ (slope_before p at a theta j d r)) (ρ r) steep
        ∙ ratio_positive p at a basis j d r enters.row enters.mover
    falls (suc k) lk = by (is_passed k) refl (falls k (omega (arith, lk)))
      where
        inside : k < p.rows
        inside = omega (arith, lk)

        none : t k ≡ whole (pos 0) → lex_cmp (suc p.rows) (fall k) zeros ≡ Greater → lex_cmp (suc p.rows) (fall (suc k)) zeros ≡ Greater
        none e rest =
            lex_cmp-same (suc p.rows) (fall (suc k)) (fall k) zeros
            (λ m. ap (λ z. (neg_ℚ (slope_before p at a theta j d r) *ℚ ρ r m) +ℚ (sum_ℚ k (λ i. t i *ℚ ρ i m) +ℚ (z *ℚ ρ k m))) e
            ∙ ring_ℚ ((neg_ℚ (slope_before p at a theta j d r) *ℚ ρ r m) ∷ sum_ℚ k (λ i. t i *ℚ ρ i m) ∷ ρ k m ∷ []) (v0 ⊞ (v1 ⊞ number (pos 0) ⊠ v2)) (v0 ⊞ v1) refl)
            ∙ rest

        by : (s : Bool) → is_passed k ≡ s → lex_cmp (suc p.rows) (fall k) zeros ≡ Greater → lex_cmp (suc p.rows) (fall (suc k)) zeros ≡ Greater
        by false e rest = none (t_none k e) rest
        by true e rest =
            by_cmp (t k) (whole (pos 0)) (λ o. lex_cmp (suc p.rows) (fall (suc k)) zeros ≡ Greater)
            (λ h. absurd (h (subst (λ z. whole (pos 0) ≤ℚ z) (sym (t_all k e)) not_negative)))
            (λ h. none h rest)
            (λ h. lex_cmp-same (suc p.rows) (fall (suc k)) (λ m. fall k m +ℚ (t k *ℚ ρ k m)) zeros
            (λ m. ring_ℚ ((neg_ℚ (slope_before p at a theta j d r) *ℚ ρ r m) ∷ sum_ℚ k (λ i. t i *ℚ ρ i m) ∷ (t k *ℚ ρ k m) ∷ []) (v0 ⊞ (v1 ⊞ v2)) ((v0 ⊞ v1) ⊞ v2) refl)
            ∙ sum_above (suc p.rows) (fall k) (λ m. t k *ℚ ρ k m) rest (sign_scaled (suc p.rows) (t k) (ρ k) h ∙ ratio_positive p at a basis j d k inside two.0))
          where
            two : (moves p at a j d k ≡ true) × (is_before p at a j k r ≡ true)
            two = and_parts (moves p at a j d k) (is_before p at a j k r) e

            not_negative : whole (pos 0) ≤ℚ passing p at a theta j k
            not_negative = product_not_negative (abs_ℚ (c k)) (u k +ℚ w k) (abs_not_negative (c k)) (sum_not_negative (u k) (w k) (costs.up k inside) (costs.down k inside))

    pub loss_falls : lex_cmp (suc p.rows) (perturbed_loss p next b theta) (perturbed_loss p at a theta) ≡ Less
    loss_falls =
        lex_cmp-by (suc p.rows) (perturbed_loss p next b theta) (perturbed_loss p at a theta) zeros (fall p.rows)
        (λ m. cmp_by (perturbed_loss p next b theta m) (perturbed_loss p at a theta m) (whole (pos 0)) (fall p.rows m)
        (ap (λ z. perturbed_loss p at a theta m -ℚ z) (loss_after m)
        ∙ ring_ℚ (perturbed_loss p at a theta m ∷ slope_before p at a theta j d r ∷ ρ r m ∷ gone m ∷ []) (v0 ⊟ ((v0 ⊞ v1 ⊠ v2) ⊟ v3)) ((negated v1 ⊠ v2 ⊞ v3) ⊟ number (pos 0)) refl))
        ∙ lex_cmp_swap (suc p.rows) (fall p.rows) zeros
        ∙ ap ordering_reverse (falls p.rows (omega arith))
