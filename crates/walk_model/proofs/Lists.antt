-- Signs of lists: of multiples, sums and differences.
use Rattle.std.specs.Prelude.{◌≡◌, ◌≢◌, ℕ, zero, suc, [], ◌∷◌, pos, negsuc}
use Rattle.std.specs.Ordering.{ordering_then, ordering_reverse}
use Rattle.std.specs.declared.cmp.Ordering.{Ordering}
use Rattle.std.specs.declared.cmp.Ordering.TheVariants.{Less, Equal, Greater}
use Rattle.std.proofs.Common.{refl, sym, ap, ap₂, subst, ◌∙◌}
use Rattle.rational_laws.specs.Solver.{number, negated, ◌⊞◌, ◌⊟◌, ◌⊠◌, v0, v1, v2, v3}
use Rattle.rational_laws.specs.Rational.{ℚ, ◌+ℚ◌, ◌-ℚ◌, ◌*ℚ◌, neg_ℚ, inverse, whole, ◌≤ℚ◌}
use Rattle.rational_laws.proofs.RationalLaws.{ring_ℚ, ring_by_ℚ, ≤ℚ_refl, ≤ℚ_antisym, *ℚ-inverse}
use Rattle.rational_laws.proofs.Inverses.{inverse_nonzero}
use Rattle.rational_laws.specs.Order.{cmp_ℚ}
use Rattle.rational_laws.proofs.OrderLaws.{cmp_ℚ-Less, cmp_ℚ-Equal, cmp_ℚ-Greater, by_cmp, le_from_not, ≤ℚ-from_mul, inverse_not_negative}
use Rattle.pivot_model.specs.Lexicographic.{lex_cmp}
use Rattle.pivot_model.proofs.LexicographicLaws.{lex_cmp_swap, less-trans}
use Rattle.pivot_model.specs.Perturbed.{zeros}
use Rattle.pivot_model.proofs.Signs.{lex_cmp-same}
use Rattle.pivot_model.specs.Duals.{◌<ℚ◌}
use Rattle.walk_model.proofs.Lines.{le_by, positive_neg}

flipped : (x y z w : ℚ) → y -ℚ x ≡ w -ℚ z → x -ℚ y ≡ z -ℚ w
flipped x y z w e =
    ring_ℚ (x ∷ y ∷ []) (v0 ⊟ v1) (negated (v1 ⊟ v0)) refl ∙ ap neg_ℚ e ∙ ring_ℚ (z ∷ w ∷ []) (negated (v1 ⊟ v0)) (v0 ⊟ v1) refl

-- fractions with the same difference compare alike
pub cmp_by : (x y z w : ℚ) → y -ℚ x ≡ w -ℚ z → cmp_ℚ x y ≡ cmp_ℚ z w
cmp_by x y z w e =
    by_cmp x y (λ o. o ≡ cmp_ℚ z w)
    (λ h. sym ((cmp_ℚ-Less z w).1 (λ k. h (le_by w z y x k (flipped z w x y (sym e))))))
    (λ h. sym ((cmp_ℚ-Equal z w).1 (ring_by_ℚ (z ∷ w ∷ []) v0 v1 (number (negsuc 0)) (v1 ⊟ v0) (number (pos 0)) refl
    (sym e ∙ ap (λ q. y -ℚ q) h ∙ ring_ℚ (y ∷ []) (v0 ⊟ v0) (number (pos 0)) refl))))
    (λ h. sym ((cmp_ℚ-Greater z w).1 (λ k. h (le_by z w x y k (sym e)))))

-- a positive factor changes nothing
pub cmp_scaled : (c x y : ℚ) → whole (pos 0) <ℚ c → cmp_ℚ (c *ℚ x) (c *ℚ y) ≡ cmp_ℚ x y
cmp_scaled c x y above =
    sym (by_cmp x y (λ o. o ≡ cmp_ℚ (c *ℚ x) (c *ℚ y))
    (λ h. sym ((cmp_ℚ-Less (c *ℚ x) (c *ℚ y)).1 (λ k. h (≤ℚ-from_mul y x c above k))))
    (λ h. sym ((cmp_ℚ-Equal (c *ℚ x) (c *ℚ y)).1 (ap (λ z. c *ℚ z) h)))
    (λ h. sym ((cmp_ℚ-Greater (c *ℚ x) (c *ℚ y)).1 (λ k. h (≤ℚ-from_mul x y c above k)))))

pub inverse_above : (c : ℚ) → whole (pos 0) <ℚ c → whole (pos 0) <ℚ inverse c
inverse_above c above h =
    inverse_nonzero c (λ e. above (subst (λ z. z ≤ℚ whole (pos 0)) (sym e) (≤ℚ_refl (whole (pos 0)))))
    (≤ℚ_antisym (inverse c) (whole (pos 0)) h (inverse_not_negative c (le_from_not (whole (pos 0)) c above)))

-- ---- lists

-- lists whose entries compare alike compare alike
pub lex_cmp-by : (n : ℕ) (u v u' v' : ℕ → ℚ) → ((m : ℕ) → cmp_ℚ (u m) (v m) ≡ cmp_ℚ (u' m) (v' m)) → lex_cmp n u v ≡ lex_cmp n u' v'
lex_cmp-by zero u v u' v' h = refl
lex_cmp-by (suc n) u v u' v' h = ap₂ ordering_then (lex_cmp-by n u v u' v' h) (h n)

module _ (n : ℕ) where
  -- a positive multiple
  pub sign_scaled : (c : ℚ) (u : ℕ → ℚ) → whole (pos 0) <ℚ c → lex_cmp n (λ m. c *ℚ u m) zeros ≡ lex_cmp n u zeros
  sign_scaled c u above =
      lex_cmp-by n (λ m. c *ℚ u m) zeros u zeros
      (λ m. ap (λ z. cmp_ℚ (c *ℚ u m) z) (ring_ℚ (c ∷ []) (number (pos 0)) (v0 ⊠ number (pos 0)) refl) ∙ cmp_scaled c (u m) (whole (pos 0)) above)

  -- the negated list
  pub sign_negated : (u : ℕ → ℚ) → lex_cmp n (λ m. neg_ℚ (u m)) zeros ≡ ordering_reverse (lex_cmp n u zeros)
  sign_negated u =
      lex_cmp-by n (λ m. neg_ℚ (u m)) zeros zeros u (λ m. cmp_by (neg_ℚ (u m)) (whole (pos 0)) (whole (pos 0)) (u m) (ring_ℚ (u m ∷ []) (number (pos 0) ⊟ negated v0) (v0 ⊟ number (pos 0)) refl))
      ∙ lex_cmp_swap n u zeros

  sum_below : (u v : ℕ → ℚ) → lex_cmp n u zeros ≡ Less → lex_cmp n v zeros ≡ Less → lex_cmp n (λ m. u m +ℚ v m) zeros ≡ Less
  sum_below u v h k =
      less-trans n (λ m. u m +ℚ v m) v zeros
      (lex_cmp-by n (λ m. u m +ℚ v m) v u zeros (λ m. cmp_by (u m +ℚ v m) (v m) (u m) (whole (pos 0)) (ring_ℚ (u m ∷ v m ∷ []) (v1 ⊟ (v0 ⊞ v1)) (number (pos 0) ⊟ v0) refl)) ∙ h) k

  -- Greater than zeros is less the other way round
  turn : (u : ℕ → ℚ) → lex_cmp n u zeros ≡ Greater → lex_cmp n zeros u ≡ Less
  turn u h = lex_cmp_swap n u zeros ∙ ap ordering_reverse h

  turn_back : (u v : ℕ → ℚ) → lex_cmp n u v ≡ Less → lex_cmp n v u ≡ Greater
  turn_back u v h = lex_cmp_swap n u v ∙ ap ordering_reverse h

  sum_above : (u v : ℕ → ℚ) → lex_cmp n u zeros ≡ Greater → lex_cmp n v zeros ≡ Greater → lex_cmp n (λ m. u m +ℚ v m) zeros ≡ Greater
  sum_above u v h k =
      turn_back zeros (λ m. u m +ℚ v m)
      (less-trans n zeros v (λ m. u m +ℚ v m) (turn v k)
      (lex_cmp-by n v (λ m. u m +ℚ v m) zeros u (λ m. cmp_by (v m) (u m +ℚ v m) (whole (pos 0)) (u m) (ring_ℚ (u m ∷ v m ∷ []) ((v0 ⊞ v1) ⊟ v1) (v0 ⊟ number (pos 0)) refl)) ∙ turn u h))

  -- a list keeps its sign where a multiple of a positive list w is added: one of the same sign, or one
  -- of the other sign as long as w is less than the list over the factor
  module _ (u w : ℕ → ℚ) (ch : ℚ) (above : lex_cmp n w zeros ≡ Greater)
      (from_above : lex_cmp n u zeros ≡ Greater → ch <ℚ whole (pos 0) → lex_cmp n w (λ m. u m *ℚ inverse (neg_ℚ ch)) ≡ Less)
      (from_below : lex_cmp n u zeros ≡ Less → whole (pos 0) <ℚ ch → lex_cmp n w (λ m. neg_ℚ (u m *ℚ inverse ch)) ≡ Less) where
    abbrev sum : ℕ → ℚ
    sum m = u m +ℚ (ch *ℚ w m)

    nonzero : (c : ℚ) → whole (pos 0) <ℚ c → c ≢ whole (pos 0)
    nonzero c h e = h (subst (λ z. z ≤ℚ whole (pos 0)) (sym e) (≤ℚ_refl (whole (pos 0))))

    neg_above : ch <ℚ whole (pos 0) → whole (pos 0) <ℚ neg_ℚ ch
    neg_above = positive_neg ch

    none : ch ≡ whole (pos 0) → lex_cmp n sum zeros ≡ lex_cmp n u zeros
    none e = lex_cmp-same n sum u zeros (λ m. ap (λ z. u m +ℚ (z *ℚ w m)) e ∙ ring_ℚ (u m ∷ w m ∷ []) (v0 ⊞ number (pos 0) ⊠ v1) v0 refl)

    added_above : whole (pos 0) <ℚ ch → lex_cmp n (λ m. ch *ℚ w m) zeros ≡ Greater
    added_above h = sign_scaled ch w h ∙ above

    added_below : ch <ℚ whole (pos 0) → lex_cmp n (λ m. ch *ℚ w m) zeros ≡ Less
    added_below h =
        lex_cmp-same n (λ m. ch *ℚ w m) (λ m. neg_ℚ (neg_ℚ ch *ℚ w m)) zeros (λ m. ring_ℚ (ch ∷ w m ∷ []) (v0 ⊠ v1) (negated (negated v0 ⊠ v1)) refl)
        ∙ sign_negated (λ m. neg_ℚ ch *ℚ w m) ∙ ap ordering_reverse (sign_scaled (neg_ℚ ch) w (neg_above h) ∙ above)

    -- u over -ch against w, as the sum against 0
    held_above : ch <ℚ whole (pos 0) → lex_cmp n sum zeros ≡ lex_cmp n (λ m. u m *ℚ inverse (neg_ℚ ch)) w
    held_above h =
        lex_cmp-by n sum zeros (λ m. u m *ℚ inverse (neg_ℚ ch)) w
        (λ m. cmp_by (sum m) (whole (pos 0)) (neg_ℚ ch *ℚ (u m *ℚ inverse (neg_ℚ ch))) (neg_ℚ ch *ℚ w m)
        (ring_by_ℚ (u m ∷ ch ∷ w m ∷ inverse (neg_ℚ ch) ∷ []) (number (pos 0) ⊟ (v0 ⊞ v1 ⊠ v2)) (negated v1 ⊠ v2 ⊟ negated v1 ⊠ (v0 ⊠ v3)) v0 (negated v1 ⊠ v3) (number (pos 1)) refl
        (*ℚ-inverse (neg_ℚ ch) (nonzero (neg_ℚ ch) (neg_above h))))
        ∙ cmp_scaled (neg_ℚ ch) (u m *ℚ inverse (neg_ℚ ch)) (w m) (neg_above h))

    held_below : whole (pos 0) <ℚ ch → lex_cmp n sum zeros ≡ lex_cmp n w (λ m. neg_ℚ (u m *ℚ inverse ch))
    held_below h =
        lex_cmp-by n sum zeros w (λ m. neg_ℚ (u m *ℚ inverse ch))
        (λ m. cmp_by (sum m) (whole (pos 0)) (ch *ℚ w m) (ch *ℚ neg_ℚ (u m *ℚ inverse ch))
        (ring_by_ℚ (u m ∷ ch ∷ w m ∷ inverse ch ∷ []) (number (pos 0) ⊟ (v0 ⊞ v1 ⊠ v2)) (v1 ⊠ negated (v0 ⊠ v3) ⊟ v1 ⊠ v2) v0 (v1 ⊠ v3) (number (pos 1)) refl
        (*ℚ-inverse ch (nonzero ch h)))
        ∙ cmp_scaled ch (w m) (neg_ℚ (u m *ℚ inverse ch)) h)

    pub sign_kept : lex_cmp n u zeros ≢ Equal → lex_cmp n sum zeros ≡ lex_cmp n u zeros
    sign_kept some = by (lex_cmp n u zeros) refl (cmp_ℚ ch (whole (pos 0))) refl
      where
        by : (o : Ordering) → lex_cmp n u zeros ≡ o → (q : Ordering) → cmp_ℚ ch (whole (pos 0)) ≡ q → lex_cmp n sum zeros ≡ lex_cmp n u zeros
        by o e Equal f = none ((cmp_ℚ-Equal ch (whole (pos 0))).0 f)
        by Equal e q f = absurd (some e)
        by Greater e Greater f = sum_above u (λ m. ch *ℚ w m) e (added_above ((cmp_ℚ-Greater ch (whole (pos 0))).0 f)) ∙ sym e
        by Greater e Less f =
            let down : ch <ℚ whole (pos 0) = (cmp_ℚ-Less ch (whole (pos 0))).0 f in
            held_above down ∙ turn_back w (λ m. u m *ℚ inverse (neg_ℚ ch)) (from_above e down) ∙ sym e
        by Less e Less f = sum_below u (λ m. ch *ℚ w m) e (added_below ((cmp_ℚ-Less ch (whole (pos 0))).0 f)) ∙ sym e
        by Less e Greater f =
            let up : whole (pos 0) <ℚ ch = (cmp_ℚ-Greater ch (whole (pos 0))).0 f in
            held_below up ∙ from_below e up ∙ sym e
