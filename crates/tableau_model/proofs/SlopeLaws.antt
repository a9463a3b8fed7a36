-- The least slope.
use Rattle.std.specs.Prelude.{◌≡◌, ◌≢◌, ℕ, ◌+◌, ◌<◌, Bool, true, false, ◌==◌, pos}
use Rattle.std.specs.Ordering.{is_lt}
use Rattle.std.proofs.Common.{arith, refl, sym, ap, subst, ◌∙◌, inl, inr}
use borrow.Author.Tests.{eqb-true, eqb-false}
use Rattle.walk_model.proofs.Trails.{below_from}
use Rattle.rational_laws.specs.Fraction.{Fraction, rational}
use Rattle.rational_laws.specs.Rational.{ℚ, whole, ◌≤ℚ◌}
use Rattle.rational_laws.proofs.RationalLaws.{≤ℚ_refl, ≤ℚ_trans}
use Rattle.rational_laws.specs.Order.{cmp_ℚ}
use Rattle.rational_laws.proofs.OrderLaws.{le_from_not}
use Rattle.rational_laws.proofs.Signs.{not_below}
use Rattle.loss_model.specs.Sample.{Sample}
use Rattle.pivot_model.specs.declared.direction.Direction.{Direction}
use Rattle.pivot_model.specs.declared.direction.Direction.TheVariants.{Upward, Downward}
use Rattle.pivot_model.specs.Duals.{◌<ℚ◌}
use Rattle.pivot_model.specs.Steps.{slope, IsLeaving}
use Rattle.tableau_model.specs.declared.answer.Leaving.{Leaving}
use Rattle.tableau_model.specs.Slopes.{IsLesser, IsLeast, IsSteeper}

less_le : (x y z : ℚ) → x <ℚ y → y ≤ℚ z → x <ℚ z
less_le x y z h k back = h (≤ℚ_trans y z x k back)

module _ {F : Type 0} (value : F → Fraction) (p : Sample) (at : ℕ → ℕ) (a : ℕ → ℕ → ℚ) (theta : ℚ) where
  pub one_least : (l : Leaving F) → IsLesser value p at a theta 0 l → IsLeast value p at a theta 1 l
  one_least l h =
      record {
        within = omega (arith, h.position);
        is = h.is ∙ ap (λ j. slope p at a theta j l.direction) (sym h.position);
        least = λ k d lk. let here : k ≡ 0 = omega arith in
            subst (λ j. slope p at a theta j l.direction ≤ℚ slope p at a theta k d) (sym h.position)
            (subst (λ k. slope p at a theta 0 l.direction ≤ℚ slope p at a theta k d) (sym here) (h.least d));
        first = λ k d lk. absurd (omega (arith, lk, h.position));
      }

  pub one_more : (first second taken : Leaving F) (n : ℕ) → IsLeast value p at a theta n first → IsLesser value p at a theta n second → IsSteeper value first second taken → IsLeast value p at a theta (n + 1) taken
  one_more first second taken n h k (inl s) =
      subst (IsLeast value p at a theta (n + 1)) (sym s.0) (record { within = omega (arith, k.position); is = own; least = least; first = earlier })
    where
      own : rational (value second.slope) ≡ slope p at a theta second.position second.direction
      own = k.is ∙ ap (λ j. slope p at a theta j second.direction) (sym k.position)

      less : slope p at a theta second.position second.direction <ℚ slope p at a theta first.position first.direction
      less back = s.1 (subst (λ z. z ≤ℚ rational (value second.slope)) (sym h.is) (subst (λ z. slope p at a theta first.position first.direction ≤ℚ z) (sym own) back))

      here : (d : Direction) → slope p at a theta second.position second.direction ≤ℚ slope p at a theta n d
      here d = subst (λ j. slope p at a theta j second.direction ≤ℚ slope p at a theta n d) (sym k.position) (k.least d)

      least : (q : ℕ) (d : Direction) → q < n + 1 → slope p at a theta second.position second.direction ≤ℚ slope p at a theta q d
      least q d lq = by (q == n) refl
        where
          by : (t : Bool) → (q == n) ≡ t → slope p at a theta second.position second.direction ≤ℚ slope p at a theta q d
          by true g = subst (λ q. slope p at a theta second.position second.direction ≤ℚ slope p at a theta q d) (sym (eqb-true q n g)) (here d)
          by false g =
              let other : q ≢ n = eqb-false q n g in
              let below : q < n = omega arith in
              ≤ℚ_trans (slope p at a theta second.position second.direction) (slope p at a theta first.position first.direction) (slope p at a theta q d)
              (le_from_not (slope p at a theta second.position second.direction) (slope p at a theta first.position first.direction) less) (h.least q d below)

      earlier : (q : ℕ) (d : Direction) → q < second.position → slope p at a theta second.position second.direction <ℚ slope p at a theta q d
      earlier q d lq =
          less_le (slope p at a theta second.position second.direction) (slope p at a theta first.position first.direction) (slope p at a theta q d) less (h.least q d (omega (arith, lq, k.position)))
  one_more first second taken n h k (inr s) =
      subst (IsLeast value p at a theta (n + 1)) (sym s.0) (record { within = omega (arith, h.within); is = h.is; least = least; first = h.first })
    where
      least : (q : ℕ) (d : Direction) → q < n + 1 → slope p at a theta first.position first.direction ≤ℚ slope p at a theta q d
      least q d lq = by (q == n) refl
        where
          by : (t : Bool) → (q == n) ≡ t → slope p at a theta first.position first.direction ≤ℚ slope p at a theta q d
          by false g = let other : q ≢ n = eqb-false q n g in let below : q < n = omega arith in h.least q d below
          by true g =
              subst (λ q. slope p at a theta first.position first.direction ≤ℚ slope p at a theta q d) (sym (eqb-true q n g))
              (≤ℚ_trans (slope p at a theta first.position first.direction) (slope p at a theta n second.direction) (slope p at a theta n d)
              (subst (λ z. slope p at a theta first.position first.direction ≤ℚ z) k.is (subst (λ z. z ≤ℚ rational (value second.slope)) h.is s.1)) (k.least d))

  -- the least slope of all positions, where it is negative, is that of the position that leaves
  pub leaves : (l : Leaving F) → IsLeast value p at a theta p.columns l → rational (value l.slope) <ℚ whole (pos 0) → IsLeaving p at a theta l.position l.direction × (rational (value l.slope) ≡ slope p at a theta l.position l.direction)
  leaves l h below = (record { position = h.within; negative = λ up. below (subst (λ z. whole (pos 0) ≤ℚ z) (sym h.is) up); least = h.least; first = h.first }, h.is)

  pub none_negative : (l : Leaving F) (n : ℕ) → IsLeast value p at a theta n l → whole (pos 0) ≤ℚ rational (value l.slope) → (j : ℕ) (d : Direction) → j < n → whole (pos 0) ≤ℚ slope p at a theta j d
  none_negative l n h up j d lj =
      ≤ℚ_trans (whole (pos 0)) (slope p at a theta l.position l.direction) (slope p at a theta j d) (subst (λ z. whole (pos 0) ≤ℚ z) h.is up) (h.least j d lj)

  pub down_lesser : (j : ℕ) (up down : F) → rational (value up) ≡ slope p at a theta j Upward → rational (value down) ≡ slope p at a theta j Downward
      → is_lt (cmp_ℚ (rational (value down)) (rational (value up))) ≡ true → IsLesser value p at a theta j (record { position = j; direction = Downward; slope = down })
  down_lesser j up down u d h = record { position = refl; is = d; least = least }
    where
      less : rational (value down) ≤ℚ rational (value up)
      less = le_from_not (rational (value down)) (rational (value up)) (below_from (rational (value down)) (rational (value up)) h)

      least : (b : Direction) → slope p at a theta j Downward ≤ℚ slope p at a theta j b
      least Downward = ≤ℚ_refl (slope p at a theta j Downward)
      least Upward = subst (λ z. slope p at a theta j Downward ≤ℚ z) u (subst (λ z. z ≤ℚ rational (value up)) d less)

  pub up_lesser : (j : ℕ) (up down : F) → rational (value up) ≡ slope p at a theta j Upward → rational (value down) ≡ slope p at a theta j Downward
      → is_lt (cmp_ℚ (rational (value down)) (rational (value up))) ≡ false → IsLesser value p at a theta j (record { position = j; direction = Upward; slope = up })
  up_lesser j up down u d h = record { position = refl; is = u; least = least }
    where
      less : rational (value up) ≤ℚ rational (value down)
      less = not_below (rational (value down)) (rational (value up)) h

      least : (b : Direction) → slope p at a theta j Upward ≤ℚ slope p at a theta j b
      least Upward = ≤ℚ_refl (slope p at a theta j Upward)
      least Downward = subst (λ z. slope p at a theta j Upward ≤ℚ z) d (subst (λ z. z ≤ℚ rational (value down)) u less)
