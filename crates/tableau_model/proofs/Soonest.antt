-- The first crossing, position by position.
use Rattle.std.specs.Prelude.{◌≡◌, ◌≢◌, ℕ, ◌+◌, ◌<◌, Bool, true, false, ◌==◌, Option, Some, None}
use Rattle.std.proofs.Common.{arith, sym, ap, subst, ◌∙◌, inl, inr, refl}
use borrow.Author.Tests.{eqb-true, eqb-false}
use Rattle.rational_laws.specs.Fraction.{Fraction, rational}
use Rattle.rational_laws.specs.Rational.{ℚ, ◌≤ℚ◌}
use Rattle.rational_laws.proofs.RationalLaws.{≤ℚ_refl, ≤ℚ_trans}
use Rattle.rational_laws.proofs.OrderLaws.{le_from_not}
use Rattle.pivot_model.specs.declared.direction.Direction.{Direction}
use Rattle.pivot_model.specs.declared.direction.Direction.TheVariants.{Upward, Downward}
use Rattle.pivot_model.specs.Duals.{◌<ℚ◌}
use Rattle.tableau_model.specs.declared.breakpoint.Breakpoint.{Breakpoint}
use Rattle.tableau_model.specs.Crossings.{IsSooner, IsCrossingAt, IsFirstOf}

module _ {F : Type 0} (value : F → Fraction) (Passes : ℕ → Direction → Type 0) (crossing : ℕ → Direction → ℚ) where
  abbrev theta : Breakpoint F → ℚ
  theta b = rational (value b.theta)

  -- in one direction
  abbrev pub IsCrossingTowards : ℕ → Direction → Option (Breakpoint F) → Type 0
  IsCrossingTowards j d None = ¬ Passes j d
  IsCrossingTowards j d (Some b) = (b.position ≡ j) × (b.direction ≡ d) × Passes j d × (theta b ≡ crossing j d)

  itself : (j : ℕ) (d : Direction) (b : Breakpoint F) → theta b ≡ crossing j d → theta b ≤ℚ crossing j d
  itself j d b e = subst (λ z. theta b ≤ℚ z) e (≤ℚ_refl (theta b))

  here : (j : ℕ) (d : Direction) (b : Breakpoint F) → (b.position ≡ j) × (b.direction ≡ d) × Passes j d × (theta b ≡ crossing j d)
      → ((e : Direction) → Passes j e → theta b ≤ℚ crossing j e) → IsCrossingAt value Passes crossing j (Some b)
  here j d b h least = (h.0, subst (Passes j) (sym h.1) h.2, h.3 ∙ ap (crossing j) (sym h.1), least)

  -- of both directions
  pub one_position : (j : ℕ) (up down taken : Option (Breakpoint F)) → IsCrossingTowards j Upward up → IsCrossingTowards j Downward down → IsSooner value up down taken → IsCrossingAt value Passes crossing j taken
  one_position j None None taken u v s = subst (IsCrossingAt value Passes crossing j) (sym s) none
    where
      none : (d : Direction) → ¬ Passes j d
      none Upward k = u k
      none Downward k = v k
  one_position j None (Some b) taken u v s = subst (IsCrossingAt value Passes crossing j) (sym s) (here j Downward b v least)
    where
      least : (d : Direction) → Passes j d → theta b ≤ℚ crossing j d
      least Upward k = absurd (u k)
      least Downward k = itself j Downward b v.3
  one_position j (Some b) None taken u v s = subst (IsCrossingAt value Passes crossing j) (sym s) (here j Upward b u least)
    where
      least : (d : Direction) → Passes j d → theta b ≤ℚ crossing j d
      least Upward k = itself j Upward b u.3
      least Downward k = absurd (v k)
  one_position j (Some a) (Some b) taken u v (inl s) = subst (IsCrossingAt value Passes crossing j) (sym s.0) (here j Downward b v least)
    where
      least : (d : Direction) → Passes j d → theta b ≤ℚ crossing j d
      least Upward k = subst (λ z. theta b ≤ℚ z) u.3 (le_from_not (theta b) (theta a) s.1)
      least Downward k = itself j Downward b v.3
  one_position j (Some a) (Some b) taken u v (inr s) = subst (IsCrossingAt value Passes crossing j) (sym s.0) (here j Upward a u least)
    where
      least : (d : Direction) → Passes j d → theta a ≤ℚ crossing j d
      least Upward k = itself j Upward a u.3
      least Downward k = subst (λ z. theta a ≤ℚ z) v.3 s.1

  -- what holds at the first n positions and at position n holds at one more
  at_last : (n k : ℕ) (Q : ℕ → Type 0) → k < n + 1 → Q n → (k < n → Q k) → Q k
  at_last n k Q lk own before = by (k == n) refl
    where
      by : (t : Bool) → (k == n) ≡ t → Q k
      by true e = subst Q (sym (eqb-true k n e)) own
      by false e = let other : k ≢ n = eqb-false k n e in before (omega arith)

  before_all : (x y z : ℚ) → x <ℚ y → y ≤ℚ z → x <ℚ z
  before_all x y z less most back = less (≤ℚ_trans y z x most back)

  -- one position more
  pub one_more : (n : ℕ) (first next taken : Option (Breakpoint F)) → IsFirstOf value Passes crossing n first → IsCrossingAt value Passes crossing n next → IsSooner value first next taken → IsFirstOf value Passes crossing (n + 1) taken
  one_more n None None taken u v s =
      subst (IsFirstOf value Passes crossing (n + 1)) (sym s) (λ k d lk. at_last n k (λ k. ¬ Passes k d) lk (v d) (u k d))
  one_more n None (Some b) taken u v s =
      subst (IsFirstOf value Passes crossing (n + 1)) (sym s) (record {
        within = omega (arith, v.0);
        passes = subst (λ k. Passes k b.direction) (sym v.0) v.1;
        theta = v.2 ∙ ap (λ k. crossing k b.direction) (sym v.0);
        least = λ k d lk. at_last n k (λ k. Passes k d → theta b ≤ℚ crossing k d) lk (v.3 d) (λ less h. absurd (u k d less h));
        first = λ k d lk h. absurd (u k d (omega (arith, lk, v.0)) h);
      })
  one_more n (Some a) None taken u v s =
      subst (IsFirstOf value Passes crossing (n + 1)) (sym s) (record {
        within = let l : a.position < n = u.within in omega (arith, l);
        passes = u.passes;
        theta = u.theta;
        least = λ k d lk. at_last n k (λ k. Passes k d → theta a ≤ℚ crossing k d) lk (λ h. absurd (v d h)) (u.least k d);
        first = u.first;
      })
  one_more n (Some a) (Some b) taken u v (inr s) =
      subst (IsFirstOf value Passes crossing (n + 1)) (sym s.0) (record {
        within = let l : a.position < n = u.within in omega (arith, l);
        passes = u.passes;
        theta = u.theta;
        least = λ k d lk. at_last n k (λ k. Passes k d → theta a ≤ℚ crossing k d) lk (λ h. ≤ℚ_trans (theta a) (theta b) (crossing n d) s.1 (v.3 d h)) (u.least k d);
        first = u.first;
      })
  one_more n (Some a) (Some b) taken u v (inl s) =
      subst (IsFirstOf value Passes crossing (n + 1)) (sym s.0) (record {
        within = omega (arith, v.0);
        passes = subst (λ k. Passes k b.direction) (sym v.0) v.1;
        theta = v.2 ∙ ap (λ k. crossing k b.direction) (sym v.0);
        least = λ k d lk. at_last n k (λ k. Passes k d → theta b ≤ℚ crossing k d) lk (v.3 d) (λ less h. ≤ℚ_trans (theta b) (theta a) (crossing k d) (le_from_not (theta b) (theta a) s.1) (u.least k d less h));
        first = λ k d lk h. before_all (theta b) (theta a) (crossing k d) s.1 (u.least k d (omega (arith, lk, v.0)) h);
      })
