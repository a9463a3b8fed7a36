-- The next breakpoint: the least crossing from the present value on.
use Rattle.std.specs.Prelude.{◌≡◌, ◌≢◌, ◌⊎◌, ℕ, zero, suc, ◌<◌, Bool, true, false, ◌==◌, pos}
use Rattle.std.proofs.Common.{arith, refl, sym, subst, ◌∙◌, inl, inr}
use borrow.Author.Tests.{eqb-true, eqb-false}
use Rattle.rational_laws.specs.Rational.{ℚ, whole, ◌≤ℚ◌}
use Rattle.rational_laws.proofs.RationalLaws.{≤ℚ_refl, ≤ℚ_trans}
use Rattle.rational_laws.proofs.OrderLaws.{le_from_not}
use Rattle.pivot_model.specs.declared.direction.Direction.{Direction}
use Rattle.pivot_model.specs.declared.direction.Direction.TheVariants.{Upward, Downward}
use Rattle.pivot_model.specs.Part.TheVariants.{Constant, Linear}
use Rattle.pivot_model.specs.Duals.{◌<ℚ◌}
use Rattle.walk_model.specs.Families.{Family, slope_part, IsOptimalIn}
use Rattle.walk_model.specs.Walks.{Crosses, IsNextBreak}
use Rattle.walk_model.proofs.Lines.{decide, line, root, not_later}
use Rattle.walk_model.proofs.Slopes.{affine, crossing}

module _ (f : Family) (at : ℕ → ℕ) (a : ℕ → ℕ → ℚ) (from : ℚ) where
  -- the least crossing of the first n positions, at the least of them
  pub record IsNextOf (n : ℕ) (t : ℚ) (j : ℕ) (d : Direction) : Type 0 where
    pub position : j < n
    pub after : from ≤ℚ t
    pub crosses : Crosses f at a t j d
    pub least : (u : ℚ) (k : ℕ) (e : Direction) → k < n → from ≤ℚ u → Crosses f at a u k e → t ≤ℚ u
    pub first : (k : ℕ) (e : Direction) → k < j → ¬ Crosses f at a t k e

  abbrev NoneOf : ℕ → Type 0
  NoneOf n = (u : ℚ) (k : ℕ) (e : Direction) → k < n → from ≤ℚ u → ¬ Crosses f at a u k e

  abbrev Found : ℕ → Type 0
  Found n = ((t : ℚ) × (j : ℕ) × (d : Direction) × IsNextOf n t j d) ⊎ NoneOf n

  -- the crossings of one slope
  abbrev OneOf : ℕ → Direction → Type 0
  OneOf j d =
      ((t : ℚ) × (from ≤ℚ t) × Crosses f at a t j d × ((u : ℚ) → from ≤ℚ u → Crosses f at a u j d → t ≤ℚ u))
      ⊎ ((u : ℚ) → from ≤ℚ u → ¬ Crosses f at a u j d)

  one : (j : ℕ) (d : Direction) → OneOf j d
  one j d = by (decide (whole (pos 0)) l) (decide from (root c l))
    where
      c : ℚ
      c = slope_part f at a Constant j d

      l : ℚ
      l = slope_part f at a Linear j d

      place : (u : ℚ) → Crosses f at a u j d → u ≡ root c l
      place u h = ((crossing f at a j d u).0 h).1

      by : (whole (pos 0) ≤ℚ l) ⊎ ¬ (whole (pos 0) ≤ℚ l) → (from ≤ℚ root c l) ⊎ ¬ (from ≤ℚ root c l) → OneOf j d
      by (inl up) o = inr (λ u h k. ((crossing f at a j d u).0 k).0 up)
      by (inr down) (inl h) = inl (
        root c l,
        h,
        (crossing f at a j d (root c l)).1 (down, refl),
        λ u lower k. subst (λ z. root c l ≤ℚ z) (sym (place u k)) (≤ℚ_refl (root c l)),
      )
      by (inr down) (inr past) = inr (λ u lower k. past (subst (λ z. from ≤ℚ z) (place u k) lower))

  -- those of one position
  abbrev Both : ℕ → Type 0
  Both j =
      ((t : ℚ) × (d : Direction) × (from ≤ℚ t) × Crosses f at a t j d × ((u : ℚ) (e : Direction) → from ≤ℚ u → Crosses f at a u j e → t ≤ℚ u))
      ⊎ ((u : ℚ) (e : Direction) → from ≤ℚ u → ¬ Crosses f at a u j e)

  -- what is said of the crossings of each direction is said of all
  of_both : (j : ℕ) (Says : ℚ → Type 0) → ((u : ℚ) → from ≤ℚ u → Crosses f at a u j Upward → Says u) → ((u : ℚ) → from ≤ℚ u → Crosses f at a u j Downward → Says u)
      → (u : ℚ) (e : Direction) → from ≤ℚ u → Crosses f at a u j e → Says u
  of_both j Says up down u Upward = up u
  of_both j Says up down u Downward = down u

  both : (j : ℕ) → Both j
  both j = by (one j Upward) (one j Downward)
    where
      by : OneOf j Upward → OneOf j Downward → Both j
      by (inr up) (inr down) = inr (of_both j (λ u. ⊥) up down)
      by (inl (t, lower, c, least)) (inr down) = inl (t, Upward, lower, c, of_both j (λ u. t ≤ℚ u) least (λ u h k. absurd (down u h k)))
      by (inr up) (inl (t, lower, c, least)) = inl (t, Downward, lower, c, of_both j (λ u. t ≤ℚ u) (λ u h k. absurd (up u h k)) least)
      by (inl (t, lower, c, least)) (inl (s, lower', c', least')) = pick (decide t s)
        where
          pick : (t ≤ℚ s) ⊎ ¬ (t ≤ℚ s) → Both j
          pick (inl h) = inl (t, Upward, lower, c, of_both j (λ u. t ≤ℚ u) least (λ u h' k. ≤ℚ_trans t s u h (least' u h' k)))
          pick (inr h) = inl (s, Downward, lower', c', of_both j (λ u. s ≤ℚ u) (λ u h' k. ≤ℚ_trans s t u (le_from_not s t h) (least u h' k)) least')

  last : (n k : ℕ) → k < suc n → k ≢ n → k < n
  last n k l other = omega arith

  -- what is said of the crossings of position n and of those before it is said of all these
  up_to : (n : ℕ) (Says : ℚ → Type 0) → ((u : ℚ) (e : Direction) → from ≤ℚ u → Crosses f at a u n e → Says u)
      → ((u : ℚ) (k : ℕ) (e : Direction) → k < n → from ≤ℚ u → Crosses f at a u k e → Says u)
      → (u : ℚ) (k : ℕ) (e : Direction) → k < suc n → from ≤ℚ u → Crosses f at a u k e → Says u
  up_to n Says own others u k e lk lower c = by (k == n) refl
    where
      by : (s : Bool) → (k == n) ≡ s → Says u
      by true h = own u e lower (subst (λ k. Crosses f at a u k e) (eqb-true k n h) c)
      by false h = others u k e (last n k lk (eqb-false k n h)) lower c

  -- the next crossing of the first n positions stays, where it isn't after those of position n
  stays : (n : ℕ) (t : ℚ) (j : ℕ) (d : Direction) → IsNextOf n t j d → ((u : ℚ) (e : Direction) → from ≤ℚ u → Crosses f at a u n e → t ≤ℚ u) → Found (suc n)
  stays n t j d next own =
      inl (
        t,
        j,
        d,
        record {
          position = let below : j < n = next.position in omega arith;
          after = next.after;
          crosses = next.crosses;
          least = up_to n (λ u. t ≤ℚ u) own next.least;
          first = next.first;
        },
      )

  -- or one of position n takes its place, where it is before all others
  enters : (n : ℕ) (t : ℚ) (d : Direction) → from ≤ℚ t → Crosses f at a t n d → ((u : ℚ) (e : Direction) → from ≤ℚ u → Crosses f at a u n e → t ≤ℚ u)
      → ((u : ℚ) (k : ℕ) (e : Direction) → k < n → from ≤ℚ u → Crosses f at a u k e → t ≤ℚ u) → ((k : ℕ) (e : Direction) → k < n → ¬ Crosses f at a t k e) → Found (suc n)
  enters n t d lower c own others first =
      inl (
        t,
        n,
        d,
        record {
          position = omega arith;
          after = lower;
          crosses = c;
          least = up_to n (λ u. t ≤ℚ u) own others;
          first = first;
        },
      )

  pub found : (n : ℕ) → Found n
  found zero = inr (λ u k e l. absurd (omega arith))
  found (suc n) = by (found n) (both n)
    where
      by : Found n → Both n → Found (suc n)
      by (inr none) (inr own) = inr (up_to n (λ u. ⊥) own none)
      by (inr none) (inl (t, d, lower, c, least)) =
          enters n t d lower c least (λ u k e lk h c'. absurd (none u k e lk h c')) (λ k e lk. none t k e lk lower)
      by (inl (t, j, d, next)) (inr own) = stays n t j d next (λ u e h c. absurd (own u e h c))
      by (inl (t, j, d, next)) (inl (s, d', lower, c, least)) = pick (decide t s)
        where
          pick : (t ≤ℚ s) ⊎ ¬ (t ≤ℚ s) → Found (suc n)
          pick (inl h) = stays n t j d next (λ u e h' c'. ≤ℚ_trans t s u h (least u e h' c'))
          pick (inr h) =
              enters n s d' lower c least (λ u k e lk h' c'. ≤ℚ_trans s t u (le_from_not s t h) (next.least u k e lk h' c'))
              (λ k e lk c'. h (next.least s k e lk lower c'))

  pub next_break : ((t : ℚ) × (j : ℕ) × (d : Direction) × IsNextBreak f at a from t j d) ⊎ ((t : ℚ) (j : ℕ) (d : Direction) → j < f.sample.columns → from ≤ℚ t → ¬ Crosses f at a t j d)
  next_break = by (found f.sample.columns)
    where
      by : Found f.sample.columns → ((t : ℚ) × (j : ℕ) × (d : Direction) × IsNextBreak f at a from t j d) ⊎ ((t : ℚ) (j : ℕ) (d : Direction) → j < f.sample.columns → from ≤ℚ t → ¬ Crosses f at a t j d)
      by (inl (t, j, d, next)) = inl (t, j, d, record { position = next.position; after = next.after; crosses = next.crosses; least = next.least; first = next.first })
      by (inr none) = inr none

-- ---- as it is computed

module _ (f : Family) (at : ℕ → ℕ) (a : ℕ → ℕ → ℚ) (from : ℚ) where
  abbrev c : ℕ → Direction → ℚ
  c j d = slope_part f at a Constant j d

  abbrev l : ℕ → Direction → ℚ
  l j d = slope_part f at a Linear j d

  -- where the basis is optimal no crossing lies behind
  pub ahead : IsOptimalIn f at a from → (t : ℚ) (j : ℕ) (d : Direction) → j < f.sample.columns → Crosses f at a t j d → from ≤ℚ t
  ahead stop t j d lj cross =
      let falls : (l j d <ℚ whole (pos 0)) × (t ≡ root (c j d) (l j d)) = (crossing f at a j d t).0 cross in
      not_later (c j d) (l j d) falls.0 t from
      (subst (λ z. z ≤ℚ line (c j d) (l j d) from) (sym (sym (affine f at a t j d) ∙ cross.meets)) (subst (λ z. whole (pos 0) ≤ℚ z) (affine f at a from j d) (stop j d lj)))

  pub as_computed : IsOptimalIn f at a from → (t : ℚ) (j : ℕ) (d : Direction) → j < f.sample.columns → l j d <ℚ whole (pos 0) → t ≡ root (c j d) (l j d)
      → ((k : ℕ) (e : Direction) → k < f.sample.columns → l k e <ℚ whole (pos 0) → t ≤ℚ root (c k e) (l k e))
      → ((k : ℕ) (e : Direction) → k < j → l k e <ℚ whole (pos 0) → t ≢ root (c k e) (l k e)) → IsNextBreak f at a from t j d
  as_computed stop t j d lj falls place least first =
      let cross : Crosses f at a t j d = (crossing f at a j d t).1 (falls, place) in
      record {
        position = lj;
        after = ahead stop t j d lj cross;
        crosses = cross;
        least = λ u k e lk lower other. subst (λ z. t ≤ℚ z) (sym ((crossing f at a k e u).0 other).1) (least k e lk ((crossing f at a k e u).0 other).0);
        first = λ k e lk other. first k e lk ((crossing f at a k e t).0 other).0 ((crossing f at a k e t).0 other).1;
      }
