-- Past a joint of a walk: the sides of all rows, and the rows near the fit.
use Rattle.std.specs.Prelude.{◌≡◌, ◌⊎◌, ℕ, zero, suc, ◌<◌, Bool, true, false, ◌==◌, List}
use Rattle.std.proofs.Common.{arith, refl, sym, subst, ◌∙◌, inl, inr}
use borrow.Author.Tests.{eqb-true, eqb-false}
use Rattle.rational_laws.specs.Rational.{ℚ}
use Rattle.rational_laws.specs.Selections.{is_among}
use Rattle.loss_model.specs.declared.vertex.Side.{Side}
use Rattle.loss_model.specs.declared.vertex.Side.TheVariants.{Basic}
use Rattle.loss_model.specs.Sample.{Sample}
use Rattle.basis_model.specs.Basis.{side_at}
use Rattle.whole_solution.specs.declared.near.Near.{Near}
use Rattle.whole_solution.specs.declared.solution.Joint.{Joint}
use Rattle.loss_model.specs.Sides.{side_in}
use Rattle.whole_solution.specs.Standing.{both_of, IsPast}
use Rattle.whole_solution.specs.Far.{IsFarOn, IsListed, IsNear, IsNearOrFar}
use Rattle.whole_solution.proofs.Chosen.{with_basis}

module _ (p : Sample) (at : ℕ → ℕ) (a : ℕ → ℕ → ℚ) (old : List Side) (j : Joint) (past : IsPast p at a (side_in old) j) where
  -- what holds of both rows
  each_of : (Q : ℕ → Type 0) → Q j.entered → Q j.left → (i : ℕ) → IsListed (both_of j) i → Q i
  each_of Q entered left i (zero, l, e) = subst Q e entered
  each_of Q entered left i (suc zero, l, e) = subst Q e left
  each_of Q entered left i (suc (suc k), l, e) = absurd (omega (arith, l))

  -- all others are on the sides on which they were
  others : (i : ℕ) → i < p.rows → IsListed (both_of j) i ⊎ (side_at p at a i ≡ side_in old i)
  others i li = by (i == j.entered) refl (i == j.left) refl
    where
      by : (s : Bool) → (i == j.entered) ≡ s → (t : Bool) → (i == j.left) ≡ t → IsListed (both_of j) i ⊎ (side_at p at a i ≡ side_in old i)
      by true e t f = inl (0, omega arith, sym (eqb-true i j.entered e))
      by false e true f = inl (1, omega arith, sym (eqb-true i j.left f))
      by false e false f = inr (past.others i li (eqb-false i j.entered e) (eqb-false i j.left f))

  -- sides of which those of both rows were made again
  module _ (made : List Side) (each : (i : ℕ) → IsListed (both_of j) i ⊎ (side_in made i ≡ side_in old i)) where
    pub sides_past : ((i : ℕ) → IsListed (both_of j) i → is_among at p.columns i ≡ false → side_in made i ≡ side_at p at a i)
        → ((k : ℕ) → k < p.columns → side_in made (at k) ≡ Basic) → (i : ℕ) → i < p.rows → side_in made i ≡ side_at p at a i
    sides_past there = with_basis p at a made (λ i li outside. by i outside (others i li) (each i))
      where
        by : (i : ℕ) → is_among at p.columns i ≡ false → IsListed (both_of j) i ⊎ (side_at p at a i ≡ side_in old i) → IsListed (both_of j) i ⊎ (side_in made i ≡ side_in old i)
            → side_in made i ≡ side_at p at a i
        by i outside (inl listed) h = there i listed outside
        by i outside (inr same) (inl listed) = there i listed outside
        by i outside (inr same) (inr kept) = kept ∙ sym same

    -- the row that left was on no side, so that it is near
    not_basic : (rows : List ℕ) (side : Side) (far r : ℚ) → side ≡ Basic → IsNearOrFar rows side far j.left r → IsListed rows j.left
    not_basic rows side far r e (inl here) = here
    not_basic rows side far r e (inr away) = absurd (subst (λ s. IsFarOn s far r) e away)

    pub each_near : (n : Near) → IsNear p (side_in old) n → IsListed n.rows j.entered → (i : ℕ) → IsListed n.rows i ⊎ (side_in made i ≡ side_in old i)
    each_near n near entered i = by (each i)
      where
        by : IsListed (both_of j) i ⊎ (side_in made i ≡ side_in old i) → IsListed n.rows i ⊎ (side_in made i ≡ side_in old i)
        by (inl listed) = inl (each_of (IsListed n.rows) entered (not_basic n.rows (side_in old j.left) _ _ past.basic (near.others j.left past.left)) i listed)
        by (inr kept) = inr kept
