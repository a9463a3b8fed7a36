-- Sides of which those of listed rows are made again.
use Rattle.std.specs.Prelude.{◌≡◌, ◌≢◌, ◌⊎◌, ℕ, ◌+◌, ◌<◌, Bool, true, false, ◌==◌, List, length, slice_index, slice_set}
use Rattle.std.proofs.Common.{arith, refl, sym, ap, subst, ◌∙◌, inl, inr}
use borrow.Author.Tests.{eqb-true, eqb-false}
use Rattle.rational_laws.specs.Rational.{ℚ}
use Rattle.rational_laws.specs.Selections.{is_among}
use Rattle.loss_model.specs.declared.vertex.Side.{Side}
use Rattle.loss_model.specs.Sample.{Sample}
use Rattle.basis_model.specs.Basis.{side_at}
use Rattle.loss_model.specs.Sides.{side_in}
use Rattle.whole_solution.specs.Far.{IsListed}
use Rattle.whole_solution.proofs.Basics.{length_put, put_same, put_other}

module _ (p : Sample) (at : ℕ → ℕ) (a : ℕ → ℕ → ℚ) (listed : List ℕ) (old : List Side) where
  -- the sides after those of the first k listed rows were made
  pub record ArePut (made : List Side) (k : ℕ) : Type 0 where
    pub size : length made ≡ p.rows
    pub each : (i : ℕ) → IsListed listed i ⊎ (side_in made i ≡ side_in old i)
    pub made_listed : (j : ℕ) → j < k → is_among at p.columns (slice_index listed j) ≡ false → side_in made (slice_index listed j) ≡ side_at p at a (slice_index listed j)

  pub put_none : length old ≡ p.rows → ArePut old 0
  put_none size = record { size = size; each = λ i. inr refl; made_listed = λ j l. absurd (omega arith) }

  module _ (made : List Side) (k : ℕ) (x : Side) (before : ArePut made k) (here : k < length listed) (within : slice_index listed k < p.rows)
      (is : is_among at p.columns (slice_index listed k) ≡ false → x ≡ side_at p at a (slice_index listed k)) where
    abbrev r : ℕ
    r = slice_index listed k

    abbrev next : List Side
    next = slice_set made r x

    each_next : (i : ℕ) → IsListed listed i ⊎ (side_in next i ≡ side_in old i)
    each_next i = by (i == r) refl (before.each i)
      where
        by : (t : Bool) → (i == r) ≡ t → IsListed listed i ⊎ (side_in made i ≡ side_in old i) → IsListed listed i ⊎ (side_in next i ≡ side_in old i)
        by true e h = inl (k, here, sym (eqb-true i r e))
        by false e (inl h) = inl h
        by false e (inr h) = inr (put_other made r i x (eqb-false i r e) ∙ h)

    listed_next : (j : ℕ) → j < k + 1 → is_among at p.columns (slice_index listed j) ≡ false → side_in next (slice_index listed j) ≡ side_at p at a (slice_index listed j)
    listed_next j l = by (slice_index listed j == r) refl
      where
        by : (t : Bool) → (slice_index listed j == r) ≡ t → is_among at p.columns (slice_index listed j) ≡ false → side_in next (slice_index listed j) ≡ side_at p at a (slice_index listed j)
        by true e =
            subst (λ i. is_among at p.columns i ≡ false → side_in next i ≡ side_at p at a i) (sym (eqb-true (slice_index listed j) r e))
            (λ outside. put_same made r x (omega (arith, within, before.size)) ∙ is outside)
        by false e =
            let other : j ≢ k = λ same. eqb-false (slice_index listed j) r e (ap (slice_index listed) same) in
            λ outside. put_other made r (slice_index listed j) x (eqb-false (slice_index listed j) r e) ∙ before.made_listed j (omega (arith, l, other)) outside

    pub put_more : ArePut next (k + 1)
    put_more = record { size = length_put made r x ∙ before.size; each = each_next; made_listed = listed_next }

  pub put_all : (made : List Side) → ArePut made (length listed) → (i : ℕ) → IsListed listed i → is_among at p.columns i ≡ false → side_in made i ≡ side_at p at a i
  put_all made all i (j, l, e) = subst (λ i. is_among at p.columns i ≡ false → side_in made i ≡ side_at p at a i) e (all.made_listed j l)
