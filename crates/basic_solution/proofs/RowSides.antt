-- The side of a row, by its place in the basis and by its residual.
use Rattle.std.specs.Prelude.{◌≡◌, ℕ, zero, suc, Bool, true, false, if◌then◌else◌, ◌==◌, ◌||◌, List, [], ◌∷◌, length, slice_index, pos}
use Rattle.std.specs.List.{list_any}
use Rattle.std.specs.declared.cmp.Ordering.TheVariants.{Less, Greater}
use Rattle.std.proofs.Common.{refl, sym, ap, ap₂, ◌∙◌}
use borrow.Author.Tests.{eqb-true, eqb-false, eq-eqb, ne_eqb}
use Rattle.rational_laws.specs.Rational.{whole}
use Rattle.rational_laws.specs.Order.{cmp_ℚ}
use Rattle.rational_laws.proofs.OrderLaws.{cmp_ℚ-Equal}
use Rattle.rational_laws.specs.Selections.{is_among}
use Rattle.loss_model.specs.declared.vertex.Side.TheVariants.{Up, Down}
use Rattle.basis_model.specs.Perturbed.{Nonbasic, side_of, perturbed_side}
use Rattle.basis_model.proofs.Signs.{side-residual}

-- ---- membership

swapped : (a b z : Bool) → (if a then true else (if b then true else z)) ≡ (if b then true else (if a then true else z))
swapped true true z = refl
swapped true false z = refl
swapped false true z = refl
swapped false false z = refl

is_among-front : (at : ℕ → ℕ) (n i : ℕ) → is_among at (suc n) i ≡ (if i == at 0 then true else is_among (λ j. at (suc j)) n i)
is_among-front at zero i = refl
is_among-front at (suc n) i =
    ap (λ z. if i == at (suc n) then true else z) (is_among-front at n i)
    ∙ swapped (i == at (suc n)) (i == at 0) (is_among (λ j. at (suc j)) n i)

turned_test : (i y : ℕ) → (y == i) ≡ (i == y)
turned_test i y = by (i == y) refl
  where
    by : (t : Bool) → (i == y) ≡ t → (y == i) ≡ (i == y)
    by true e = eq-eqb y i (sym (eqb-true i y e)) ∙ sym e
    by false e = ne_eqb y i (λ s. eqb-false i y e (sym s)) ∙ sym e

pub any_among : (xs : List ℕ) (i : ℕ) → list_any (λ y. y == i) xs ≡ is_among (slice_index xs) (length xs) i
any_among [] i = refl
any_among (y ∷ xs) i =
    by (y == i) (list_any (λ y. y == i) xs)
    ∙ ap₂ (λ t z. if t then true else z) (turned_test i y) (any_among xs i)
    ∙ sym (is_among-front (slice_index (y ∷ xs)) (length xs) i)
  where
    by : (t z : Bool) → (t || z) ≡ (if t then true else z)
    by true z = refl
    by false z = refl

-- ---- the side by the residual

module _ (rows n : ℕ) (at : ℕ → ℕ) (u : Nonbasic) where
  pub side_above : cmp_ℚ u.residual (whole (pos 0)) ≡ Greater → Up ≡ perturbed_side rows n at u
  side_above e =
      sym (side-residual n at u (λ z. cc (sym e ∙ (cmp_ℚ-Equal u.residual (whole (pos 0))).1 z)) rows ∙ ap side_of e)

  pub side_below : cmp_ℚ u.residual (whole (pos 0)) ≡ Less → Down ≡ perturbed_side rows n at u
  side_below e =
      sym (side-residual n at u (λ z. cc (sym e ∙ (cmp_ℚ-Equal u.residual (whole (pos 0))).1 z)) rows ∙ ap side_of e)
