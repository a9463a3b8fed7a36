-- Totals over the rows outside a basis, row by row.
use Rattle.std.specs.Prelude.{◌≡◌, ℕ, zero, suc, ◌+◌, ◌<◌, ◌≤◌, Bool, true, false, if◌then◌else◌, [], ◌∷◌, pos}
use Rattle.std.proofs.Common.{arith, refl, sym, ap, subst, ◌∙◌, add-one}
use Rattle.rational_laws.specs.Fraction.{Fraction}
use Rattle.rational_laws.specs.Solver.{number, ◌⊞◌, ◌⊠◌, v0, v1}
use Rattle.rational_laws.specs.Rational.{ℚ, whole}
use Rattle.rational_laws.proofs.RationalLaws.{ring_ℚ}
use Rattle.loss_model.specs.declared.spill.Quantity.TheVariants.{NonbasicTotal}
use Rattle.loss_model.specs.declared.spill.Spill.{Spill}
use Rattle.loss_model.specs.declared.vertex.Side.{Side}
use Rattle.loss_model.specs.declared.vertex.Side.TheVariants.{Up, Down, Basic}
use Rattle.loss_model.specs.Sample.{Sample}
use Rattle.loss_model.specs.Spill.{partial_sum, site_of, IsTermSpill, IsProductSpill}
use Rattle.loss_model.proofs.Products.{same_term}
use Rattle.basis_model.specs.declared.part.Part.{Part}
use Rattle.basis_model.specs.declared.part.Part.TheVariants.{Constant, Linear}
use Rattle.basis_model.specs.Parts.{part_number}
use Rattle.basis_model.specs.Basis.{bound_part}
use Rattle.basis_model.proofs.Sums.{partial_sum-more}
use Rattle.basis_model.specs.BasisSpills.{is_basic, total_products, outside_before, IsTotalSpill}

pub outside_before-le : (side : ℕ → Side) (i : ℕ) → outside_before side i ≤ i
outside_before-le side zero = omega arith
outside_before-le side (suc i) = by (is_basic (side i)) (outside_before-le side i)
  where
    by : (t : Bool) → outside_before side i ≤ i → outside_before side i + (if t then 0 else 1) ≤ suc i
    by true h = omega arith
    by false h = omega arith

-- a row outside is one more term, and a row of the basis is none
pub one_more : (side : ℕ → Side) (i terms : ℕ) → is_basic (side i) ≡ false → terms ≡ outside_before side i → terms + 1 ≡ outside_before side (i + 1)
one_more side i terms h e =
    ap (λ n. n + 1) e ∙ sym (ap (λ t. outside_before side i + (if t then 0 else 1)) h) ∙ sym (ap (outside_before side) (add-one i))

pub none_more : (side : ℕ → Side) (i terms : ℕ) → is_basic (side i) ≡ true → terms ≡ outside_before side i → terms ≡ outside_before side (i + 1)
none_more side i terms h e =
    let same : outside_before side i ≡ outside_before side i + 0 = omega arith in
    e ∙ same ∙ sym (ap (λ t. outside_before side i + (if t then 0 else 1)) h) ∙ sym (ap (outside_before side) (add-one i))

module _ (p : Sample) (side : ℕ → Side) (part : Part) (k i : ℕ) where
  -- a row of the basis adds nothing
  pub passed : (sum : ℚ) → is_basic (side i) ≡ true → sum ≡ partial_sum (total_products p side part k) i → sum ≡ partial_sum (total_products p side part k) (i + 1)
  passed sum h before =
      partial_sum-more (total_products p side part k) i sum (p.x i k) (whole (pos 0)) sum before refl (sym (none part (side i) h))
      (ring_ℚ (sum ∷ p.x i k ∷ []) v0 (v0 ⊞ v1 ⊠ number (pos 0)) refl)
    where
      none : (part : Part) (s : Side) → is_basic s ≡ true → bound_part p part i s ≡ whole (pos 0)
      none Constant Up h = absurd (cc h)
      none Constant Down h = absurd (cc h)
      none Constant Basic h = refl
      none Linear Up h = absurd (cc h)
      none Linear Down h = absurd (cc h)
      none Linear Basic h = refl

  -- a spill of the product of a row outside
  pub total_spill : {F : Type 0} (value : F → Fraction) (range terms : ℕ) (first left right : ℚ) (s : Spill F) → i < p.rows → is_basic (side i) ≡ false → terms ≡ outside_before side i
      → first ≡ partial_sum (total_products p side part k) i → left ≡ p.x i k → right ≡ bound_part p part i (side i)
      → IsTermSpill value range (site_of NonbasicTotal k (part_number part) terms) first left right s → IsTotalSpill value range p side part k s
  total_spill value range terms first left right s within outside count before l r h =
      let P : ℕ → Type 0 = λ n. IsProductSpill value range (site_of NonbasicTotal k (part_number part) n) (total_products p side part k) i s in
      record {
        at_row = (
          i,
          within,
          (
            outside,
            subst P count
                (same_term value range (site_of NonbasicTotal k (part_number part) terms) s first (partial_sum (total_products p side part k) i) left (p.x i k) right (bound_part p part i (side i)) before l r h),
          ),
        );
      }
