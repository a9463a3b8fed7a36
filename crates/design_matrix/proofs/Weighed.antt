-- Weights by how they compare with 0, and the records that are kept by them.
use Rattle.std.proofs.Common.{◌≡◌, ◌+◌, ◌&&◌, ℕ, Bool, true, false, List, Option, Some, None, cond, ap, sym, ◌∙◌}
use Rattle.std.specs.Ordering.{is_lt, is_ne}
use Rattle.std.specs.declared.cmp.Ordering.{Ordering}
use Rattle.design_matrix.specs.declared.fault.DesignFault.TheVariants.{NegativeWeight}
use Rattle.design_matrix.specs.Cells.{Column, is_complete, is_kept, weight_sign}
use Rattle.design_matrix.specs.Faults.{weight_fault}

module _ (weights : Option Column) (i : ℕ) (sign : Ordering) (same : sign ≡ weight_sign weights i) where
  weight_at_sign : (b : Bool) → is_lt sign ≡ b → weight_fault weights i ≡ cond b (Some (NegativeWeight (i + 1))) None
  weight_at_sign b h = ap (λ t. cond t (Some (NegativeWeight (i + 1))) None) (ap is_lt (sym same) ∙ h)

  pub weight_found : is_lt sign ≡ true → weight_fault weights i ≡ Some (NegativeWeight (i + 1))
  weight_found = weight_at_sign true

  pub weight_none : is_lt sign ≡ false → weight_fault weights i ≡ None
  weight_none = weight_at_sign false

  pub kept_by_weight : (columns : List Column) (complete : Bool) (result : Bool) → complete ≡ is_complete columns i → complete ≡ true → result ≡ is_ne sign
      → result ≡ is_kept columns weights i
  kept_by_weight columns complete result e t r = r ∙ ap is_ne same ∙ ap (λ b. b && is_ne (weight_sign weights i)) (sym (sym e ∙ t))

pub left_out : (columns : List Column) (weights : Option Column) (i : ℕ) (complete : Bool) → complete ≡ is_complete columns i → complete ≡ false
    → complete ≡ is_kept columns weights i
left_out columns weights i complete e f = f ∙ ap (λ b. b && is_ne (weight_sign weights i)) (sym (sym e ∙ f))
