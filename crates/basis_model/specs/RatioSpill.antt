-- Stated. The operations of perturbed ratios that overflow.
use Rattle.std.specs.Prelude.{◌≡◌, ◌⊎◌, ℕ, ◌<◌, ◌≤◌}
use Rattle.rational_laws.specs.Fraction.{Fraction}
use Rattle.loss_model.specs.OpKind.TheVariants.{Div}
use Rattle.loss_model.specs.declared.spill.Quantity.TheVariants.{PerturbedRatio}
use Rattle.loss_model.specs.declared.spill.Site.{Site}
use Rattle.loss_model.specs.declared.spill.Spill.{Spill}
use Rattle.loss_model.specs.declared.vertex.Side.{Side}
use Rattle.loss_model.specs.Spill.{IsOperation, abs_ℚ}
use Rattle.basis_model.specs.Perturbed.{Nonbasic, perturbed, perturbed_side, ratio_on}

-- the division that makes entry m of the perturbed ratio of a row at a position
abbrev pub ratio_site : ℕ → ℕ → ℕ → Site
ratio_site row position m =
    record { quantity = PerturbedRatio; first = row; second = position; third = m; term = 1; kind = Div }

-- that of row u at position j: entry m of its perturbed residual over the absolute coordinate
abbrev pub IsRatioEntrySpill : {F : Type 0} → (F → Fraction) → ℕ → ℕ → (ℕ → ℕ) → ℕ → Nonbasic → ℕ → Spill F → Type 0
IsRatioEntrySpill value range n at j u m s =
    IsOperation value range (ratio_site u.row j m) (perturbed n at u m) (abs_ℚ (u.coord j)) s

-- an entry of one of two ratios on these sides overflows, and they agree at every entry before it
pub record IsSpillOn {F : Type 0} (value : F → Fraction) (range rows n : ℕ) (at : ℕ → ℕ) (j : ℕ) (left right : Side) (u v : Nonbasic)
    (s : Spill F) : Type 0 where
  pub entry : ℕ
  pub within : entry ≤ rows
  pub agree : (m : ℕ) → m < entry → ratio_on left n at j u m ≡ ratio_on right n at j v m
  pub spill : IsRatioEntrySpill value range n at j u entry s ⊎ IsRatioEntrySpill value range n at j v entry s

-- the same of two perturbed ratios over all rows of a problem
abbrev pub IsRatioSpill : {F : Type 0} → (F → Fraction) → ℕ → ℕ → ℕ → (ℕ → ℕ) → ℕ → Nonbasic → Nonbasic → Spill F → Type 0
IsRatioSpill value range rows n at j u v s =
    IsSpillOn value range rows n at j (perturbed_side rows n at u) (perturbed_side rows n at v) u v s
