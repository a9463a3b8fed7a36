-- Inner. The two ends of a segment.
use Rattle.std.specs.Prelude.{◌⊎◌, ℕ}
use Rattle.rational_laws.specs.Fraction.{Fraction}
use Rattle.rational_laws.specs.Rational.{ℚ}
use Rattle.loss_model.specs.declared.spill.Spill.{Spill}
use Rattle.basis_model.specs.BasisSpills.{IsBasisSpill}
use Rattle.walk_model.specs.WalkSpills.{IsEndSpill}
use Rattle.fraction_tableau.specs.declared.view.BasisView.{BasisView}
use Rattle.fraction_tableau.specs.declared.ends.End.{End}
use Rattle.fraction_tableau.specs.declared.ends.End.TheVariants.{Low, High}
use Rattle.fraction_tableau.specs.Views.{sample_at, rows_at, entries_at}

-- the number of an end in the site of its loss
abbrev pub end_number : End → ℕ
end_number Low = 0
end_number High = 1

-- at a quantity of the basis, or at the end
abbrev pub IsEndedSpill : {F : Type 0} → (F → Fraction) → ℕ → BasisView F → ℚ → End → Spill F → Type 0
IsEndedSpill value range v theta end s =
    IsBasisSpill value range (sample_at value v) (rows_at value v) (entries_at value v) s
    ⊎ IsEndSpill value range (sample_at value v) (rows_at value v) (entries_at value v) (end_number end) theta s
