-- Stated. Why smooths add nothing to a design: the faults in the order in which they are looked for, smooth by smooth.
use Rattle.std.specs.Prelude.{◌≡◌, ◌⊎◌, ℕ, ◌+◌, Bool, List, [], ◌∷◌, Option, Some, None, length, nat_lt, if◌then◌else◌}
use Rattle.std.specs.Option.{option_or}
use Rattle.frac_core.specs.declared.frac128.Frac128.{Frac128}
use Rattle.frac_core.specs.Limits.{most_columns}
use Rattle.frac_core.specs.Values.{exact}
use Rattle.loss_model.specs.declared.spill.Spill.{Spill}
use Rattle.formula_parser.specs.declared.formula.Formula.{Formula}
use Rattle.formula_parser.specs.declared.formula.Smooth.{Smooth}
use Rattle.design_matrix.specs.declared.design.Design.{Design}
use Rattle.design_matrix.specs.declared.design.DesignRow.{DesignRow}
use Rattle.design_matrix.specs.Cells.{Table, column_of}
use Rattle.design_matrix.specs.CodedVariable.{is_text}
use Rattle.tv_penalty.specs.declared.fault.PenaltyFault.{PenaltyFault}
use Rattle.tv_penalty.specs.declared.fault.PenaltyFault.TheVariants.{OutOfMemory, NotNumeric, TooFewKnots, Overflow, TooManyColumns}
use Rattle.tv_penalty.specs.Knots.{knots_of}
use Rattle.tv_penalty.specs.Operations.{SitedOperation, NoneOverflows, OverflowsFirst, smooth_operations}
use Rattle.tv_penalty.specs.Smoothings.{has_rows, part_of, width}

-- the column is a factor, or it has fewer than 3 values at the rows
unfoldable pub knots_fault : Table → List DesignRow → Smooth → Option PenaltyFault
knots_fault table rows s =
    if is_text (column_of table s.name)
    then Some (NotNumeric s.name)
    else (if nat_lt (length (knots_of table rows s)) 3 then Some (TooFewKnots s.name) else None)

-- there are more than 128 columns
abbrev pub columns_fault : ℕ → Option PenaltyFault
columns_fault columns = if nat_lt most_columns columns then Some TooManyColumns else None

-- what smooths are looked at by: whether they are penalised, whether there is an intercept, the table, and the rows
pub record Setting : Type 0 where
  pub penalised : Bool
  pub intercept : Bool
  pub table : Table
  pub rows : List DesignRow

-- the number of a smooth's columns
abbrev pub columns_in : Setting → Smooth → ℕ
columns_in at s = width at.intercept (part_of at.penalised at.table at.rows s)

-- what is wrong with a smooth before whose columns so many stand
abbrev pub smooth_fault : Setting → ℕ → Smooth → Option PenaltyFault
smooth_fault at before s = option_or (knots_fault at.table at.rows s) (columns_fault (before + columns_in at s))

-- the operations of a smooth's penalty rows
abbrev pub operations_of : Setting → ℕ → Smooth → List SitedOperation
operations_of at number s =
    if has_rows at.penalised (exact s.lambda) then smooth_operations number (knots_of at.table at.rows s) else []

-- an operation of the smooth overflows, and it is the first of them
pub record IsOverflow (at : Setting) (number : ℕ) (s : Smooth) (fault : PenaltyFault) : Type 0 where
  pub spill : Spill Frac128
  pub is : fault ≡ Overflow spill
  pub first : OverflowsFirst (operations_of at number s) spill

-- nothing is wrong with this smooth
pub record IsSoundSmooth (at : Setting) (number before : ℕ) (s : Smooth) : Type 0 where
  pub plain : smooth_fault at before s ≡ None
  pub fits : NoneOverflows (operations_of at number s)

-- nothing is wrong with any of them
abbrev pub AreSound : Setting → ℕ → ℕ → List Smooth → Type 0
AreSound at number before [] = Unit {0}
AreSound at number before (s ∷ ss) = IsSoundSmooth at number before s × AreSound at (number + 1) (before + columns_in at s) ss

-- the fault is this smooth's; its operations come last
abbrev pub IsSmoothFault : Setting → ℕ → ℕ → Smooth → PenaltyFault → Type 0
IsSmoothFault at number before s fault =
    (smooth_fault at before s ≡ Some fault) ⊎ ((smooth_fault at before s ≡ None) × IsOverflow at number s fault)

-- the fault is the first: of this smooth, or of a later one where this one is sound
abbrev pub IsFirstFault : Setting → ℕ → ℕ → List Smooth → PenaltyFault → Type 0
IsFirstFault at number before [] fault = ⊥
IsFirstFault at number before (s ∷ ss) fault =
    IsSmoothFault at number before s fault
    ⊎ (IsSoundSmooth at number before s × IsFirstFault at (number + 1) (before + columns_in at s) ss fault)

-- the setting of a design by a formula
abbrev pub setting_of : Bool → Table → Design → Formula → Setting
setting_of penalised table design model =
    record { penalised = penalised; intercept = model.intercept; table = table; rows = design.rows }

-- the smooths of the formula are sound
abbrev pub IsSound : Bool → Table → Design → Formula → Type 0
IsSound penalised table design model = AreSound (setting_of penalised table design model) 0 (length design.names) model.smooths

-- why there is nothing to add. Want of memory has no cause here
abbrev pub HasCause : Bool → Table → Design → Formula → PenaltyFault → Type 0
HasCause penalised table design model fault =
    (fault ≡ OutOfMemory) ⊎ IsFirstFault (setting_of penalised table design model) 0 (length design.names) model.smooths fault

-- why a smooth has no knots
abbrev pub HasKnotsCause : Table → List DesignRow → Smooth → PenaltyFault → Type 0
HasKnotsCause table rows s fault = (fault ≡ OutOfMemory) ⊎ (knots_fault table rows s ≡ Some fault)
