-- One smooth after the other.
use Rattle.std.proofs.Common.{◌≡◌, ◌⊎◌, ◌<◌, ◌≤◌, ◌+◌, ℕ, Bool, true, false, List, [], Option, Some, None, length, nat_lt, if◌then◌else◌, refl, sym, ap, ap₂, subst, ◌∙◌, arith, inl, inr}
use borrow.Author.Tests.{lt-ltb, ltb-true}
use Rattle.std.specs.Option.{option_or}
use Rattle.frac_core.specs.declared.frac128.Frac128.{Frac128}
use Rattle.frac_core.specs.Values.{exact}
use Rattle.loss_model.specs.declared.spill.Spill.{Spill}
use Rattle.formula_parser.specs.declared.formula.Smooth.{Smooth}
use Rattle.tv_penalty.specs.declared.fault.PenaltyFault.{PenaltyFault}
use Rattle.tv_penalty.specs.declared.fault.PenaltyFault.TheVariants.{OutOfMemory, Overflow, TooManyColumns}
use Rattle.tv_penalty.specs.Faults.{IsSmoothFault, IsSoundSmooth, Setting, columns_fault, columns_in, knots_fault, operations_of, smooth_fault}
use Rattle.tv_penalty.specs.Knots.{cells_of, knots_of}
use Rattle.tv_penalty.specs.Operations.{NoneOverflows, OverflowsFirst, smooth_operations}
use Rattle.tv_penalty.specs.Smoothings.{Bend, PartOf, bends_of, has_rows, part_of, with_columns}

beyond : (columns : ℕ) → 128 < columns → columns_fault columns ≡ Some TooManyColumns
beyond columns l = ap (λ b. if b then Some TooManyColumns else None) (lt-ltb 128 columns l)

inside : (columns : ℕ) → columns ≤ 128 → columns_fault columns ≡ None
inside columns l = by (nat_lt 128 columns) refl
  where
    by : (b : Bool) → nat_lt 128 columns ≡ b → (if b then Some TooManyColumns else None) ≡ None
    by true e = let over : 128 < columns = ltb-true 128 columns e in absurd (omega arith)
    by false e = refl

module _ (at : Setting) (number before : ℕ) (s : Smooth) (ks : List Frac128) (same : ks ≡ knots_of at.table at.rows s) where
  pub columns_are : length (with_columns at.intercept ks) ≡ columns_in at s
  unfolding part_of
  columns_are = ap (λ z. length (with_columns at.intercept z)) same

  pub too_many : knots_fault at.table at.rows s ≡ None → 128 < before + length (with_columns at.intercept ks) → smooth_fault at before s ≡ Some TooManyColumns
  too_many sound over =
      ap (λ o. option_or o (columns_fault (before + columns_in at s))) sound
      ∙ ap (λ n. columns_fault (before + n)) (sym columns_are) ∙ beyond (before + length (with_columns at.intercept ks)) over

  pub none_wrong : knots_fault at.table at.rows s ≡ None → before + length (with_columns at.intercept ks) ≤ 128 → smooth_fault at before s ≡ None
  none_wrong sound few =
      ap (λ o. option_or o (columns_fault (before + columns_in at s))) sound
      ∙ ap (λ n. columns_fault (before + n)) (sym columns_are) ∙ inside (before + length (with_columns at.intercept ks)) few

  module _ (penalised : Bool) (asked : penalised ≡ has_rows at.penalised (exact s.lambda)) where
    operations_are : (if penalised then smooth_operations number ks else []) ≡ operations_of at number s
    operations_are = ap₂ (λ b z. if b then smooth_operations number z else []) asked same

    pub is_sound : knots_fault at.table at.rows s ≡ None → before + length (with_columns at.intercept ks) ≤ 128 → NoneOverflows (if penalised then smooth_operations number ks else []) → IsSoundSmooth at number before s
    is_sound sound few fits = record { plain = none_wrong sound few; fits = subst NoneOverflows operations_are fits }

    pub is_fault : (fault : PenaltyFault) → knots_fault at.table at.rows s ≡ None → before + length (with_columns at.intercept ks) ≤ 128
        → (fault ≡ OutOfMemory) ⊎ ((x : Spill Frac128) × (fault ≡ Overflow x) × OverflowsFirst (if penalised then smooth_operations number ks else []) x)
        → (fault ≡ OutOfMemory) ⊎ IsSmoothFault at number before s fault
    is_fault fault sound few (inl e) = inl e
    is_fault fault sound few (inr x) =
        inr (inr (none_wrong sound few, record { spill = x.0; is = x.1; first = subst (λ ops. OverflowsFirst ops x.0) operations_are x.2 }))

    pub is_part : (cells : List (Option Frac128)) (bends : List Bend) → cells ≡ cells_of at.table s → bends ≡ (if penalised then bends_of ks else [])
        → (let p : PartOf = record { name = s.name; lambda = exact s.lambda; cells = cells; knots = ks; bends = bends } in p) ≡ part_of at.penalised at.table at.rows s
    unfolding part_of
    is_part cells bends from made = cc (from, same, made ∙ ap₂ (λ b z. if b then bends_of z else []) asked same)

-- the bends of knots that are the same
pub bends_at : (b : Bool) {xs ys : List Frac128} → xs ≡ ys → (if b then bends_of xs else []) ≡ (if b then bends_of ys else [])
bends_at b e = ap (λ z. if b then bends_of z else []) e
