-- Stated. The operations of penalty rows, and the first of them that overflows.
use Rattle.std.specs.Prelude.{ℕ, suc, ◌+◌, ◌-◌, ◌^◌, ◌⊎◌, List, [], ◌∷◌, length, pos}
use Rattle.std.specs.List.{flat_map, range_with_len}
use Rattle.rational_laws.specs.Rational.{ℚ, ◌-ℚ◌, inverse, whole}
use Rattle.frac_core.specs.declared.exact.OpKind.{OpKind}
use Rattle.frac_core.specs.declared.exact.OpKind.TheVariants.{Sub}
use Rattle.frac_core.specs.declared.frac128.Frac128.{Frac128}
use Rattle.frac_core.specs.Values.{value}
use Rattle.loss_model.specs.declared.spill.Quantity.TheVariants.{PenaltyEntry}
use Rattle.loss_model.specs.declared.spill.Site.{Site}
use Rattle.loss_model.specs.declared.spill.Spill.{Spill}
use Rattle.loss_model.specs.Spill.{Operation, IsOperation, addition, division, subtraction}
use Rattle.tv_penalty.specs.Smoothings.{knot_at}

-- an operation by its site, which has its kind, and its operands
pub record SitedOperation : Type 0 where
  pub site : Site
  pub left : ℚ
  pub right : ℚ

-- an operation of this kind at a site
abbrev pub operation_at : Site → OpKind → ℚ → ℚ → SitedOperation
operation_at site kind left right = record { site = record site { kind = kind }; left = left; right = right }

-- the spill names this operation, which overflows
abbrev pub IsSpillOf : SitedOperation → Spill Frac128 → Type 0
IsSpillOf op s = IsOperation value (2 ^ 127 - 1) op.site op.left op.right s

-- the operation overflows
abbrev pub Overflows : SitedOperation → Type 0
Overflows op = (s : Spill Frac128) × IsSpillOf op s

-- none of them does
abbrev pub NoneOverflows : List SitedOperation → Type 0
NoneOverflows [] = Unit {0}
NoneOverflows (op ∷ ops) = (¬ Overflows op) × NoneOverflows ops

-- the first of them that overflows is the spill's
abbrev pub OverflowsFirst : List SitedOperation → Spill Frac128 → Type 0
OverflowsFirst [] s = ⊥
OverflowsFirst (op ∷ ops) s = IsSpillOf op s ⊎ ((¬ Overflows op) × OverflowsFirst ops s)

-- where an operation at a knot of a smooth stands
abbrev pub knot_site : ℕ → ℕ → ℕ → OpKind → Site
knot_site smooth knot term kind =
    record { quantity = PenaltyEntry; first = smooth; second = knot; third = 0; term = term; kind = kind }

-- operations one after the other; they bear this term and those after it
abbrev pub numbered_from : Site → ℕ → List Operation → List SitedOperation
numbered_from site term [] = []
numbered_from site term (o ∷ os) =
    record { site = record site { term = term; kind = o.kind }; left = o.left; right = o.right } ∷ numbered_from site (suc term) os

-- of the knot y between x and z: the gap below, the gap above, the reciprocals of both, and their sum
abbrev pub knot_operations : ℕ → ℕ → ℚ → ℚ → ℚ → List SitedOperation
knot_operations smooth knot x y z =
    numbered_from (knot_site smooth knot 1 Sub) 1 (
    subtraction y x ∷ subtraction z y ∷ division (whole (pos 1)) (y -ℚ x) ∷ division (whole (pos 1)) (z -ℚ y)
    ∷ addition (inverse (y -ℚ x)) (inverse (z -ℚ y)) ∷ []
    )

-- those at the knot after knot k
abbrev pub operations_after : ℕ → List Frac128 → ℕ → List SitedOperation
operations_after smooth knots k = knot_operations smooth (k + 1) (knot_at knots k) (knot_at knots (k + 1)) (knot_at knots (k + 2))

-- those at the inner knots of a smooth, ascending
abbrev pub smooth_operations : ℕ → List Frac128 → List SitedOperation
smooth_operations smooth knots = flat_map (operations_after smooth knots) (range_with_len 0 (length knots - 2))
