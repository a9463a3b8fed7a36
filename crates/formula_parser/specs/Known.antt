-- Inner. The terms of a list, as a set beside it.
use Rattle.std.specs.Prelude.{◌≡◌}
use Rattle.std.specs.HashSet.{HashSet, contains}
use Rattle.std.specs.Cmp.Lexicographic.{pointwise}
use mathlib.Core.Bool.{beq}
use Rattle.formula_parser.specs.Terms.{Term, Terms, is_in}

module _ {V S : Type 0} (items : V → Term) where
  -- the set has a key exactly where the list has it as a term
  abbrev pub Knows : HashSet V S → Terms → Type 0
  Knows seen all = (k : V) → contains (λ x y. pointwise beq (items x) (items y)) seen k ≡ is_in (items k) all
