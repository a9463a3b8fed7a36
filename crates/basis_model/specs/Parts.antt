-- Stated. The parts of a cost by their numbers.
use Rattle.std.specs.Prelude.{ℕ}
use Rattle.basis_model.specs.declared.part.Part.{Part}
use Rattle.basis_model.specs.declared.part.Part.TheVariants.{Constant, Linear}

-- the constant part is 0, and the one that the quantile multiplies is 1
abbrev pub part_number : Part → ℕ
part_number Constant = 0
part_number Linear = 1
