-- Lists of sides.
use Rattle.std.proofs.Common.{◌≡◌, ◌<◌, ℕ, zero, suc, List, [], ◌∷◌, length, get_or, arith, refl}
use Rattle.loss_model.specs.declared.vertex.Side.{Side}
use Rattle.loss_model.specs.Sides.{side_in}

-- the side that was read
pub side_read : (sides : List Side) (i : ℕ) (d : Side) → i < length sides → get_or sides i d ≡ side_in sides i
side_read [] i d l = absurd (omega arith)
side_read (s ∷ sides) zero d l = refl
side_read (s ∷ sides) (suc i) d l = side_read sides i d (omega arith)
