-- Inner. Lists of sides.
use Rattle.std.specs.Prelude.{ℕ, List, slice_get}
use Rattle.std.specs.Option.{unwrap_or}
use Rattle.loss_model.specs.declared.vertex.Side.{Side}
use Rattle.loss_model.specs.declared.vertex.Side.TheVariants.{Basic}

-- the side of row i
abbrev pub side_in : List Side → ℕ → Side
side_in sides i = unwrap_or (slice_get sides i) Basic
