-- Stated. What the type of a certificate keeps: its bases list the basic rows, and an end is finite exactly where dual
-- values lie beyond it.
use Rattle.std.specs.Prelude.{◌≡◌, ℕ, ◌+◌, ◌<◌, ◌^◌, List, [], ◌∷◌, Bool, true, false}
use Rattle.loss_model.specs.declared.vertex.Side.{Side}
use Rattle.loss_model.specs.declared.vertex.Side.TheVariants.{Up, Down, Basic}
use Rattle.loss_model.specs.declared.vertex.Vertex.{Vertex}
use Rattle.loss_model.specs.declared.process.Segment.{Segment}
use Rattle.loss_model.specs.declared.interval.Bound.{Bound}
use Rattle.loss_model.specs.declared.interval.Bound.TheVariants.{Finite, Infinite}
use Rattle.loss_model.specs.declared.interval.Beyond.{Beyond}
use Rattle.loss_model.specs.declared.interval.Beyond.TheVariants.{Outside, Ray}
use Rattle.loss_model.specs.declared.interval.End.{End}
use Rattle.loss_model.specs.declared.interval.IntervalProof.{IntervalProof}

-- the rows that are Basic, ascending, where the first side is that of row i
abbrev pub basic_from : ℕ → List Side → List ℕ
basic_from i [] = []
basic_from i (Up ∷ sides) = basic_from (i + 1) sides
basic_from i (Down ∷ sides) = basic_from (i + 1) sides
basic_from i (Basic ∷ sides) = i ∷ basic_from (i + 1) sides

-- the rows that are Basic, ascending
abbrev pub basic_rows : List Side → List ℕ
basic_rows = basic_from 0

-- the basis lists the Basic rows
abbrev pub IsListed : Vertex → Type 0
IsListed v = v.basis.rows ≡ basic_rows v.sides

abbrev pub is_finite : {F : Type 0} → Bound F → Bool
is_finite (Finite x) = true
is_finite Infinite = false

abbrev pub is_outside : Beyond → Bool
is_outside (Outside xs) = true
is_outside (Ray xs) = false

abbrev pub IsKeptEnd : End → Type 0
IsKeptEnd e = IsListed e.vertex × (is_finite e.bound ≡ is_outside e.beyond)

abbrev pub IsKeptSegment : Segment → Type 0
IsKeptSegment s = IsListed s.vertex

-- the column is a number of 32 bits, as its type has it
abbrev pub IsKeptInterval : IntervalProof → Type 0
IsKeptInterval t = (t.column < 2 ^ 32) × (IsKeptEnd t.low × IsKeptEnd t.high)
