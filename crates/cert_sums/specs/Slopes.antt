-- Inner. Dual values of the rows outside a basis as lines in the quantile, and sums over all rows of cells times these.
use Rattle.std.specs.Prelude.{◌≡◌, ℕ, zero, suc, ℤ, ◌<◌, ◌+◌, ◌*◌, ◌≤◌, ◌^◌, List, [], ◌∷◌, ◌++◌, length, get_or, slice_get}
use Rattle.std.specs.Prelude.{pos, unsigned_abs, Bool, true, false, cond}
use Rattle.std.specs.Option.{option_map_or}
use Rattle.rational_laws.specs.Fraction.{Fraction, rational}
use Rattle.rational_laws.specs.Rational.{ℚ, ◌+ℚ◌, ◌-ℚ◌, ◌*ℚ◌, whole, inverse}
use Rattle.rational_laws.specs.RationalSums.{sum_ℚ}
use Rattle.frac_core.specs.declared.frac128.Frac128.{Frac128}
use Rattle.frac_core.specs.Values.{value as value128}
use Rattle.loss_model.specs.declared.problem.Problem.{Problem}
use Rattle.loss_model.specs.declared.process.Segment.{Segment}
use Rattle.loss_model.specs.declared.vertex.Side.{Side}
use Rattle.loss_model.specs.declared.vertex.Side.TheVariants.{Up, Down, Basic}
use Rattle.loss_model.specs.declared.vertex.Vertex.{Vertex}
use Rattle.loss_model.specs.Problem.{sample}
use Rattle.loss_model.specs.Vertex.{basic_value}
use Rattle.loss_model.specs.Dual.{dual_objective}
use Rattle.rational_laws.specs.WholeLists.{whole_at}
use Rattle.cert_sums.specs.Duals.{side_in, dual_of}
use Rattle.cert_sums.specs.Sums.{cell_at, IsBalanced}
use Rattle.cert_sums.specs.Ends.{IsBegun}
use Rattle.cert_sums.specs.declared.table.Line.{Line}
use Rattle.cert_sums.specs.declared.table.WholeRow.{WholeRow}
use Rattle.cert_sums.specs.declared.table.Table.{Table}
use Rattle.cert_sums.specs.declared.slopes.Part.{Part}
use Rattle.cert_sums.specs.declared.slopes.Part.TheVariants.{Start, Slope}
use Rattle.cert_sums.specs.declared.slopes.Tally.{Tally}
use Rattle.cert_sums.specs.declared.reach.Reach.{Reach}

-- the side of row i in a list, which is Basic beyond its end
abbrev pub side_of : List Side → ℕ → Side
side_of sides i = option_map_or (λ side. side) (slice_get sides i) Basic

-- the line of a row on a side, which is 0 where it is basic
abbrev pub line_on : Side → WholeRow → Line
line_on Up w = w.up
line_on Down w = w.low
line_on Basic w = record { start = pos 0; slope = pos 0 }

-- a part of a line
abbrev pub part_of : Part → Line → ℤ
part_of Start l = l.start
part_of Slope l = l.slope

-- that part of the line of row i on its side
abbrev pub part_at : Part → List WholeRow → List Side → ℕ → ℚ
part_at part rows sides i = option_map_or (λ w. whole (part_of part (line_on (side_of sides i) w))) (slice_get rows i) (whole (pos 0))

-- by how much that changes, where row i passes from its old side to the new one
abbrev pub part_change : Part → List WholeRow → List Side → List Side → ℕ → ℚ
part_change part rows old new i = part_at part rows new i -ℚ part_at part rows old i

-- the sum over all rows of the cell at a place times that part
abbrev pub line_total : Part → List WholeRow → List Side → ℕ → ℚ
line_total part rows sides place = sum_ℚ (length rows) (λ i. cell_at rows place i *ℚ part_at part rows sides i)

-- the totals are these sums, place by place
abbrev pub AreTotals : Part → List WholeRow → ℕ → List Side → List ℤ → Type 0
AreTotals part rows width sides totals = (k : ℕ) → k < width → whole_at totals k ≡ line_total part rows sides k

-- a row keeps its line, since it is on one side outside both bases
abbrev pub is_settled : Side → Side → Bool
is_settled Up Up = true
is_settled Up Down = false
is_settled Up Basic = false
is_settled Down Up = false
is_settled Down Down = true
is_settled Down Basic = false
is_settled Basic new = false

-- the rows before n that don't, ascending
abbrev pub unsettled_rows : List Side → List Side → ℕ → List ℕ
unsettled_rows old new zero = []
unsettled_rows old new (suc n) = cond (is_settled (side_of old n) (side_of new n)) (unsettled_rows old new n) (unsettled_rows old new n ++ n ∷ [])

-- both totals, and rows among which all basic ones are
pub record IsTally (rows : List WholeRow) (width : ℕ) (sides : List Side) (t : Tally) : Type 0 where
  pub starts : AreTotals Start rows width sides t.starts
  pub slopes : AreTotals Slope rows width sides t.slopes
  pub before : List Side
  pub unsettled_is : t.unsettled ≡ unsettled_rows before sides (length rows)

-- a basic value, or 0 for a row outside the basis
abbrev pub basic_part : Side → ℚ → ℚ
basic_part Up b = whole (pos 0)
basic_part Down b = whole (pos 0)
basic_part Basic b = b

-- the basic value of a row at an end, times both scales, or 0 for a row outside the basis
abbrev pub basic_at : ℕ → ℕ → Vertex → List Fraction → ℕ → ℚ
basic_at scale cost v basic i = basic_part (side_in v i) ((whole (pos scale) *ℚ whole (pos cost)) *ℚ basic_value v basic i)

-- the dual value of row i at an end
abbrev pub end_dual : Problem Frac128 → Fraction → Vertex → List Fraction → ℕ → ℚ
end_dual p theta v basic i = dual_of (sample value128 p) (rational theta) v basic i

-- a sum of responses over what these and the dual values are multiplied by
abbrev pub over_scales : Table → ℕ → ℚ → ℚ
over_scales t scale x = x *ℚ inverse (whole (pos (scale * t.cost_scale * t.scale)))

-- the sum of the cells at a place of the rows of a list times the values beside these
abbrev pub listed_total : List WholeRow → ℕ → List ℕ → List ℤ → ℚ
listed_total rows place list values = sum_ℚ (length list) (λ j. cell_at rows place (get_or list j 0) *ℚ whole_at values j)

-- what a sum comes to at a quantile: its starts times the scale, its slopes times the quantile, and the basic rows
abbrev pub sum_at : List WholeRow → Tally → List ℤ → Reach → ℕ → ℚ
sum_at rows t values r place =
    ((whole (pos r.scale) *ℚ whole_at t.starts place) +ℚ (whole r.at *ℚ whole_at t.slopes place)) +ℚ listed_total rows place t.unsettled values

-- the dual values are orthogonal to the columns, and come to what is stated
pub record IsSummed (p : Problem Frac128) (e : ℕ → ℚ) (stated : ℚ) : Type 0 where
  pub balanced : IsBalanced (sample value128 p) e
  pub objective : stated ≡ dual_objective (sample value128 p) e

-- a quantile times the scale
pub record IsScaled (theta : ℚ) (r : Reach) : Type 0 where
  pub some : 1 ≤ r.scale
  pub at_theta : whole r.at ≡ whole (pos r.scale) *ℚ theta

-- the same, where numbers up to a limit have room
pub record IsReach (limit : ℕ) (theta : ℚ) (r : Reach) : Type 0 where
  pub some : 1 ≤ r.scale
  pub small : r.scale < 2 ^ 127
  pub room : limit * (r.scale + unsigned_abs r.at) < 2 ^ 127
  pub at_theta : whole r.at ≡ whole (pos r.scale) *ℚ theta

-- a segment that begins as it should, and its tally
pub record IsCounted (p : Problem Frac128) (t : Table) (counts : Tally) (s : Segment) : Type 0 where
  pub begun : IsBegun p s
  pub tally : IsTally t.rows (p.columns + 1) s.vertex.sides counts
