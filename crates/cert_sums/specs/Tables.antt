-- Inner. A problem in whole numbers.
use Rattle.std.specs.Prelude.{◌≡◌, ℕ, ◌<◌, ◌≤◌, ◌+◌, List, length, All, IsTrue, pos, unsigned_abs}
use Rattle.rational_laws.specs.Fraction.{rational}
use Rattle.rational_laws.specs.Rational.{ℚ, ◌*ℚ◌, neg_ℚ, whole}
use Rattle.frac_core.specs.declared.frac128.Frac128.{Frac128}
use Rattle.frac_core.specs.Values.{value as value128}
use Rattle.loss_model.specs.declared.problem.Row.{Row}
use Rattle.loss_model.specs.declared.problem.Problem.{Problem}
use Rattle.loss_model.specs.Problem.{value_at}
use Rattle.rational_laws.specs.WholeLists.{whole_at}
use Rattle.rational_laws.specs.Pairs.{ArePaired}
use Rattle.cert_sums.specs.declared.table.Line.{Line}
use Rattle.cert_sums.specs.declared.table.WholeRow.{WholeRow}
use Rattle.cert_sums.specs.declared.table.Table.{Table}

-- two fractions times a number
pub record IsLine (scale : ℕ) (start slope : ℚ) (l : Line) : Type 0 where
  pub at_start : whole l.start ≡ whole (pos scale) *ℚ start
  pub rise : whole l.slope ≡ whole (pos scale) *ℚ slope

-- neither is beyond a limit in size
pub record IsSmallLine (limit : ℕ) (l : Line) : Type 0 where
  pub at_start : unsigned_abs l.start ≤ limit
  pub rise : unsigned_abs l.slope ≤ limit

-- a row of so many columns, its entries and its response times a number, and its bounds times another
pub record IsRowOf (scale cost : ℕ) (columns : ℕ) (r : Row Frac128) (w : WholeRow) : Type 0 where
  pub width : length w.cells ≡ columns + 1
  pub x : (k : ℕ) → k < columns → whole_at w.cells k ≡ whole (pos scale) *ℚ value_at value128 r.x k
  pub y : whole_at w.cells columns ≡ whole (pos scale) *ℚ rational (value128 r.y)
  pub up : IsLine cost (rational (value128 r.up0)) (rational (value128 r.up1)) w.up
  pub low : IsLine cost (neg_ℚ (rational (value128 r.down0))) (neg_ℚ (rational (value128 r.down1))) w.low

-- rows have their cells in 64 bits too
abbrev pub AreNarrow : List WholeRow → Type 0
AreNarrow rows = All (λ w. w.narrow ≡ w.cells) rows

-- its cells in 64 bits and its costs are within their limits
pub record IsSmallRow (limit cost_limit : ℕ) (w : WholeRow) : Type 0 where
  pub cells : All (λ e. unsigned_abs e ≤ limit) w.narrow
  pub up : IsSmallLine cost_limit w.up
  pub low : IsSmallLine cost_limit w.low

-- a table is the problem in whole numbers, all of them within its limits
pub record IsTable (p : Problem Frac128) (t : Table) : Type 0 where
  pub columns : t.columns ≡ p.columns
  pub size : length t.rows ≡ length p.rows
  pub paired : ArePaired (IsRowOf t.scale t.cost_scale p.columns) p.rows t.rows
  pub small : All (IsSmallRow t.limit t.cost_limit) t.rows
  pub narrow : IsTrue t.is_narrow → AreNarrow t.rows
  pub scale : 1 ≤ t.scale
  pub cost_scale : 1 ≤ t.cost_scale
