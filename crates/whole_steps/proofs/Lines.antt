-- The line along which a position leaves a station.
use Rattle.std.specs.Prelude.{◌≡◌, ℕ, ℤ, ◌<◌, Bool, List, length, slice_index, pos}
use Rattle.std.proofs.Common.{sym, ap, subst, ◌∙◌}
use Rattle.loss_model.specs.declared.vertex.Side.{Side}
use Rattle.loss_model.specs.Sample.{residual}
use Rattle.basis_model.specs.Basis.{coord, coefficient}
use Rattle.pivot_model.specs.declared.direction.Direction.{Direction}
use Rattle.pivot_model.specs.Steps.{moves}
use Rattle.whole_inverse.specs.Shares.{share, share_at}
use Rattle.whole_inverse.specs.Squares.{WholeSquare, inverse_of}
use Rattle.whole_rows.specs.Wholes.{sample_of_rows}
use Rattle.whole_solution.specs.declared.basis.WholeBasis.{WholeBasis}
use Rattle.whole_solution.specs.declared.near.Near.{Near}
use Rattle.whole_solution.specs.Far.{AreOthersFar, IsNear}
use Rattle.loss_model.specs.Sides.{side_in}
use Rattle.whole_steps.specs.declared.line.Line.{Line}
use Rattle.whole_steps.specs.declared.near_line.NearLine.{NearLine}
use Rattle.whole_steps.specs.declared.full_line.FullLine.{FullLine}
use Rattle.whole_steps.specs.Lines.{is_moving, IsFullLine, IsNearLine}
use Rattle.whole_steps.specs.declared.station.Station.{Station}
use Rattle.whole_steps.specs.Stations.{model, at_of, inverse_at, IsStation}
use Rattle.whole_steps.specs.declared.entering.RowNumbers.{RowNumbers}
use Rattle.whole_steps.specs.Entering.{IsLineOf, AreRowNumbers}

-- a row moves on the line of a position where it moves at the station
moves_at : WholeBasis ℤ WholeSquare → ℕ → Direction → ℕ → Bool
moves_at b j d i = moves (sample_of_rows (length b.inverse.now.columns) b.rows.now) (slice_index b.basis.now.rows) (inverse_of b.inverse.now) j d i

pub moving_is : (s : Station) (j : ℕ) (d : Direction) (l : Line ℤ WholeSquare) → IsLineOf s j d l → (i : ℕ) → is_moving l i ≡ moves (model s) (at_of s) (inverse_at s) j d i
unfolding is_moving moves_at
moving_is s j d l h i =
    ap (λ b. moves_at b l.position l.direction i) h.basis ∙ ap (λ k. moves_at s.basis.now k l.direction i) h.position ∙ ap (λ e. moves_at s.basis.now j e i) h.direction

-- what holds of the basis of a line, its position and its direction holds of the station's, and the other way
pub along : (P : WholeBasis ℤ WholeSquare → ℕ → Direction → Type 0) (s : Station) (j : ℕ) (d : Direction) (l : Line ℤ WholeSquare) → IsLineOf s j d l → P s.basis.now j d → P l.basis.now l.position l.direction
along P s j d l h x =
    subst (λ b. P b l.position l.direction) (sym h.basis) (subst (λ k. P s.basis.now k l.direction) (sym h.position) (subst (λ e. P s.basis.now j e) (sym h.direction) x))

pub back : (P : WholeBasis ℤ WholeSquare → ℕ → Direction → Type 0) (s : Station) (j : ℕ) (d : Direction) (l : Line ℤ WholeSquare) → IsLineOf s j d l → P l.basis.now l.position l.direction → P s.basis.now j d
back P s j d l h x =
    subst (λ e. P s.basis.now j e) h.direction (subst (λ k. P s.basis.now k l.direction) h.position (subst (λ b. P b l.position l.direction) h.basis x))

-- the numbers of all rows of a basis at a position
HasNumbers : WholeBasis ℤ WholeSquare → ℕ → List ℤ → List ℤ → Type 0
HasNumbers b j residuals coords =
    let p = sample_of_rows (length b.inverse.now.columns) b.rows.now in
    let a = inverse_of b.inverse.now in
    (length residuals ≡ length b.rows.now)
    × ((i : ℕ) → i < length b.rows.now → share_at b.inverse.now.determinant residuals i ≡ residual p (coefficient p (slice_index b.basis.now.rows) a) i)
    × (length coords ≡ length b.rows.now)
    × ((i : ℕ) → i < length b.rows.now → share_at b.inverse.now.determinant coords i ≡ coord p a i j)

-- a line with the numbers of all rows of the station
pub full_line : (s : Station) (j : ℕ) (d : Direction) (numbers : RowNumbers) (f : FullLine ℤ WholeSquare ℤ) → IsLineOf s j d f.line → AreRowNumbers s j numbers → f.residuals.now ≡ numbers.residuals → f.coords.now ≡ numbers.coords → IsFullLine f
unfolding HasNumbers
full_line s j d numbers f line are residuals coords =
    let held : HasNumbers s.basis.now j numbers.residuals numbers.coords = (are.size, are.residuals, are.all_coords, are.coords) in
    let moved : HasNumbers f.line.basis.now f.line.position f.residuals.now f.coords.now =
    along (λ b k e. HasNumbers b k f.residuals.now f.coords.now) s j d f.line line
    (subst (λ xs. HasNumbers s.basis.now j xs f.coords.now) (sym residuals) (subst (λ xs. HasNumbers s.basis.now j numbers.residuals xs) (sym coords) held)) in
    record { line = line.line; size = moved.0; residuals = moved.1; all_coords = moved.2; coords = moved.3 }

-- the coefficients and near rows of a basis with these rows on these sides
HasNear : WholeBasis ℤ WholeSquare → List Side → List ℤ → Near → Type 0
HasNear b sides coef near =
    let p = sample_of_rows (length b.inverse.now.columns) b.rows.now in
    let at = slice_index b.basis.now.rows in
    let a = inverse_of b.inverse.now in
    (length coef ≡ length b.inverse.now.columns)
    × ((k : ℕ) → k < length b.inverse.now.columns → share_at b.inverse.now.determinant coef k ≡ coefficient p at a k)
    × IsNear p (side_in sides) near
    × AreOthersFar p (side_in sides) near (share (pos near.reach) near.determinant) (coefficient p at a)

-- a line with the coefficients and near rows of the station
pub near_line : (s : Station) → IsStation s → (j : ℕ) (d : Direction) (n : NearLine) → IsLineOf s j d n.line → n.coef.now ≡ s.solution.now.coef → n.near.now ≡ s.solution.now.near → IsNearLine n
unfolding HasNear
near_line s h j d n line coef near =
    let there = h.solution in
    let held : HasNear s.basis.now s.solution.now.sides s.solution.now.coef s.solution.now.near = (there.columns, there.coef, there.near, there.far) in
    let moved : HasNear n.line.basis.now n.line.sides.now n.coef.now n.near.now =
    subst (λ b. HasNear b n.line.sides.now n.coef.now n.near.now) (sym line.basis)
    (subst (λ xs. HasNear s.basis.now xs n.coef.now n.near.now) (sym line.sides)
    (subst (λ xs. HasNear s.basis.now s.solution.now.sides xs n.near.now) (sym coef) (subst (λ x. HasNear s.basis.now s.solution.now.sides s.solution.now.coef x) (sym near) held))) in
    record { line = line.line; columns = moved.0; coef = moved.1; near = moved.2; far = moved.3 }
