-- The numbers of the row times the change of its bound.
use Rattle.std.proofs.Common.{rules, ◌≡◌, to_z, of_z, ◌+ℤ◌, ◌*ℤ◌, pos, refl, sym, ap, ◌∙◌}
use mir.Syntax.{w128}
use Rattle.rational_laws.specs.Rational.{◌+ℚ◌, ◌-ℚ◌, ◌*ℚ◌, whole}
use Rattle.rational_laws.specs.WholeLists.{whole_at}
use Rattle.whole_solution.specs.Weighing.{bound_of}
use Rattle.whole_solution.proofs.Moved.{raised_whole, raised_none}
use Rattle.whole_solution.proofs.totals.Totals+i128.turn.Goals as goal

pub returns : goal.returns
returns c =
    let before = c.args.self.now in
    let r = c.args.chosen.now in
    let w = c.in_ok-weight.weight in
    let n = c.in_ok-self.field-0 in
    let ew : to_z w128 (of_z w128 w) ≡ w = search rules in
    let en : to_z w128 (of_z w128 n) ≡ n = search rules in
    let weight = c.in_ok-weight.ensures {u = tt} in
    let columns = rw (c.as_slice.ensures, ew) at c.in_ok-raise_columns.ensures in
    let is : n ≡ before.response +ℤ (w *ℤ r.y) = search rules in
    rw (en) (record {
      size = columns.size;
      columns = λ k lk. columns.each k lk ∙ ap (λ w. whole_at before.columns k +ℚ (whole_at r.x k *ℚ w)) weight;
      response = raised_whole n before.response w r.y is ∙ ap (λ w. whole before.response +ℚ (whole r.y *ℚ w)) weight;
    })

pub returns-then-weight-eq0 : goal.returns-then-weight-eq0
returns-then-weight-eq0 c =
    let before = c.args.self.now in
    let r = c.args.chosen.now in
    let zero : c.in_ok-weight.weight ≡ pos 0 = search rules in
    let none : whole (pos 0) ≡ bound_of r c.args.part c.args.turn.to -ℚ bound_of r c.args.part c.args.turn.from = ap whole (sym zero) ∙ c.in_ok-weight.ensures {u = tt} in
    record {
      size = refl;
      columns = λ k lk. raised_none (whole_at before.columns k) (whole_at r.x k) _ none;
      response = raised_none (whole before.response) (whole r.y) _ none;
    }
