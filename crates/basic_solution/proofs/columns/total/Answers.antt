use Rattle.std.proofs.Common.{◌≡◌, ◌<◌, List, length, get_or, true, false, arith, refl, sym, ap, ◌∙◌}
use Rattle.rational_laws.specs.Fraction.{rational}
use Rattle.loss_model.specs.declared.spill.Site.{Site}
use Rattle.loss_model.specs.declared.vertex.Side.TheVariants.{Up}
use Rattle.loss_model.specs.Problem.{value_at, sample}
use Rattle.loss_model.proofs.Products.{value_read}
use Rattle.basis_model.specs.Basis.{bound_part}
use Rattle.basis_model.specs.BasisSpills.{is_basic, total_products}
use Rattle.basis_model.proofs.Sums.{partial_sum-begun, partial_sum-more, partial_sum-whole}
use Rattle.loss_model.specs.Sides.{side_in}
use Rattle.basic_solution.specs.Bases.{bound_of}
use Rattle.loss_model.proofs.Sides.{side_read}
use Rattle.basic_solution.proofs.Rows.{row_number, row_wide, row_bound}
use Rattle.basic_solution.proofs.RowTotals.{outside_before-le, one_more, none_more, passed, total_spill}
use Rattle.basic_solution.proofs.Exits.{by_exit}
use Rattle.basic_solution.proofs.columns.total.Goals as goal
use Rattle.basic_solution.proofs.columns.total.Goals.{then-not-is_basic+in_ok-sum, else-not-is_basic}

pub loop-i-init : goal.loop-i-init
loop-i-init g c =
    record { terms = refl; sum = partial_sum-begun (total_products (sample g.F.Exact.value c.args.problem.now) (side_in c.args.sides.now) c.args.part c.args.column) _ c.zero-sum.ensures }

pub plus_product-requires-clause-few : goal.plus_product-requires-clause-few
plus_product-requires-clause-few g c κs within =
    omega (arith, ap (λ (s : Site). s.term) c.new-site.ensures, outside_before-le (side_in c.args.sides.now) c.loop-i.i, c.loop-i.invariant.terms, c.requires.shaped.rows, ap length c.as_slice-rows.ensures, c.loop-i-test.true)

pub overflow_add-terms : goal.overflow_add-terms
overflow_add-terms g c =
    omega (arith, outside_before-le (side_in c.args.sides.now) c.loop-i.i, c.loop-i.invariant.terms, c.requires.shaped.rows, ap length c.as_slice-rows.ensures, c.loop-i-test.true)

pub returns-in_err-sum-clause-spilled : goal.returns-in_err-sum-clause-spilled
returns-in_err-sum-clause-spilled g c =
    let value = g.F.Exact.value in
    let p = c.args.problem.now in
    let i = c.loop-i.i in
    let side = side_in c.args.sides.now in
    let within : i < length p.rows = omega (arith, ap length c.as_slice-rows.ensures) in
    let here : get_or c.args.sides.now i Up ≡ side i = side_read c.args.sides.now i Up (omega arith) in
    let row = c.index-rows-i.result in
    let read : row ≡ get_or p.rows i row = rw c.as_slice-rows.ensures at c.index-rows-i.is in
    let wide : c.args.column < length c.as_slice.result.now = omega (arith, ap length c.as_slice.ensures, row_wide value p i row within read c.requires.shaped, c.requires.column) in
    let entry : rational (value c.index-as_slice-column.result) ≡ (sample value p).x i c.args.column = value_read value c.as_slice.result.now c.args.column c.index-as_slice-column.result wide c.index-as_slice-column.is
    ∙ ap (λ (xs : List g.row.F.Denot). value_at value xs c.args.column) c.as_slice.ensures ∙ row_number value p i row within read (λ r. value_at value r.x c.args.column) in
    let weight : rational (value c.bound.result) ≡ bound_part (sample value p) c.args.part i (side i) = c.bound.ensures ∙ ap (bound_of value row c.args.part) here ∙ row_bound value p i row within read c.args.part (side i) in
    let outside : is_basic (side i) ≡ false = sym (ap is_basic here) ∙ sym c.is_basic.ensures ∙ c.if-not-is_basic.true in
    let spilled = rw (c.new-site.ensures, c.number.ensures) at (c.in_err-sum.ensures {u = tt}).spilled in
    by_exit c.from_residual.result _ _ c.from_residual.ensures.1
    (total_spill (sample value p) side c.args.part c.args.column i value g.F.Exact.range c.loop-i.terms _ _ _ _ within outside c.loop-i.invariant.terms c.loop-i.invariant.sum entry weight spilled)

pub loop-i-preserved : goal.loop-i-preserved
loop-i-preserved g c =
    let value = g.F.Exact.value in
    let p = c.args.problem.now in
    let i = c.loop-i.i in
    let side = side_in c.args.sides.now in
    let within : i < length p.rows = omega (arith, ap length c.as_slice-rows.ensures) in
    let here : get_or c.args.sides.now i Up ≡ side i = side_read c.args.sides.now i Up (omega arith) in
    let t = total_products (sample value p) side c.args.part c.args.column in
    elim c.if-not-is_basic.branch [
      | then-not-is_basic+in_ok-sum w ↦
          let row = w.index-rows-i.result in
          let read : row ≡ get_or p.rows i row = rw c.as_slice-rows.ensures at w.index-rows-i.is in
          let wide : c.args.column < length w.as_slice.result.now = omega (arith, ap length w.as_slice.ensures, row_wide value p i row within read c.requires.shaped, c.requires.column) in
          let entry : rational (value w.index-as_slice-column.result) ≡ (sample value p).x i c.args.column = value_read value w.as_slice.result.now c.args.column w.index-as_slice-column.result wide w.index-as_slice-column.is
          ∙ ap (λ (xs : List g.row.F.Denot). value_at value xs c.args.column) w.as_slice.ensures ∙ row_number value p i row within read (λ r. value_at value r.x c.args.column) in
          let weight : rational (value w.bound.result) ≡ bound_part (sample value p) c.args.part i (side i) = w.bound.ensures ∙ ap (bound_of value row c.args.part) here ∙ row_bound value p i row within read c.args.part (side i) in
          let outside : is_basic (side i) ≡ false = sym (ap is_basic here) ∙ sym c.is_basic.ensures ∙ w.if-not-is_basic.true in
          record {
            terms = w.terms-is ∙ one_more side i c.loop-i.terms outside c.loop-i.invariant.terms;
            sum = ap (λ (x : g.row.F.Denot). rational (value x)) w.sum-is ∙ partial_sum-more t i _ _ _ _ c.loop-i.invariant.sum entry weight (w.in_ok-sum.ensures {u = tt}).exact;
          }
      | else-not-is_basic w ↦
          let basic : is_basic (side i) ≡ true = sym (ap is_basic here) ∙ sym c.is_basic.ensures ∙ w.if-not-is_basic.false in
          record {
            terms = w.terms-is ∙ none_more side i c.loop-i.terms basic c.loop-i.invariant.terms;
            sum = ap (λ (x : g.row.F.Denot). rational (value x)) w.sum-is ∙ passed (sample value p) side c.args.part c.args.column i _ basic c.loop-i.invariant.sum;
          }
    ]

pub returns-clause-exact : goal.returns-clause-exact
returns-clause-exact g c =
    let value = g.F.Exact.value in
    let end : c.loop-i.i ≡ length c.args.problem.now.rows = omega (arith, ap length c.as_slice-rows.ensures) in
    partial_sum-whole (total_products (sample value c.args.problem.now) (side_in c.args.sides.now) c.args.part c.args.column) c.loop-i.i _ end refl c.loop-i.invariant.sum

pub bounds-sides-i : goal.bounds-sides-i
bounds-sides-i g c = omega (arith, ap length c.as_slice-rows.ensures, c.requires.sides, c.loop-i-test.true)

pub bounds-as_slice-column : goal.bounds-as_slice-column
bounds-as_slice-column g c =
    let value = g.F.Exact.value in
    let p = c.args.problem.now in
    let row = c.index-rows-i.result in
    let within : c.loop-i.i < length p.rows = omega (arith, ap length c.as_slice-rows.ensures) in
    let read : row ≡ get_or p.rows c.loop-i.i row = rw c.as_slice-rows.ensures at c.index-rows-i.is in
    omega (arith, ap length c.as_slice.ensures, row_wide value p c.loop-i.i row within read c.requires.shaped, c.requires.column)
