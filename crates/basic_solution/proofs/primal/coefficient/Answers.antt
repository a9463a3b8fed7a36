use Rattle.std.proofs.Common.{◌≡◌, ◌<◌, length, slice_index, get_or, arith, refl, sym, ap, zero-add}
use Rattle.rational_laws.specs.Fraction.{rational}
use Rattle.loss_model.specs.declared.spill.Quantity.TheVariants.{Coefficient}
use Rattle.loss_model.specs.Problem.{sample}
use Rattle.loss_model.specs.Spill.{site_of}
use Rattle.loss_model.proofs.Products.{step_spill}
use Rattle.basis_inverse.specs.Square.{inverse_entry}
use Rattle.basis_model.specs.BasisSpills.{coefficient_products}
use Rattle.basis_model.proofs.Sums.{partial_sum-begun, partial_sum-more, partial_sum-whole}
use Rattle.basic_solution.proofs.Rows.{row_number}
use Rattle.basic_solution.proofs.Exits.{by_exit}
use Rattle.basic_solution.proofs.primal.coefficient.Goals as goal

pub loop-position-init : goal.loop-position-init
loop-position-init g c =
    partial_sum-begun (coefficient_products (sample g.F.Exact.value c.args.problem.now) (slice_index c.args.basis.now.rows) (inverse_entry g.F.Exact.value c.args.inverse.now) c.args.column) _ c.zero-total.ensures

pub loop-position-preserved : goal.loop-position-preserved
loop-position-preserved g c =
    let value = g.F.Exact.value in
    let p = c.args.problem.now in
    let at = slice_index c.args.basis.now.rows in
    let j = c.loop-position.position in
    let r = c.index-rows-row.result in
    let here : j < p.columns = omega arith in
    let read : r ≡ get_or p.rows (at j) r = rw (c.as_slice-rows.ensures, c.as_slice-held.ensures) at c.index-rows-row.is in
    let response : rational (value r.y) ≡ (sample value p).y (at j) = row_number value p (at j) r (c.requires.basis.distinct.within j here) read (λ r. rational (value r.y)) in
    partial_sum-more (coefficient_products (sample value p) at (inverse_entry value c.args.inverse.now) c.args.column) j _ _ _ _ c.loop-position.invariant c.entry.ensures response
    (rw (← c.index-rows-row.is) at (c.in_ok-total.ensures {u = tt}).exact)

pub returns-in_err-total-clause-spilled : goal.returns-in_err-total-clause-spilled
returns-in_err-total-clause-spilled g c =
    let value = g.F.Exact.value in
    let p = c.args.problem.now in
    let at = slice_index c.args.basis.now.rows in
    let j = c.loop-position.position in
    let r = c.index-rows-row.result in
    let here : j < p.columns = omega arith in
    let read : r ≡ get_or p.rows (at j) r = rw (c.as_slice-rows.ensures, c.as_slice-held.ensures) at c.index-rows-row.is in
    let response : rational (value r.y) ≡ (sample value p).y (at j) = row_number value p (at j) r (c.requires.basis.distinct.within j here) read (λ r. rational (value r.y)) in
    let spilled = rw (c.new-site.ensures, ← c.index-rows-row.is) at (c.in_err-total.ensures {u = tt}).spilled in
    by_exit c.from_residual.result _ _ c.from_residual.ensures.1
    (step_spill value g.F.Exact.range (site_of Coefficient c.args.column 0 0) (coefficient_products (sample value p) at (inverse_entry value c.args.inverse.now) c.args.column) j j _ _ _ _
    (sym (zero-add j)) here c.loop-position.invariant c.entry.ensures response spilled)

pub returns-clause-exact : goal.returns-clause-exact
returns-clause-exact g c =
    let value = g.F.Exact.value in
    let end : c.loop-position.position ≡ c.args.problem.now.columns = omega arith in
    partial_sum-whole (coefficient_products (sample value c.args.problem.now) (slice_index c.args.basis.now.rows) (inverse_entry value c.args.inverse.now) c.args.column) c.loop-position.position _ end refl c.loop-position.invariant

pub bounds-held-position : goal.bounds-held-position
bounds-held-position g c = omega (arith, ap length c.as_slice-held.ensures, c.requires.basis.same)

pub bounds-rows-row : goal.bounds-rows-row
bounds-rows-row g c =
    let here : c.loop-position.position < c.args.problem.now.columns = omega arith in
    rw (c.as_slice-rows.ensures, c.as_slice-held.ensures) (c.requires.basis.distinct.within c.loop-position.position here)

pub entry-requires-clause-column : goal.entry-requires-clause-column
entry-requires-clause-column g c κs within = omega (arith, c.requires.basis.size, c.requires.within)

pub entry-requires-clause-position : goal.entry-requires-clause-position
entry-requires-clause-position g c κs within = omega (arith, c.requires.basis.size)
