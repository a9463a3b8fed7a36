use Rattle.std.proofs.Common.{◌≡◌, ℕ, slice_index, true, false, sym, ap, subst, ◌∙◌}
use Rattle.std.specs.Prelude.{◌==◌, if◌then◌else◌}
use Rattle.std.specs.List.{list_any}
use Rattle.std.proofs.lemmas.Result.{IfOk-weaker}
use Rattle.rational_laws.specs.Selections.{is_among}
use Rattle.loss_model.specs.declared.vertex.Side.TheVariants.{Basic}
use Rattle.loss_model.specs.Problem.{sample}
use Rattle.basis_inverse.specs.Square.{inverse_entry}
use Rattle.basis_model.specs.Perturbed.{perturbed_side}
use Rattle.basis_model.specs.Basis.{outside_row}
use Rattle.basic_solution.proofs.RowSides.{any_among}
use Rattle.basic_solution.proofs.signs.side_of_row.Goals as goal

pub returns-then-contains-clause-side : goal.returns-then-contains-clause-side
returns-then-contains-clause-side g c =
    let value = g.F.Exact.value in
    let p = sample value c.args.station.now.problem.now in
    let basis = c.args.station.now.basis.now.rows in
    let test : c.contains.result ≡ list_any (λ (y : ℕ). y == c.args.row) c.as_slice.result.now = c.contains.ensures.value in
    let among : is_among (slice_index basis) p.columns c.args.row ≡ true =
    subst (λ n. is_among (slice_index basis) n c.args.row ≡ true) c.requires.basis.same (sym (any_among basis c.args.row) ∙ sym (rw c.as_slice.ensures at test) ∙ c.if-contains.true) in
    sym (ap (λ t. if t then Basic else perturbed_side p.rows p.columns (slice_index basis) (outside_row p (slice_index basis) (inverse_entry value c.args.station.now.inverse.now) c.args.row)) among)

pub returns-clause-side : goal.returns-clause-side
returns-clause-side g c =
    let value = g.F.Exact.value in
    let p = sample value c.args.station.now.problem.now in
    let basis = c.args.station.now.basis.now.rows in
    let test : c.contains.result ≡ list_any (λ (y : ℕ). y == c.args.row) c.as_slice.result.now = c.contains.ensures.value in
    let among : is_among (slice_index basis) p.columns c.args.row ≡ false =
    subst (λ n. is_among (slice_index basis) n c.args.row ≡ false) c.requires.basis.same (sym (any_among basis c.args.row) ∙ sym (rw c.as_slice.ensures at test) ∙ c.if-contains.false) in
    IfOk-weaker c.perturbed_side.result _ _
    (λ s h. h ∙ sym (ap (λ t. if t then Basic else perturbed_side p.rows p.columns (slice_index basis) (outside_row p (slice_index basis) (inverse_entry value c.args.station.now.inverse.now) c.args.row)) among))
    c.perturbed_side.ensures.side
