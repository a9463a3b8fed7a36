use Rattle.std.proofs.Common.{◌<◌, ℕ, length, ap, sym, subst, ◌∙◌}
use Rattle.loss_model.specs.Quantities.{IsShortOf, IsExchangeSpill}
use Rattle.basis_inverse.specs.Square.{inverse_entry}
use Rattle.basis_inverse.proofs.Underway.{is_read}
use Rattle.fraction_tableau.proofs.Inverses.{at_read, coordinate_read, inverse_after}
use Rattle.fraction_tableau.proofs.fractions.FractionTableau.enter.Goals as goal

pub invariant_of-self-2 : goal.invariant_of-self-2
invariant_of-self-2 g c =
    let before = c.self.inside in
    let p = before.problem.now in
    let xs = c.as_slice-x.result.now in
    let exchanged = c.in-Ok.ensures {u = tt} in
    let within = rw (← c.self.view_is) at c.requires.row in
    let read = is_read p c.as_slice.result.now c.args.step.row c.index-as_slice-step.result xs c.self.invariant.shaped c.as_slice.ensures
    (subst (λ (n : ℕ). c.args.step.row < n) (sym (ap length c.as_slice.ensures)) within) c.index-as_slice-step.is c.as_slice-x.ensures in
    record {
      shaped = c.self.invariant.shaped;
      inverse = rw c.replace.ensures.new (inverse_after g.F.Exact.value p before.basis.rows before.inverse c.exchange.new.self c.args.step.position c.args.step.row c.index-as_slice-step.result xs read c.self.invariant.inverse exchanged.rows
          exchanged.inverse exchanged.size);
    }

pub exchange-requires-clause-size : goal.exchange-requires-clause-size
exchange-requires-clause-size g c κs within =
    let value = g.F.Exact.value in
    let before = c.self.inside in
    let p = before.problem.now in
    let xs = c.as_slice-x.result.now in
    let row = rw (← c.self.view_is) at c.requires.row in
    let read = is_read p c.as_slice.result.now c.args.step.row c.index-as_slice-step.result xs c.self.invariant.shaped c.as_slice.ensures
    (subst (λ (n : ℕ). c.args.step.row < n) (sym (ap length c.as_slice.ensures)) row) c.index-as_slice-step.is c.as_slice-x.ensures in
    ap length read.same ∙ read.wide ∙ sym c.self.invariant.inverse.square

pub exchange-requires-clause-within : goal.exchange-requires-clause-within
exchange-requires-clause-within g c κs within =
    let value = g.F.Exact.value in
    let before = c.self.inside in
    let p = before.problem.now in
    let xs = c.as_slice-x.result.now in
    let row = rw (← c.self.view_is) at c.requires.row in
    let read = is_read p c.as_slice.result.now c.args.step.row c.index-as_slice-step.result xs c.self.invariant.shaped c.as_slice.ensures
    (subst (λ (n : ℕ). c.args.step.row < n) (sym (ap length c.as_slice.ensures)) row) c.index-as_slice-step.is c.as_slice-x.ensures in
    subst (λ (n : ℕ). c.args.step.position < n) (sym (ap length read.same ∙ read.wide)) (rw (← c.self.view_is) at c.requires.position)

pub exchange-requires-clause-some : goal.exchange-requires-clause-some
exchange-requires-clause-some g c κs within =
    let value = g.F.Exact.value in
    let before = c.self.inside in
    let p = before.problem.now in
    let xs = c.as_slice-x.result.now in
    let row = rw (← c.self.view_is) at c.requires.row in
    let read = is_read p c.as_slice.result.now c.args.step.row c.index-as_slice-step.result xs c.self.invariant.shaped c.as_slice.ensures
    (subst (λ (n : ℕ). c.args.step.row < n) (sym (ap length c.as_slice.ensures)) row) c.index-as_slice-step.is c.as_slice-x.ensures in
    let some = rw (← c.self.view_is) at c.requires.some in
    λ e. some (sym (coordinate_read value p c.args.step.row c.index-as_slice-step.result xs read (inverse_entry value before.inverse) c.args.step.position) ∙ e)

pub returns-clause-kept : goal.returns-clause-kept
returns-clause-kept g c = invariant_of-self-2 g c

pub returns-in-Err-clause-spill : goal.returns-in-Err-clause-spill
returns-in-Err-clause-spill g c =
    let value = g.F.Exact.value in
    let range = g.F.Exact.range in
    let before = c.self.inside in
    let p = before.problem.now in
    let xs = c.as_slice-x.result.now in
    let a = inverse_entry value before.inverse in
    let within = rw (← c.self.view_is) at c.requires.row in
    let read = is_read p c.as_slice.result.now c.args.step.row c.index-as_slice-step.result xs c.self.invariant.shaped c.as_slice.ensures
    (subst (λ (n : ℕ). c.args.step.row < n) (sym (ap length c.as_slice.ensures)) within) c.index-as_slice-step.is c.as_slice-x.ensures in
    rw (← c.self.view_is)
    (at_read value p c.args.step.row c.index-as_slice-step.result xs read (λ n f. IsShortOf (IsExchangeSpill value range n a f c.args.step.row c.args.step.position) c.in-Err.short)
    (c.in-Err.ensures {u = tt}).spill)
