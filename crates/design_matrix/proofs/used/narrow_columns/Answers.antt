use Rattle.std.proofs.Common.{inl, inr}
use Rattle.std.proofs.lemmas.Result.{err_from_is_err_and}
use Rattle.std.proofs.lemmas.List.{get_or_default}
use Rattle.data_frame.specs.Views.{lent_column}
use Rattle.design_matrix.specs.Cells.{column_of}
use Rattle.design_matrix.specs.Faults.{wide_fault, widths_fault}
use Rattle.design_matrix.proofs.Firsts.{first_all, first_found, first_more}
use Rattle.design_matrix.proofs.Steps.{told_more}
use Rattle.design_matrix.proofs.used.narrow_columns.Goals as goal

pub returns-in_err-narrow_column-clause-fault : goal.returns-in_err-narrow_column-clause-fault
unfolding widths_fault
returns-in_err-narrow_column-clause-fault c =
    let p = err_from_is_err_and c.from_residual-in_err-narrow_column.result c.from_residual-in_err-narrow_column.ensures.1 in
    rw (p.1, p.2) (elim c.in_err-narrow_column.ensures.fault [
      | inl memory ↦ inl memory
      | inr fault ↦ inr (first_found (λ n. wide_fault n (column_of c.args.frame.now n)) (λ n. n.now) _ _ _ _ c.loop-name-test.true
          (get_or_default c.args.names.now c.loop-name.name-index _ _ c.loop-name-test.true) c.loop-name.invariant.sound
          fault)
    ])

pub loop-name-preserved : goal.loop-name-preserved
loop-name-preserved c = record {
  found = told_more lent_column (column_of c.args.frame.now) (λ n. n.now) _ _ _ _ _ _ c.loop-name-test.true (get_or_default c.args.names.now c.loop-name.name-index _ _ c.loop-name-test.true) c.loop-name.invariant.found
      c.in_ok-push.ensures.items c.in_ok-narrow_column.ensures.column;
  sound = first_more (λ n. wide_fault n (column_of c.args.frame.now n)) (λ n. n.now) _ _ _ c.loop-name-test.true (get_or_default c.args.names.now c.loop-name.name-index _ _ c.loop-name-test.true) c.loop-name.invariant.sound
      c.in_ok-narrow_column.ensures.sound;
}

pub returns-clause-sound : goal.returns-clause-sound
unfolding widths_fault
returns-clause-sound c =
    first_all (λ n. wide_fault n (column_of c.args.frame.now n)) (λ n. n.now) _ _ c.loop-name-test.false c.loop-name.invariant.sound
