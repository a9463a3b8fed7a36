use Rattle.std.proofs.Common.{map, subst, sym, take_all}
use Rattle.std.proofs.lemmas.List.{take-map}
use Rattle.frac_core.specs.declared.arith.Arith.{Arith}
use Rattle.formula_arith.specs.Evaluations.{NoneOverflows}
use Rattle.design_matrix.specs.Computed.{arith_operations}
use Rattle.design_matrix.specs.Designs.{ArithsFit}
use Rattle.design_matrix.proofs.Responses.{item_at, refused}
use Rattle.design_matrix.proofs.Steps.{all_told}
use Rattle.design_matrix.proofs.computed.check_ariths.Goals as goal

pub returns-in-Err-clause-fault : goal.returns-in-Err-clause-fault
returns-in-Err-clause-fault c =
    rw c.refusal.ensures (refused c.args.frame.now (map (λ a. a.now) c.args.ariths.now) c.args.index c.loop-place.place c.index-ariths-place.result.now c.in-Err.fault
    (item_at (λ a. a.now) c.args.ariths.now c.loop-place.place c.index-ariths-place.result c.loop-place-test.true c.index-ariths-place.is)
    (subst (λ l. ArithsFit c.args.frame.now l c.args.index) (sym (take-map (λ a. a.now) c.loop-place.place c.args.ariths.now)) c.loop-place.invariant)
    c.in-Err.ensures.fault)

pub loop-place-preserved : goal.loop-place-preserved
loop-place-preserved c =
    all_told (λ (a : Arith). NoneOverflows (arith_operations c.args.frame.now a c.args.index)) (λ a. a.now) c.args.ariths.now _ _ c.loop-place-test.true c.index-ariths-place.is
    c.loop-place.invariant c.in-Ok.ensures.fits

pub returns-clause-fits : goal.returns-clause-fits
returns-clause-fits c =
    subst (λ l. ArithsFit c.args.frame.now (map (λ a. a.now) l) c.args.index) (take_all _ _ c.loop-place-test.false) c.loop-place.invariant
