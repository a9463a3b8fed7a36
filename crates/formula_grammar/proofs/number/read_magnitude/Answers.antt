use Rattle.formula_grammar.proofs.Values.{read_magnitude, read_none, read_unsigned}
use Rattle.formula_grammar.proofs.number.read_magnitude.Goals as goal

pub invariant_of-result : goal.invariant_of-result
invariant_of-result c = record { unsigned = read_unsigned c.args.number.now c.in-Ok.fraction c.requires c.in-Ok.ensures }

pub returns-in-Ok : goal.returns-in-Ok
returns-in-Ok c = read_magnitude c.args.number.now c.in-Ok.fraction _ c.requires c.in-Ok.ensures

pub returns-in-Err : goal.returns-in-Err
returns-in-Err c = read_none c.args.number.now c.in-Err.field-0 c.requires c.in-Err.ensures
