use Rattle.std.proofs.Common.{arith}
use Rattle.formula_parser.proofs.Places.{index_few}
use Rattle.formula_parser.proofs.arithmetics.op_of.Goals as goal

pub overflow_cast-result : goal.overflow_cast-result
overflow_cast-result c = omega (arith, c.number_of.ensures, index_few c.args.names.now c.column_name.result.now, c.requires)
