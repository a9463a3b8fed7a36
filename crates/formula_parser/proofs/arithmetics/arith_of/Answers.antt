use Rattle.std.proofs.Common.{[], ap, arith, length}
use Rattle.formula_parser.proofs.Places.{names_few}
use Rattle.formula_parser.proofs.arithmetics.arith_of.Goals as goal

pub code_of-requires : goal.code_of-requires
code_of-requires c =
    let s = c.args.source.now in
    omega (arith, ap length c.as_slice.ensures, ap length c.in_ok-names.ensures, names_few s.text.now s.names.now [] c.as_slice-steps.result.now, ap length c.as_slice-steps.ensures, c.requires)
