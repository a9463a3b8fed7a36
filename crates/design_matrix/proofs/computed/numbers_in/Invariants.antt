use Rattle.std.proofs.Common.{◌≡◌, map, take}
use Rattle.frac_core.specs.Values.{exact}
use Rattle.design_matrix.specs.Cells.{column_of, number_at}
use Rattle.design_matrix.proofs.computed.numbers_in.Given as goal

abbrev pub invariant-loop-name : goal.invariant-loop-name
invariant-loop-name l = map exact l.numbers.items ≡ map (λ name. number_at (column_of l.frame name) l.fn.index) (take l.name-index l.names)
