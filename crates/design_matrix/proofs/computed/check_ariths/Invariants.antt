use Rattle.std.proofs.Common.{map, take}
use Rattle.design_matrix.specs.Designs.{ArithsFit}
use Rattle.design_matrix.proofs.computed.check_ariths.Given as goal

abbrev pub invariant-loop-place : goal.invariant-loop-place
invariant-loop-place l = ArithsFit l.frame (map (λ a. a.now) (take l.place l.ariths)) l.fn.index
