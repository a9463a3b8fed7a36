use Rattle.std.proofs.Common.{◌≡◌, drop}
use Rattle.design_matrix.specs.CodedVariable.{same_variables}
use Rattle.design_matrix.proofs.coded.are_same.Given as goal

abbrev pub invariant-loop-place : goal.invariant-loop-place
invariant-loop-place l = same_variables (drop l.place l.left) (drop l.place l.right) ≡ same_variables l.left l.right
