use Rattle.std.proofs.Common.{◌≡◌, map, take}
use Rattle.frac_core.specs.Values.{exact}
use Rattle.design_matrix.specs.Computed.{less}
use Rattle.design_matrix.specs.Designs.{ResponseFits}
use Rattle.design_matrix.proofs.rows.response_less.Given as goal

abbrev pub invariant-loop-place : goal.invariant-loop-place
invariant-loop-place l = record {
  value : exact l.left ≡ less (exact l.fn.response) (take l.place (map exact l.offsets));
  fits : ResponseFits (exact l.fn.response) (take l.place (map exact l.offsets));
}
