use Rattle.std.proofs.Common.{◌≡◌, [], drop, map}
use Rattle.design_matrix.specs.Computed.{texts_once}
use Rattle.design_matrix.proofs.computed.once.Given as goal

abbrev pub invariant-loop-arith : goal.invariant-loop-arith
invariant-loop-arith l =
    texts_once (map (λ a. a.now) l.found.items) (map (λ a. a.now) (drop l.arith-index l.ariths)) ≡ texts_once [] (map (λ a. a.now) l.ariths)
