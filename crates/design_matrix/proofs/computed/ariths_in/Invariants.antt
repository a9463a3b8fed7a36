use Rattle.std.proofs.Common.{◌≡◌, flat_map, map, take}
use Rattle.formula_parser.specs.Held.{term_ariths}
use Rattle.design_matrix.proofs.computed.ariths_in.Given as goal

abbrev pub invariant-loop-term : goal.invariant-loop-term
invariant-loop-term l = map (λ a. a.now) l.ariths.items ≡ flat_map term_ariths (take l.term-index l.terms)
