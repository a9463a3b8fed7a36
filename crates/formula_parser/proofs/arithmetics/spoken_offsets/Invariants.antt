use Rattle.std.proofs.Common.{◌≡◌, ◌++◌, drop, map}
use Rattle.formula_parser.specs.Arithmetics.{part_said}
use Rattle.formula_parser.proofs.arithmetics.spoken_offsets.Given as goal

abbrev pub invariant-loop-part : goal.invariant-loop-part
invariant-loop-part l =
    l.all ++ map (part_said l.source.text.now l.source.names.now) (drop l.part-index l.parts) ≡ map (part_said l.source.text.now l.source.names.now) l.parts
