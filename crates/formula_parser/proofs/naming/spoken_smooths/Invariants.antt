use Rattle.std.proofs.Common.{◌≡◌, ◌++◌, drop, map}
use Rattle.formula_parser.specs.Parsed.{meant_smooth, told_smooth}
use Rattle.formula_parser.proofs.naming.spoken_smooths.Given as goal

abbrev pub invariant-loop-part : goal.invariant-loop-part
invariant-loop-part l = map told_smooth l.all ++ map (meant_smooth l.text l.names) (drop l.part-index l.parts) ≡ map (meant_smooth l.text l.names) l.parts
