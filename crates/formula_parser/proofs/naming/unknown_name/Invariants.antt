use Rattle.std.proofs.Common.{◌≡◌, drop}
use Rattle.formula_parser.specs.Parsed.{unknown_name}
use Rattle.formula_parser.proofs.naming.unknown_name.Given as goal

abbrev pub invariant-loop-token : goal.invariant-loop-token
invariant-loop-token l = unknown_name l.text l.names (drop l.token-index l.tokens) ≡ unknown_name l.text l.names l.tokens
