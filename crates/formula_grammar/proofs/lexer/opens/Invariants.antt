use Rattle.std.proofs.Common.{◌≡◌, drop}
use Rattle.formula_grammar.specs.Tokens.{opens}
use Rattle.formula_grammar.proofs.lexer.opens.Given as goal

abbrev pub invariant-loop-byte : goal.invariant-loop-byte
invariant-loop-byte l = opens (drop l.byte-index l.text) ≡ opens l.text
