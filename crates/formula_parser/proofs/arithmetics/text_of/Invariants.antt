use Rattle.std.proofs.Common.{◌≡◌, ◌++◌, drop, string_bytes}
use Rattle.formula_parser.specs.Words.{Open}
use Rattle.formula_parser.specs.Arithmetics.{tokens_text}
use Rattle.formula_parser.proofs.arithmetics.text_of.Given as goal

abbrev pub invariant-loop-token : goal.invariant-loop-token
invariant-loop-token l =
    string_bytes l.told ++ tokens_text l.source.text.now l.source.names.now l.last (drop l.token-index l.tokens)
    ≡ tokens_text l.source.text.now l.source.names.now Open l.tokens
