use Rattle.std.proofs.Common.{◌≡◌, ◌≤◌, take}
use Rattle.formula_grammar.specs.Faults.{depth, last_kind, IsCleanBelow}
use Rattle.formula_grammar.proofs.Outcomes.{Holds}
use Rattle.formula_grammar.proofs.reader.Reader.scan.Given as goal

abbrev pub invariant-loop-token : goal.invariant-loop-token
invariant-loop-token l = record {
  held : Holds (take l.token-index l.tokens) l.self;
  clean : IsCleanBelow l.tokens l.token-index;
  opened : l.limits.opened ≡ depth (take l.token-index l.tokens);
  last : l.limits.last ≡ last_kind (take l.token-index l.tokens);
  few : l.limits.opened ≤ 64;
}
