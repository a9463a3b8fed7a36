-- Inner. A reader before its first token, and what it has read behind its last one.
use Rattle.std.specs.Prelude.{true, []}
use Rattle.formula_grammar.specs.Words.{Reading}
use Rattle.formula_grammar.specs.ArithMachine.{arith_fresh}
use Rattle.formula_grammar.specs.Machine.{Reader, Response, bare}

-- nothing is read yet
abbrev pub fresh : Reader
fresh = record {
  response = record { start = 0; len = 0 };
  intercept = true;
  smooths = [];
  offsets = [];
  steps = [];
  arith = arith_fresh;
  level = bare;
  outer = [];
  phase = Response;
}

-- what was read
abbrev pub reading_in : Reader → Reading
reading_in r = record { response = r.response; intercept = r.intercept; steps = r.steps; smooths = r.smooths; offsets = r.offsets }
