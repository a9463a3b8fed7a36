use Rattle.std.proofs.Common.{arith, sym, ◌∙◌}
use Rattle.formula_grammar.proofs.Lexing.{nothing_yet, token_here}
use Rattle.formula_grammar.proofs.lexer.tokens_of.Goals as goal

pub loop-at-init : goal.loop-at-init
loop-at-init c = record { inside = omega arith; left = nothing_yet _ _ c.new-all.ensures }

pub loop-at-preserved : goal.loop-at-preserved
loop-at-preserved c =
    let l = c.lexeme_at-kind.ensures in
    let e = c.as_bytes-bytes.ensures in
    record {
      inside = rw e.value l.within;
      left = token_here c.args.text.now c.as_bytes-bytes.result.now _ _ c.loop-at.at c.lexeme_at-kind.result e.value c.loop-at-test.true (sym c.is_blank.ensures
          ∙ c.if-is_blank.false) l.lexeme l.some l.within c.in-Ok.ensures.pushed c.loop-at.invariant.left;
    }
