use Rattle.std.proofs.Common.{◌≡◌, ◌∙◌, arith, length, sym, Some, None}
use Rattle.formula_grammar.proofs.NumberTexts.{at_the_end, last_ascii, longer, not_longer, part_more, stopped}
use Rattle.formula_grammar.proofs.number.number_len.Goals as goal
use Rattle.formula_grammar.proofs.number.number_len.Goals.{then-is_whole, else-is_whole}

pub returns-in-None-clause-len : goal.returns-in-None-clause-len
returns-in-None-clause-len c =
    let l = c.loop-index in
    let dead = part_more c.args.text.now l.index 0 l.part None c.loop-index-test.true l.invariant.part c.in-None.ensures in
    stopped c.args.text.now l.index l.longest c.loop-index-test.true c.requires dead l.invariant.longest

pub loop-index-preserved : goal.loop-index-preserved
loop-index-preserved c =
    let l = c.loop-index in
    let part = part_more c.args.text.now l.index 0 l.part (Some c.in-Some.next) c.loop-index-test.true l.invariant.part c.in-Some.ensures in
    elim c.if-is_whole.branch [
      | then-is_whole w ↦ record {
        part = part;
        longest = w.longest-is ∙ longer c.args.text.now l.index c.in-Some.next c.requires part (sym c.is_whole.ensures ∙ w.if-is_whole.true);
        within = omega (arith, w.longest-is);
        ascii = λ _. last_ascii c.args.text.now l.index _ l.part c.in-Some.next w.longest-is c.in-Some.ensures;
      }
      | else-is_whole w ↦ record {
        part = part;
        longest = w.longest-is ∙ not_longer c.args.text.now l.index c.in-Some.next l.longest c.requires part (sym c.is_whole.ensures ∙ w.if-is_whole.false) l.invariant.longest;
        within = omega (arith, w.longest-is, l.invariant.within);
        ascii = rw w.longest-is l.invariant.ascii;
      }
    ]

pub returns-clause-len : goal.returns-clause-len
returns-clause-len c =
    let ended : length c.args.text.now ≡ c.loop-index.index = omega arith in
    at_the_end c.args.text.now c.loop-index.index c.loop-index.longest ended c.loop-index.invariant.longest
