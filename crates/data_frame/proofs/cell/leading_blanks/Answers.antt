use Rattle.std.proofs.Common.{◌≡◌, ◌∙◌, ap, arith, drop, length, sym}
use Rattle.data_frame.specs.Cells.{without_leading_blanks}
use Rattle.data_frame.proofs.Blanks.{ascii_behind, leading_blank, no_leading_blank, none_behind}
use Rattle.data_frame.proofs.cell.leading_blanks.Goals as goal

pub returns-then-not-is_blank-clause-rest : goal.returns-then-not-is_blank-clause-rest
returns-then-not-is_blank-clause-rest c =
    sym (no_leading_blank c.args.text.now c.loop-i.i c.loop-i-test.true (sym c.is_blank.ensures ∙ c.if-not-is_blank.true)) ∙ c.loop-i.invariant.rest

pub loop-i-preserved : goal.loop-i-preserved
loop-i-preserved c =
    let blank = sym c.is_blank.ensures ∙ c.if-not-is_blank.false in
    record {
      rest = sym (leading_blank c.args.text.now c.loop-i.i c.loop-i-test.true blank) ∙ c.loop-i.invariant.rest;
      ascii = λ _. ascii_behind c.args.text.now c.loop-i.i blank;
    }

pub returns-clause-rest : goal.returns-clause-rest
returns-clause-rest c =
    let end : length c.args.text.now ≡ c.loop-i.i = omega arith in
    none_behind c.args.text.now ∙ ap (λ n. without_leading_blanks (drop n c.args.text.now)) end ∙ c.loop-i.invariant.rest
