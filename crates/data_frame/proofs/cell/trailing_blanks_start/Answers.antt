use Rattle.std.proofs.Common.{◌≡◌, ◌∙◌, ap, arith, sym, take}
use Rattle.data_frame.specs.Cells.{without_trailing_blanks}
use Rattle.data_frame.proofs.Blanks.{blank_is_ascii, no_bytes, no_trailing_blank, trailing_blank}
use Rattle.data_frame.proofs.cell.trailing_blanks_start.Goals as goal

pub loop-end-preserved : goal.loop-end-preserved
loop-end-preserved c =
    let blank = sym c.is_blank.ensures ∙ c.if-is_blank.true in
    record {
      within = omega arith;
      front = sym (trailing_blank c.args.text.now c.loop-end.end c.loop-end-test.true (omega arith) blank) ∙ c.loop-end.invariant.front;
      ascii = λ _. blank_is_ascii _ blank;
    }

pub returns-else-is_blank-clause-front : goal.returns-else-is_blank-clause-front
returns-else-is_blank-clause-front c =
    sym (no_trailing_blank c.args.text.now c.loop-end.end c.loop-end-test.true (omega arith) (sym c.is_blank.ensures ∙ c.if-is_blank.false))
    ∙ c.loop-end.invariant.front

pub returns-after-loop-end-clause-front : goal.returns-after-loop-end-clause-front
returns-after-loop-end-clause-front c =
    let none : c.loop-end.end ≡ 0 = omega arith in
    ap (λ n. take n c.args.text.now) none ∙ sym no_bytes ∙ ap (λ n. without_trailing_blanks (take n c.args.text.now)) (sym none) ∙ c.loop-end.invariant.front
