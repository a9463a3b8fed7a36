use Rattle.std.proofs.Common.{◌≡◌, ◌∙◌, ℕ, List, sym, ◌++◌, ◌∷◌, [], ap, arith, rules, length, length-append, Some, None}
use Rattle.std.proofs.Math.Dec.{lit<}
use Rattle.std.proofs.lemmas.Iterator.Consumers.{YieldsList-turn, YieldsList-end}
use Rattle.std.proofs.lemmas.List.{map-id}
use Rattle.std.proofs.lemmas.Iterator.Splits.{YieldsList-from_str_split}
use Rattle.rq_words.specs.Words.{count}
use Rattle.rq_words.proofs.Pieces.{all_read, not_read, one_more, pieces_of, too_many}
use Rattle.rq_words.proofs.numbers.column_numbers.Goals as goal

pub returns-then-as_slice-eq-MOST_TESTED : goal.returns-then-as_slice-eq-MOST_TESTED
returns-then-as_slice-eq-MOST_TESTED c =
    let turn = YieldsList-turn (YieldsList-from_str_split 44 c.args.text.now (lit< tt) (cc) (cc) (cc)) c.loop-piece.yielded _ c.loop-piece.yielded_by _ _ c.in-Some.piece c.in-Some.is c.next.ensures.steps in
    let same = ap length c.as_slice.ensures in
    too_many (count 3 0 999) (λ (n : ℕ). n) 128 c.args.text.now (omega (arith, c.loop-piece.invariant.size))

pub returns-in_default : goal.returns-in_default
returns-in_default c =
    let turn = YieldsList-turn (YieldsList-from_str_split 44 c.args.text.now (lit< tt) (cc) (cc) (cc)) c.loop-piece.yielded _ c.loop-piece.yielded_by _ _ c.in-Some.piece c.in-Some.is c.next.ensures.steps in
    let none : count 3 0 999 c.in-Some.piece.now ≡ None = search rules in
    not_read (count 3 0 999) (λ (n : ℕ). n) 128 c.args.text.now (length c.loop-piece.yielded) c.in-Some.piece.now c.loop-piece.columns turn.0 (rw (← turn.1) none) c.loop-piece.invariant.read

pub loop-piece-preserved : goal.loop-piece-preserved
loop-piece-preserved c =
    let turn = YieldsList-turn (YieldsList-from_str_split 44 c.args.text.now (lit< tt) (cc) (cc) (cc)) c.loop-piece.yielded _ c.loop-piece.yielded_by _ _ c.in-Some.piece c.in-Some.is c.next.ensures.steps in
    let pushed : c.add.new.self ≡ c.loop-piece.columns ++ c.in-Some-count.column ∷ [] = search rules in
    let value : count 3 0 999 c.in-Some.piece.now ≡ Some c.in-Some-count.column = search rules in
    let same = ap length c.as_slice.ensures in
    let more = length-append c.loop-piece.yielded (c.in-Some.piece ∷ []) in
    let longer = length-append c.loop-piece.columns (c.in-Some-count.column ∷ []) in
    record {
      size = rw (pushed, longer, more) (omega (arith, c.loop-piece.invariant.size));
      few = rw (pushed, longer) (omega (arith, c.loop-piece.invariant.few));
      read = rw (pushed, more) (one_more (count 3 0 999) (λ (n : ℕ). n) (pieces_of c.args.text.now) (length c.loop-piece.yielded) c.in-Some.piece.now c.loop-piece.columns c.in-Some-count.column turn.0
          (rw (← turn.1) value) c.loop-piece.invariant.read);
    }

pub returns : goal.returns
returns c =
    let end = YieldsList-end (YieldsList-from_str_split 44 c.args.text.now (lit< tt) (cc) (cc) (cc)) c.loop-piece.yielded _ c.loop-piece.yielded_by _ _ c.in-None.is c.next.ensures.steps in
    ap (λ (ns : List ℕ). Some ns) (sym (map-id c.loop-piece.columns)) ∙ all_read (count 3 0 999) (λ (n : ℕ). n) 128 c.args.text.now (length c.loop-piece.yielded) c.loop-piece.columns (omega arith)
    (omega (arith, c.loop-piece.invariant.size, c.loop-piece.invariant.few)) c.loop-piece.invariant.read
