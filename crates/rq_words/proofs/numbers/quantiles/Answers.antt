use Rattle.std.proofs.Common.{◌≡◌, ◌++◌, ◌∷◌, [], ap, arith, rules, length, length-append, Some, None}
use Rattle.std.proofs.Math.Dec.{lit<}
use Rattle.std.proofs.lemmas.Iterator.Consumers.{YieldsList-turn, YieldsList-end}
use Rattle.std.proofs.lemmas.Iterator.Splits.{YieldsList-from_str_split}
use Rattle.frac_core.specs.Values.{exact}
use Rattle.rq_words.specs.Words.{number_text}
use Rattle.rq_words.proofs.Pieces.{all_read, not_read, one_more, pieces_of, too_many}
use Rattle.rq_words.proofs.numbers.quantiles.Goals as goal

pub returns-then-as_slice-eq-MOST_QUANTILES : goal.returns-then-as_slice-eq-MOST_QUANTILES
returns-then-as_slice-eq-MOST_QUANTILES c =
    let turn = YieldsList-turn (YieldsList-from_str_split 44 c.args.text.now (lit< tt) (cc) (cc) (cc)) c.loop-piece.yielded _ c.loop-piece.yielded_by _ _ c.in-Some.piece c.in-Some.is c.next.ensures.steps in
    let size = ap length c.as_slice.ensures in
    too_many number_text exact 64 c.args.text.now (omega (arith, c.loop-piece.invariant.count))

pub returns-in_default : goal.returns-in_default
returns-in_default c =
    let turn = YieldsList-turn (YieldsList-from_str_split 44 c.args.text.now (lit< tt) (cc) (cc) (cc)) c.loop-piece.yielded _ c.loop-piece.yielded_by _ _ c.in-Some.piece c.in-Some.is c.next.ensures.steps in
    let none : number_text c.in-Some.piece.now ≡ None = search rules in
    not_read number_text exact 64 c.args.text.now (length c.loop-piece.yielded) c.in-Some.piece.now c.loop-piece.taus turn.0 (rw (← turn.1) none) c.loop-piece.invariant.read

pub loop-piece-preserved : goal.loop-piece-preserved
loop-piece-preserved c =
    let turn = YieldsList-turn (YieldsList-from_str_split 44 c.args.text.now (lit< tt) (cc) (cc) (cc)) c.loop-piece.yielded _ c.loop-piece.yielded_by _ _ c.in-Some.piece c.in-Some.is c.next.ensures.steps in
    let pushed : c.add.new.self ≡ c.loop-piece.taus ++ c.in-Some-fraction.tau ∷ [] = search rules in
    let value : number_text c.in-Some.piece.now ≡ Some (exact c.in-Some-fraction.tau) = search rules in
    let size = ap length c.as_slice.ensures in
    let more = length-append c.loop-piece.yielded (c.in-Some.piece ∷ []) in
    let longer = length-append c.loop-piece.taus (c.in-Some-fraction.tau ∷ []) in
    record {
      count = rw (pushed, longer, more) (omega (arith, c.loop-piece.invariant.count));
      few = rw (pushed, longer) (omega (arith, c.loop-piece.invariant.few));
      read = rw (pushed, more) (one_more number_text exact (pieces_of c.args.text.now) (length c.loop-piece.yielded) c.in-Some.piece.now c.loop-piece.taus c.in-Some-fraction.tau turn.0 (rw (← turn.1) value) c.loop-piece.invariant.read);
    }

pub returns : goal.returns
returns c =
    let end = YieldsList-end (YieldsList-from_str_split 44 c.args.text.now (lit< tt) (cc) (cc) (cc)) c.loop-piece.yielded _ c.loop-piece.yielded_by _ _ c.in-None.is c.next.ensures.steps in
    all_read number_text exact 64 c.args.text.now (length c.loop-piece.yielded) c.loop-piece.taus (omega arith) (omega (arith, c.loop-piece.invariant.count, c.loop-piece.invariant.few)) c.loop-piece.invariant.read
