use Rattle.std.proofs.Common.{ap, lit≤}
use Rattle.formula_grammar.proofs.Outcomes.{clean_next, clean_none, depth_next, first_is_fault, goes, last_next, nothing_held, passed, reading_held, wrong}
use Rattle.formula_grammar.proofs.reader.Reader.scan.Goals as goal

pub loop-token-init : goal.loop-token-init
loop-token-init c = record {
  held = nothing_held _ c.requires.fresh;
  clean = clean_none c.args.tokens.now;
  opened = ap (λ l. l.opened) c.new-limits.ensures;
  last = ap (λ l. l.last) c.new-limits.ensures;
  few = rw c.new-limits.ensures (lit≤ tt);
}

pub returns-then-not-can_stand-clause-fault : goal.returns-then-not-can_stand-clause-fault
returns-then-not-can_stand-clause-fault c =
    let i = c.loop-token.invariant in
    wrong _ _ _ _ c.take.new.self c.loop-token-test.true c.token-item.is i.held i.clean (rw c.if-not-can_stand.true at c.in_ok-can_stand.ensures)

pub returns-in-Some-clause-fault : goal.returns-in-Some-clause-fault
returns-in-Some-clause-fault c =
    let i = c.loop-token.invariant in
    let held = goes _ _ _ _ _ c.loop-token-test.true c.token-item.is i.held (rw c.if-not-can_stand.false at c.in_ok-can_stand.ensures) in
    first_is_fault _ _ (passed _ _ _ _ _ _ _ c.loop-token-test.true c.token-item.is held i.clean i.opened i.last c.in-Some.ensures.fault)

pub loop-token-preserved : goal.loop-token-preserved
loop-token-preserved c =
    let i = c.loop-token.invariant in
    let lt = c.loop-token-test.true in
    let held = goes _ _ _ _ _ lt c.token-item.is i.held (rw c.if-not-can_stand.false at c.in_ok-can_stand.ensures) in
    record {
      held = held;
      clean = clean_next _ _ _ _ _ _ lt c.token-item.is held i.clean i.opened i.last c.in-None.ensures.fault;
      opened = depth_next _ _ _ _ _ lt c.token-item.is i.opened c.in-None.ensures.opened;
      last = last_next _ _ _ _ lt c.token-item.is c.in-None.ensures.last;
      few = c.in-None.ensures.few;
    }

pub returns-clause-read : goal.returns-clause-read
returns-clause-read c =
    let i = c.loop-token.invariant in
    reading_held _ _ _ c.requires.end c.loop-token-test.false i.held i.clean
