use Rattle.std.proofs.Common.{map, subst}
use Rattle.frac_core.specs.Values.{value}
use Rattle.loss_model.specs.declared.stop.Stop.TheVariants as stops
use Rattle.rank_inversion.specs.Jobs.{range}
use Rattle.rank_inversion.specs.Answers.{IsIntervalAnswer}
use Rattle.rank_inversion.specs.AllIntervals.{asked_over}
use Rattle.rank_inversion.specs.Until.{AreAnswered}
use Rattle.rank_inversion.proofs.FirstStops.{all_listed, all_starts, first_first, interval_first, none_stops}
use Rattle.rank_inversion.proofs.intervals.RankProblem+Frac128.over.Goals as goal

pub returns-in-Err-clause-stopped : goal.returns-in-Err-clause-stopped
returns-in-Err-clause-stopped g c =
    let self = c.args.self.now in
    rw c.first_stop.ensures
    (first_first value range self.problem.now self.limit self.crit c.args.taus.now c.index-taus-0.result stops.OutOfMemory c.requires.some c.index-taus-0.is c.requires.ready.rankable.shaped.some tt)

pub intervals-requires-clause-starts : goal.intervals-requires-clause-starts
intervals-requires-clause-starts g c κs within =
    rw c.as_slice.ensures.value (all_starts value range c.args.self.now c.args.taus.now c.in-Ok.starts.items (c.in-Ok.ensures {u = tt}))

pub returns-in-Err-intervals-clause-stopped : goal.returns-in-Err-intervals-clause-stopped
returns-in-Err-intervals-clause-stopped g c =
    let self = c.args.self.now in
    rw c.first_stop-in-Err-intervals.ensures
    (first_first value range self.problem.now self.limit self.crit c.args.taus.now c.index-taus-0-in-Err-intervals.result stops.OutOfMemory c.requires.some c.index-taus-0-in-Err-intervals.is
    c.requires.ready.rankable.shaped.some tt)

pub returns-in-Some-clause-stopped : goal.returns-in-Some-clause-stopped
returns-in-Some-clause-stopped g c =
    let self = c.args.self.now in
    let starts = c.in-Ok.starts.items in
    let made = c.in-Ok-intervals.intervals.done.items in
    let asked = asked_over self.crit self.problem.now.columns (map (λ at. at.tau) starts) in
    interval_first value range self c.args.taus.now starts (c.in-Ok.ensures {u = tt}) made c.in-Some.stop
    (subst (AreAnswered (IsIntervalAnswer value range self) asked made) c.in-Some.is (rw c.as_slice.ensures.value at (c.in-Ok-intervals.ensures {u = tt})))

pub returns-clause-right : goal.returns-clause-right
returns-clause-right g c =
    let self = c.args.self.now in
    let starts = c.in-Ok.starts.items in
    let made = c.in-Ok-intervals.intervals.done.items in
    let asked = asked_over self.crit self.problem.now.columns (map (λ at. at.tau) starts) in
    rw c.from.ensures
    (none_stops value range self c.args.taus.now starts (c.in-Ok.ensures {u = tt}) made
    (subst (AreAnswered (IsIntervalAnswer value range self) asked made) c.in_default.is (rw c.as_slice.ensures.value at (c.in-Ok-intervals.ensures {u = tt}))))

pub returns-clause-listed : goal.returns-clause-listed
returns-clause-listed g c =
    let self = c.args.self.now in
    let starts = c.in-Ok.starts.items in
    let made = c.in-Ok-intervals.intervals.done.items in
    let asked = asked_over self.crit self.problem.now.columns (map (λ at. at.tau) starts) in
    rw c.from.ensures
    (all_listed value range self asked made
    (subst (AreAnswered (IsIntervalAnswer value range self) asked made) c.in_default.is (rw c.as_slice.ensures.value at (c.in-Ok-intervals.ensures {u = tt}))))
