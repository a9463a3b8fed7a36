use Rattle.rq_cli.proofs.Runs.{halt_cause, left_alone}
use Rattle.rq_cli.proofs.top.work.Goals as goal

pub returns-in-Err-clause-cause : goal.returns-in-Err-clause-cause
returns-in-Err-clause-cause g c = c.in-Err.ensures.refused _ _

pub returns-clause-cause : goal.returns-clause-cause
returns-clause-cause g c =
    halt_cause _ _ _ c.in-Ok.job c.deref.result.now
    (record { asked = c.in-Ok.ensures.asked; taken = rw c.deref.ensures.value c.in-Ok-read_source.ensures.taken; short = rw c.deref.ensures.value c.in-Ok-read_source.ensures.short })
    c.in-Err-written.halt c.in-Err-written.ensures.cause

pub returns-in-Err-read_source-clause-unread : goal.returns-in-Err-read_source-clause-unread
returns-in-Err-read_source-clause-unread g c = λ none. c.read_source.ensures.unread (left_alone _ c.in-Ok.job c.in-Ok.ensures.asked none)

pub returns-clause-unread : goal.returns-clause-unread
returns-clause-unread g c = λ none. c.read_source.ensures.unread (left_alone _ c.in-Ok.job c.in-Ok.ensures.asked none)

pub returns-in-Ok-written-clause-unread : goal.returns-in-Ok-written-clause-unread
returns-in-Ok-written-clause-unread g c = λ none. c.read_source.ensures.unread (left_alone _ c.in-Ok.job c.in-Ok.ensures.asked none)
