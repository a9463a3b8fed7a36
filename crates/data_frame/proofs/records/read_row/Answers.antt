use Rattle.std.proofs.Common.{◌∙◌, inr, sym}
use Rattle.data_frame.proofs.Faults.{first_bad, not_utf8, ragged, too_many, whole}
use Rattle.data_frame.proofs.records.read_row.Goals as goal

pub returns-then-rec-gt-MOST_ROWS : goal.returns-then-rec-gt-MOST_ROWS
returns-then-rec-gt-MOST_ROWS c =
    let finds = rw c.in-NotText.is at c.in_ok-next_row.ensures.finds in
    inr (first_bad c.args.wanted c.args.rec _ finds.0 finds.1 _ finds.2 (too_many c.args.wanted c.args.rec finds.0 c.if-rec-gt-MOST_ROWS.true))

pub returns-else-rec-gt-MOST_ROWS : goal.returns-else-rec-gt-MOST_ROWS
returns-else-rec-gt-MOST_ROWS c =
    let finds = rw c.in-NotText.is at c.in_ok-next_row.ensures.finds in
    inr (first_bad c.args.wanted c.args.rec _ finds.0 finds.1 _ finds.2 (not_utf8 c.args.wanted c.args.rec finds.0 c.if-rec-gt-MOST_ROWS.false finds.3))

pub returns-then-rec-gt-MOST_ROWS-2 : goal.returns-then-rec-gt-MOST_ROWS-2
returns-then-rec-gt-MOST_ROWS-2 c =
    let takes = rw c.in-Row.is at c.in_ok-next_row.ensures.finds in
    inr (first_bad c.args.wanted c.args.rec _ _ _ _ takes.next (too_many c.args.wanted c.args.rec _ c.if-rec-gt-MOST_ROWS-2.true))

pub returns-then-found-wanted : goal.returns-then-found-wanted
returns-then-found-wanted c =
    let takes = rw c.in-Row.is at c.in_ok-next_row.ensures.finds in
    inr (first_bad c.args.wanted c.args.rec _ _ _ _ takes.next
    (rw c.len-found.ensures (ragged c.args.wanted c.args.rec _ c.if-rec-gt-MOST_ROWS-2.false takes.text (λ e. c.if-found-wanted.true (c.len-found.ensures ∙ e)))))

pub returns-else-found-wanted : goal.returns-else-found-wanted
returns-else-found-wanted c =
    let takes = rw c.in-Row.is at c.in_ok-next_row.ensures.finds in
    (takes, whole c.args.wanted c.args.rec _ c.if-rec-gt-MOST_ROWS-2.false takes.text (sym c.len-found.ensures ∙ c.if-found-wanted.false))
