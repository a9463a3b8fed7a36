-- The residuals lie on their sides, and both ends are as they should be; the next segment begins as this one ends.
use Rattle.std.proofs.Common.{◌≤◌, ◌<◌, ◌+◌, length, refl, rules, ◌≡◌}
use Rattle.std.specs.Prelude.{slice_get, None}
use Rattle.std.proofs.lemmas.Option.{slice_get_read, slice_get_past, none-some}
use Rattle.cert_sums.specs.Slopes.{IsCounted}
use Rattle.cert_sums.proofs.Runs.{begun_next, held_from, held_before, held_last, same_item}
use Rattle.cert_sums.proofs.run.holds_at.Goals as goal

pub ends-requires-clause-tally : goal.ends-requires-clause-tally
ends-requires-clause-tally c =
    let xs = c.args.segments.now in
    let s = c.index-segments-place.result in
    (c.requires.begun s (slice_get_read xs (length xs) c.args.place s refl c.requires.within c.index-segments-place.is)).tally

pub goes_on-requires-clause-tally : goal.goes_on-requires-clause-tally
goes_on-requires-clause-tally c =
    let xs = c.args.segments.now in
    let s = c.index-segments-place.result in
    (c.requires.begun s (slice_get_read xs (length xs) c.args.place s refl c.requires.within c.index-segments-place.is)).tally

pub returns-clause-held : goal.returns-clause-held
returns-clause-held c =
    let p = c.args.whole.problem.now in
    let xs = c.args.segments.now in
    let i = c.args.place in
    let s = c.index-segments-place.result in
    let here = slice_get_read xs (length xs) i s refl c.requires.within c.index-segments-place.is in
    let within : i + 1 < length xs = search rules in
    let next = c.index-segments-after.result in
    let behind = slice_get_read xs (length xs) (i + 1) next refl within c.index-segments-after.is in
    let held = held_from p s (c.follow_sides.ensures c.if-not-follow_sides.false) (c.requires.begun s here).begun (c.ends.ensures c.if-not-ends.false) in
    held_before p xs i s here next behind held c.in_ok-made.ensures.meets

pub returns-clause-next : goal.returns-clause-next
returns-clause-next c =
    let p = c.args.whole.problem.now in
    let t = c.args.whole.table.now in
    let xs = c.args.segments.now in
    let i = c.args.place in
    let within : i + 1 < length xs = search rules in
    let next = c.index-segments-after.result in
    let behind = slice_get_read xs (length xs) (i + 1) next refl within c.index-segments-after.is in
    let counted : IsCounted p t c.in_ok-made.made next = record {
      begun = begun_next p c.index-segments-place.result next (c.ends.ensures c.if-not-ends.false) c.in_ok-made.ensures.meets c.in_ok-made.ensures.loss;
      tally = c.in_ok-made.ensures.tally;
    } in
    λ u e. same_item xs (i + 1) next u (IsCounted p t c.in_ok-made.made) behind e counted

pub returns-then-after-segments-clause-held : goal.returns-then-after-segments-clause-held
returns-then-after-segments-clause-held c =
    let p = c.args.whole.problem.now in
    let xs = c.args.segments.now in
    let i = c.args.place in
    let s = c.index-segments-place.result in
    let here = slice_get_read xs (length xs) i s refl c.requires.within c.index-segments-place.is in
    let past : length xs ≤ i + 1 = search rules in
    held_last p xs i s here (slice_get_past xs (i + 1) past) (held_from p s (c.follow_sides.ensures c.if-not-follow_sides.false) (c.requires.begun s here).begun (c.ends.ensures c.if-not-ends.false))

pub returns-then-after-segments-clause-next : goal.returns-then-after-segments-clause-next
returns-then-after-segments-clause-next c =
    let xs = c.args.segments.now in
    let past : length xs ≤ c.args.place + 1 = search rules in
    let none : slice_get xs (c.args.place + 1) ≡ None = slice_get_past xs (c.args.place + 1) past in
    λ s e. absurd (none-some s (rw none at e))
