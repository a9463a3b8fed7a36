-- The first segment begins as it should.
use Rattle.std.proofs.Common.{◌<◌, length, refl, rules}
use Rattle.std.proofs.lemmas.Option.{slice_get_read}
use Rattle.cert_sums.specs.Slopes.{IsCounted}
use Rattle.cert_sums.proofs.Runs.{same_item}
use Rattle.cert_sums.proofs.run.run_holds.Goals as goal

pub run_from-requires-clause-begun : goal.run_from-requires-clause-begun
run_from-requires-clause-begun c =
    let xs = c.args.segments.now in
    let within : c.args.first < length xs = search rules in
    let s = c.index-segments-first.result in
    let here = slice_get_read xs (length xs) c.args.first s refl within c.index-segments-first.is in
    λ t e. same_item xs c.args.first s t (IsCounted c.args.whole.problem.now c.args.whole.table.now c.in-Some.tally) here e (c.in-Some.ensures {u = tt})

pub returns-in-Some : goal.returns-in-Some
returns-in-Some c = λ h j under within from. c.run_from.ensures h j (c.lesser.ensures.lesser j under within) from
