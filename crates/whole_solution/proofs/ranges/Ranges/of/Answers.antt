-- A column more.
use Rattle.std.proofs.Common.{rules, ◌≡◌, ◌++◌, ◌∷◌, []}
use Rattle.rational_laws.proofs.Lists.{length_pushed}
use Rattle.whole_solution.proofs.ranges.Ranges.of.Goals as goal

pub loop-k-preserved : goal.loop-k-preserved
loop-k-preserved c =
    let middles = c.loop-k.middles in
    let halves = c.loop-k.halves in
    let before = c.loop-k.invariant in
    let range = c.in_ok-range.range in
    let more_middles : c.add.new.self ≡ middles ++ range.middle ∷ [] = search rules in
    let more_halves : c.add-in-loop-k.new.self ≡ halves ++ range.half ∷ [] = search rules in
    rw (more_middles, more_halves) (record {
      middles = length_pushed middles range.middle c.loop-k.k before.middles;
      halves = length_pushed halves range.half c.loop-k.k before.halves;
    })
