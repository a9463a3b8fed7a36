-- Numbers over one scale are in their own order.
use Rattle.std.proofs.Common.{rules, ◌≤ℤ◌, ◌<ℤ◌, refl, inl, inr}
use Rattle.whole_steps.proofs.Scales.{share_less, share_at_most}
use Rattle.whole_steps.proofs.leaving.steeper.Goals as goal

pub returns-then-second-first : goal.returns-then-second-first
returns-then-second-first c = λ e some.
    let less : c.args.second.slope <ℤ c.args.first.slope = search rules in
    inl (refl, share_less e some c.args.second.slope c.args.first.slope less)

pub returns-else-second-first : goal.returns-else-second-first
returns-else-second-first c = λ e some.
    let more : c.args.first.slope ≤ℤ c.args.second.slope = search rules in
    inr (refl, share_at_most e some c.args.first.slope c.args.second.slope more)
