-- A 0 more.
use Rattle.std.proofs.Common.{rules, ◌≡◌, ◌++◌, ◌∷◌, [], pos, refl}
use Rattle.rational_laws.specs.Rational.{whole}
use Rattle.rational_laws.proofs.WholeLists.{whole_pushed}
use Rattle.whole_inverse.proofs.Lists.{length_pushed}
use Rattle.whole_solution.proofs.totals.Totals+i128.none.Goals as goal

pub loop-preserved : goal.loop-preserved
loop-preserved c =
    let made = c.loop.made in
    let grown : c.push.new.self ≡ made ++ pos 0 ∷ [] = search rules in
    rw (grown) (record {
      size = length_pushed made (pos 0) c.loop.counter c.loop.invariant.size;
      each = whole_pushed made (pos 0) c.loop.counter (λ k. whole (pos 0)) c.loop.invariant.size c.loop.invariant.each refl;
    })
