-- A side more.
use Rattle.std.proofs.Common.{rules, ◌≡◌, ◌++◌, ◌∷◌, [], refl}
use Rattle.rational_laws.proofs.Lists.{length_pushed}
use Rattle.loss_model.specs.declared.vertex.Side.TheVariants.{Basic}
use Rattle.whole_solution.proofs.Reading.{side_pushed}
use Rattle.whole_solution.proofs.sides.basic_sides.Goals as goal

pub loop-preserved : goal.loop-preserved
loop-preserved c =
    let made = c.loop.made in
    let grown : c.push.new.self ≡ made ++ Basic ∷ [] = search rules in
    rw (grown) (record {
      size = length_pushed made Basic c.loop.counter c.loop.invariant.size;
      each = side_pushed made Basic c.loop.counter (λ i. Basic) c.loop.invariant.size c.loop.invariant.each refl;
    })
