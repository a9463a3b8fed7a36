-- A value more.
use Rattle.std.proofs.Common.{rules, ◌≡◌, ℕ, ◌++◌, ◌∷◌, [], get_or}
use Rattle.rational_laws.specs.Rational.{whole}
use Rattle.rational_laws.proofs.Lists.{length_pushed}
use Rattle.cert_sums.specs.Slopes.{basic_at}
use Rattle.rational_laws.proofs.WholeLists.{whole_pushed}
use Rattle.cert_sums.proofs.long_sums.long_values.Goals as goal

pub loop-j-preserved : goal.loop-j-preserved
loop-j-preserved c =
    let v = c.args.end.vertex.now in
    let made = c.loop-j.made in
    let e = c.in_ok-value.value in
    let j = c.loop-j.j in
    let f = λ (j : ℕ). basic_at c.args.scale.now c.args.cost_scale v c.args.end.basic.now (get_or c.args.list.now j 0) in
    let grown : c.push.new.self ≡ made ++ e ∷ [] = search rules in
    let is : whole e ≡ f j = search rules in
    rw (grown) (record {
      size = length_pushed made e j c.loop-j.invariant.size;
      each = whole_pushed made e j f c.loop-j.invariant.size c.loop-j.invariant.each is;
    })
