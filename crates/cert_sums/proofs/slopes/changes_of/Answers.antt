-- A change more.
use Rattle.std.proofs.Common.{rules, ◌≡◌, ℕ, ◌++◌, ◌∷◌, [], get_or}
use Rattle.rational_laws.specs.Rational.{ℚ, whole}
use Rattle.rational_laws.proofs.Lists.{length_pushed}
use Rattle.cert_sums.specs.Slopes.{part_change}
use Rattle.rational_laws.proofs.WholeLists.{whole_pushed}
use Rattle.cert_sums.proofs.slopes.changes_of.Goals as goal

pub loop-j-preserved : goal.loop-j-preserved
loop-j-preserved c =
    let turn = c.args.turn in
    let made = c.loop-j.made in
    let change = c.in_ok-change.change in
    let j = c.loop-j.j in
    let changed : ℕ → ℚ = λ j. part_change c.args.part turn.rows.now turn.old.now turn.new.now (get_or turn.unsettled.now j 0) in
    let grown : c.push.new.self ≡ made ++ change ∷ [] = search rules in
    let is : whole change ≡ changed j = search rules in
    rw (grown) (record {
      size = length_pushed made change j c.loop-j.invariant.size;
      each = whole_pushed made change j changed c.loop-j.invariant.size c.loop-j.invariant.each is;
    })
