-- A position more.
use Rattle.std.proofs.Common.{rules, ◌≡◌, ◌++◌, ◌∷◌, [], length}
use Rattle.basis_model.specs.Basis.{balancing}
use Rattle.rational_laws.specs.WholeLists.{whole_at}
use Rattle.whole_inverse.specs.Shares.{shares}
use Rattle.whole_inverse.proofs.Lists.{share_pushed, length_pushed}
use Rattle.whole_solution.proofs.duals.balancing_numbers.Goals as goal

pub loop-position-preserved : goal.loop-position-preserved
loop-position-preserved c =
    let totals = c.args.totals.now in
    let j = c.loop-position.position in
    let made = c.loop-position.made in
    let x = c.in_ok-number.number in
    let grown : c.push.new.self ≡ made ++ x ∷ [] = search rules in
    rw (grown) (record {
      size = length_pushed made x j c.loop-position.invariant.size;
      each = λ d. share_pushed d made x j (balancing (length totals) (shares c.args.inverse.now.columns d) (whole_at totals)) c.loop-position.invariant.size (c.loop-position.invariant.each d) (c.in_ok-number.ensures {u = tt} d);
    })
