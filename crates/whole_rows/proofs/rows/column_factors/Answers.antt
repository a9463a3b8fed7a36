-- A factor more.
use Rattle.std.proofs.Common.{rules, ◌≡◌, ◌++◌, ◌∷◌, []}
use Rattle.std.proofs.lemmas.List.Elements.{All-push}
use Rattle.rational_laws.proofs.Lists.{length_pushed}
use Rattle.whole_rows.specs.Wholes.{IsPositive}
use Rattle.whole_rows.proofs.rows.column_factors.Goals as goal

pub loop-k-preserved : goal.loop-k-preserved
loop-k-preserved g c =
    let made = c.loop-k.made in
    let factor = c.reduced_factor.result in
    let grown : c.push.new.self ≡ made ++ factor ∷ [] = search rules in
    rw (grown) (record {
      size = length_pushed made factor c.loop-k.k c.loop-k.invariant.size;
      positive = All-push IsPositive made factor c.loop-k.invariant.positive c.reduced_factor.ensures;
    })
