-- A value more.
use Rattle.std.proofs.Common.{rules, ◌≡◌, ◌++◌, ◌∷◌, [], get_or, pos, to_z, of_z, ap, ◌∙◌, ◌+◌}
use Rattle.std.proofs.lemmas.List.{length_push}
use mir.Syntax.{w128}
use Rattle.rational_laws.specs.Fraction.{rational}
use Rattle.rational_laws.specs.Rational.{◌*ℚ◌, inverse}
use Rattle.whole_inverse.specs.Shares.{share, share_at}
use Rattle.whole_inverse.proofs.Lists.{share_read}
use Rattle.whole_rows.proofs.ValueLists.{value_pushed}
use Rattle.whole_rows.proofs.values.values_under.Goals as goal

pub loop-i-preserved : goal.loop-i-preserved
loop-i-preserved g c =
    let value = g.F.Exact.value in
    let xs = c.args.numerators.now in
    let d = c.args.d in
    let i = c.loop-i.i in
    let made = c.loop-i.made in
    let x = c.in_ok-value.value in
    let over = inverse (rational (value c.args.factor)) in
    let grown : c.add.new.self ≡ made ++ x ∷ [] = search rules in
    let ed : to_z w128 (of_z w128 d) ≡ d = search rules in
    let en : to_z w128 (of_z w128 (get_or xs i (pos 0))) ≡ get_or xs i (pos 0) = search rules in
    let before = rw (ed) at c.loop-i.invariant in
    let is : rational (value x) ≡ share (get_or xs i (pos 0)) d *ℚ over = rw (ed, en) at (c.in_ok-value.ensures {u = tt}) in
    rw (grown, ed) (record {
      size = length_push made x ∙ ap (λ m. m + 1) before.size;
      each = value_pushed value made x i (λ i. share_at d xs i *ℚ over) before.size before.each (is ∙ ap (λ z. z *ℚ over) (share_read d xs i c.loop-i-test.true));
    })
