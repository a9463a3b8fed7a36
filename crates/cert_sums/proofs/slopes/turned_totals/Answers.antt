-- A total more.
use Rattle.std.proofs.Common.{rules, ◌≡◌, ◌++◌, ◌∷◌, [], to_z, of_z, ◌∙◌}
use mir.Syntax.{w128}
use Rattle.rational_laws.specs.Rational.{◌+ℚ◌, whole}
use Rattle.rational_laws.proofs.Lists.{length_pushed}
use Rattle.cert_sums.specs.Slopes.{line_total, listed_total}
use Rattle.rational_laws.proofs.WholeLists.{whole_pushed}
use Rattle.cert_sums.proofs.Unsettled.{turned_line}
use Rattle.cert_sums.proofs.slopes.turned_totals.Goals as goal

pub loop-k-preserved : goal.loop-k-preserved
loop-k-preserved c =
    let turn = c.args.turn in
    let rows = turn.rows.now in
    let old = turn.old.now in
    let new = turn.new.now in
    let part = c.args.part in
    let k = c.loop-k.k in
    let made = c.loop-k.made in
    let total = c.in_ok-total.total in
    let t = c.number_at.result in
    let grown : c.push.new.self ≡ made ++ total ∷ [] = search rules in
    let plain : to_z w128 (of_z w128 t) ≡ t = search rules in
    let changes = c.in_ok-changes.changes in
    let turned : whole total ≡ whole t +ℚ listed_total rows k turn.unsettled.now changes = rw (plain, c.as_slice.ensures) at (c.in_ok-total.ensures {u = tt}) in
    let before : whole t ≡ line_total part rows old k = c.number_at.ensures ∙ c.requires.totals k c.loop-k-test.true in
    rw (grown) (record {
      size = length_pushed made total k c.loop-k.invariant.size;
      each = whole_pushed made total k (line_total part rows new) c.loop-k.invariant.size c.loop-k.invariant.each
          (turned_line old new part rows k turn.unsettled.now changes (whole t) (whole total) c.requires.unsettled (c.in_ok-changes.ensures {u = tt}) before turned);
    })
