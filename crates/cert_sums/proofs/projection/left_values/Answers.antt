-- A row more.
use Rattle.std.proofs.Common.{rules, ◌≡◌, ◌++◌, ◌∷◌, [], length, refl, sym, ap, ◌∙◌, pos}
use Rattle.std.specs.Prelude.{slice_get, Some, Option, ◌*ℤ◌}
use Rattle.std.specs.Option.{option_map_or}
use Rattle.std.proofs.lemmas.Option.{slice_get_read}
use Rattle.rational_laws.specs.Rational.{whole}
use Rattle.rational_laws.proofs.Lists.{length_pushed}
use Rattle.wide_int.specs.Numbers.{total}
use Rattle.cert_sums.specs.Ranks.{left_at}
use Rattle.cert_sums.specs.declared.table.WholeRow.{WholeRow}
use Rattle.rational_laws.proofs.WholeLists.{whole_pushed}
use Rattle.cert_sums.proofs.RowsOf.{row_narrow}
use Rattle.cert_sums.proofs.projection.left_values.Goals as goal

pub loop-i-preserved : goal.loop-i-preserved
loop-i-preserved c =
    let t = c.args.table.now in
    let numbers = c.args.numbers.now in
    let rows = c.as_slice-rows.result.now in
    let made = c.loop-i.made in
    let i = c.loop-i.i in
    let v = c.in_ok-value.value in
    let w = c.index-rows-i.result in
    let left = c.row_product-left.result in
    let grown : c.push.new.self ≡ made ++ v ∷ [] = search rules in
    let read : slice_get rows i ≡ Some w = slice_get_read rows (length rows) i w refl c.loop-i-test.true c.index-rows-i.is in
    let here : slice_get t.rows i ≡ Some w = rw (← c.as_slice-rows.ensures) read in
    let sum : left ≡ total w.cells numbers = c.row_product-left.ensures ∙ ap (λ xs. total xs numbers) (c.as_slice.ensures ∙ row_narrow t.rows c.requires.narrow i w here) in
    let product : v ≡ (left *ℤ w.up.slope) *ℤ w.up.slope = search rules in
    rw (grown) (record {
      size = length_pushed made v i c.loop-i.invariant.size;
      each = whole_pushed made v i (left_at t.rows numbers) c.loop-i.invariant.size c.loop-i.invariant.each
          (ap whole product ∙ ap (λ z. whole ((z *ℤ w.up.slope) *ℤ w.up.slope)) sum
          ∙ sym (ap (λ (o : Option WholeRow). option_map_or (λ w. whole ((total w.cells numbers *ℤ w.up.slope) *ℤ w.up.slope)) o (whole (pos 0))) here));
    })
