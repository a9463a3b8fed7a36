-- A row more.
use Rattle.std.proofs.Common.{rules, ◌≡◌, ◌++◌, ◌∷◌, [], ℤ, length, sym, subst, ap, ◌∙◌}
use Rattle.rational_laws.specs.WholeLists.{whole_at}
use Rattle.rational_laws.proofs.Lists.{length_pushed}
use Rattle.whole_rows.specs.declared.rows.WholeRow.{WholeRow}
use Rattle.whole_solution.specs.Ranges.{power, AreWithin}
use Rattle.whole_solution.proofs.Entries.{row_more}
use Rattle.whole_solution.proofs.ranges.classes_of.Goals as goal

pub class_of-requires-clause-middles : goal.class_of-requires-clause-middles
class_of-requires-clause-middles c = sym (ap (λ (w : WholeRow ℤ). length w.x) c.index-rows-i.is ∙ c.requires.wide c.loop-i.i c.index-rows-i.result c.loop-i-test.true)

pub class_of-requires-clause-halves : goal.class_of-requires-clause-halves
class_of-requires-clause-halves c = c.requires.same ∙ sym (ap (λ (w : WholeRow ℤ). length w.x) c.index-rows-i.is ∙ c.requires.wide c.loop-i.i c.index-rows-i.result c.loop-i-test.true)

pub loop-i-preserved : goal.loop-i-preserved
loop-i-preserved c =
    let rows = c.args.rows.now in
    let n = length c.args.middles.now in
    let middles = c.args.middles.now in
    let halves = c.args.halves.now in
    let i = c.loop-i.i in
    let r = c.index-rows-i.result in
    let classes = c.loop-i.classes in
    let class = c.in_ok-class.class in
    let before = c.loop-i.invariant in
    let more : c.add.new.self ≡ classes ++ class ∷ [] = search rules in
    let wide : length r.x ≡ n = ap (λ (w : WholeRow ℤ). length w.x) c.index-rows-i.is ∙ c.requires.wide i r c.loop-i-test.true in
    let own = subst (λ m. AreWithin m middles halves (power class) (whole_at r.x)) wide (c.in_ok-class.ensures {u = tt}) in
    rw (more) (record {
      size = length_pushed classes class i before.size;
      each = row_more rows n i middles halves classes class r c.loop-i-test.true c.index-rows-i.is before.size own before.each;
    })
