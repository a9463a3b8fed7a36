-- A row's value more.
use Rattle.std.proofs.Common.{◌≡◌, ◌<◌, List, ℕ, length, slice_index, ◌+◌, ap, ◌∙◌, arith}
use Rattle.std.proofs.lemmas.List.{length_push}
use Rattle.basis_inverse.proofs.Lists.{value_more}
use Rattle.rational_laws.proofs.Lists.{contains_item}
use Rattle.whole_tableau.specs.Kept.{place}
use Rattle.rank_tableau.specs.Ends.{weighed_row}
use Rattle.rank_tableau.proofs.Handed.{row_value}
use Rattle.rank_tableau.proofs.ends.basic_values.Goals as goal

pub position_of-position-requires : goal.position_of-position-requires
position_of-position-requires g c =
    let member = rw c.as_slice-sorted.ensures at (contains_item c.as_slice-sorted.result.now c.loop-k.k c.loop-k-test.true) in
    rw (c.as_slice-rows.ensures, c.basis.ensures.rows, c.as_slice-sorted.ensures) ((c.requires.vertex.rows (slice_index c.args.vertex.now.basis.rows c.loop-k.k)).0 member)

pub loop-k-preserved : goal.loop-k-preserved
loop-k-preserved g c =
    let value = g.F.Exact.value in
    let h = place value c.args.tableau.now in
    let course = c.args.course.now in
    let basic = c.loop-k.basic in
    let x = c.in_ok-value.value in
    let added = (c.in_ok-add.ensures {u = tt}).added in
    let before = c.loop-k.invariant in
    let j = c.position_of-position.result in
    let found = rw (c.as_slice-rows.ensures, c.basis.ensures.rows) at c.position_of-position.ensures in
    let within : j < h.task.problem.columns = omega (arith, found.within, c.basis.ensures.place.size) in
    record {
      size = ap length added ∙ length_push basic x ∙ ap (λ n. n + 1) before.size;
      each = value_more (λ x. x) basic _ x c.loop-k.k (λ i. weighed_row value h course c.args.weight (slice_index c.as_slice-sorted.result.now i)) added before.size before.each
          ((c.in_ok-value.ensures {u = tt}) ∙ row_value value h c.basis.ensures.place course c.requires.column c.args.weight j within
          ∙ ap (weighed_row value h course c.args.weight) found.holds);
    }

pub returns : goal.returns
returns g c =
    let value = g.F.Exact.value in
    let h = place value c.args.tableau.now in
    let before = c.loop-k.invariant in
    let all : c.loop-k.k ≡ length c.args.vertex.now.basis.rows = omega (arith, c.loop-k-test.false, c.loop-k.auto.k-end, ap length c.as_slice-sorted.ensures) in
    record {
      size = before.size ∙ all;
      each = λ i li.
          let inside : i < c.loop-k.k = omega (arith, li, all) in
          before.each i inside ∙ ap (λ (rows : List ℕ). weighed_row value h c.args.course.now c.args.weight (slice_index rows i)) c.as_slice-sorted.ensures;
    }
