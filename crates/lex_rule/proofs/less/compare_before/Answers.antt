use Rattle.std.proofs.Common.{◌≡◌, ℕ, suc, ◌+◌, List, length, slice_index, slice_index_or, arith, sym, ap, ◌∙◌}
use Rattle.std.proofs.lemmas.Result.{err_from_is_err_and}
use Rattle.basis_model.proofs.LexicographicLaws.{lex_cmp-Equal}
use Rattle.basis_model.specs.Perturbed.{ratio_on}
use Rattle.lex_rule.specs.Compared.{of_ratio}
use Rattle.lex_rule.specs.Scan.{IsNextAt, AreZeroBetween}
use Rattle.lex_rule.proofs.Comparisons.{agree_between}
use Rattle.lex_rule.proofs.Entries.{first_entries, next_entries, entries_decide, entries_agree, entries_spill}
use Rattle.lex_rule.proofs.less.compare_before.Goals as goal

pub returns-then-is_ne-clause-exact : goal.returns-then-is_ne-clause-exact
returns-then-is_ne-clause-exact g c =
    let value = g.F.Exact.value in
    let entries = first_entries value c.args.basis.now.rows c.args.by.0.position c.args.ratios.0.now c.args.ratios.1.now c.args.by.0 c.args.by.1 c.requires.left_divisor c.requires.right_divisor in
    entries_decide entries c.in_ok-first.first (c.in_ok-first.ensures {u = tt}).exact c.args.end (omega arith) (sym c.is_ne.ensures ∙ c.if-is_ne.true)

pub rows-init : goal.rows-init
rows-init g c =
    let value = g.F.Exact.value in
    let entries = first_entries value c.args.basis.now.rows c.args.by.0.position c.args.ratios.0.now c.args.ratios.1.now c.args.by.0 c.args.by.1 c.requires.left_divisor c.requires.right_divisor in
    record { low = omega arith; agree = entries_agree entries c.in_ok-first.first (c.in_ok-first.ensures {u = tt}).exact (sym c.is_ne.ensures ∙ c.if-is_ne.false) }

pub returns-in_err-order-clause-spilled : goal.returns-in_err-order-clause-spilled
returns-in_err-order-clause-spilled g c =
    let value = g.F.Exact.value in
    let basis = c.args.basis.now.rows in
    let k = c.in-Some.k in
    let next : IsNextAt (length basis) (slice_index basis) (of_ratio value c.args.ratios.0.now).coord (of_ratio value c.args.ratios.1.now).coord c.rows.from c.args.end k
    = rw c.as_slice-rows.ensures at (c.in-Some.ensures {u = tt}) in
    let entries = next_entries value basis c.args.by.0.position c.args.ratios.0.now c.args.ratios.1.now c.args.by.0 c.args.by.1 c.requires.left_divisor c.requires.right_divisor c.requires.left c.requires.right
    c.rows.from c.args.end k c.requires.before_left c.requires.before_right next c.rows.invariant.agree _ _ _ _ c.index-left-k.is c.index-right-k.is c.neg-left_entry.ensures c.neg-right_entry.ensures in
    let row : slice_index_or c.as_slice-rows.result.now k 0 ≡ slice_index basis k = ap (λ (xs : List ℕ). slice_index xs k) c.as_slice-rows.ensures in
    let p = err_from_is_err_and c.from_residual-in_err-order.result c.from_residual-in_err-order.ensures.1 in
    rw (p.1, p.2)
    (entries_spill entries g.F.Exact.range c.args.end (slice_index_or c.as_slice-rows.result.now k 0 + 1) c.in_err-order.field-0.0 (omega (arith, row)) (omega (arith, next.below)) (c.in_err-order.ensures {u = tt}).spilled)

pub returns-then-is_ne-2-clause-exact : goal.returns-then-is_ne-2-clause-exact
returns-then-is_ne-2-clause-exact g c =
    let value = g.F.Exact.value in
    let basis = c.args.basis.now.rows in
    let k = c.in-Some.k in
    let next : IsNextAt (length basis) (slice_index basis) (of_ratio value c.args.ratios.0.now).coord (of_ratio value c.args.ratios.1.now).coord c.rows.from c.args.end k
    = rw c.as_slice-rows.ensures at (c.in-Some.ensures {u = tt}) in
    let entries = next_entries value basis c.args.by.0.position c.args.ratios.0.now c.args.ratios.1.now c.args.by.0 c.args.by.1 c.requires.left_divisor c.requires.right_divisor c.requires.left c.requires.right
    c.rows.from c.args.end k c.requires.before_left c.requires.before_right next c.rows.invariant.agree _ _ _ _ c.index-left-k.is c.index-right-k.is c.neg-left_entry.ensures c.neg-right_entry.ensures in
    entries_decide entries c.in_ok-order.order (c.in_ok-order.ensures {u = tt}).exact c.args.end (omega (arith, next.below)) (sym c.is_ne-in-Some.ensures ∙ c.if-is_ne-2.true)

pub rows-preserved : goal.rows-preserved
rows-preserved g c =
    let value = g.F.Exact.value in
    let basis = c.args.basis.now.rows in
    let k = c.in-Some.k in
    let next : IsNextAt (length basis) (slice_index basis) (of_ratio value c.args.ratios.0.now).coord (of_ratio value c.args.ratios.1.now).coord c.rows.from c.args.end k
    = rw c.as_slice-rows.ensures at (c.in-Some.ensures {u = tt}) in
    let entries = next_entries value basis c.args.by.0.position c.args.ratios.0.now c.args.ratios.1.now c.args.by.0 c.args.by.1 c.requires.left_divisor c.requires.right_divisor c.requires.left c.requires.right
    c.rows.from c.args.end k c.requires.before_left c.requires.before_right next c.rows.invariant.agree _ _ _ _ c.index-left-k.is c.index-right-k.is c.neg-left_entry.ensures c.neg-right_entry.ensures in
    let row : slice_index_or c.as_slice-rows.result.now k 0 ≡ slice_index basis k = ap (λ (xs : List ℕ). slice_index xs k) c.as_slice-rows.ensures in
    let more = entries_agree entries c.in_ok-order.order (c.in_ok-order.ensures {u = tt}).exact (sym c.is_ne-in-Some.ensures ∙ c.if-is_ne-2.false) in
    record {
      low = omega (arith, row, next.below);
      agree = λ i l. more i (omega (arith, row, l));
    }

pub returns-clause-exact : goal.returns-clause-exact
returns-clause-exact g c =
    let value = g.F.Exact.value in
    let basis = c.args.basis.now.rows in
    let n = length basis in
    let at = slice_index basis in
    let by = c.args.by.0 in
    let and_by = c.args.by.1 in
    let j = by.position in
    let u = of_ratio value c.args.ratios.0.now in
    let v = of_ratio value c.args.ratios.1.now in
    let zero : AreZeroBetween n at u.coord v.coord c.rows.from c.args.end = rw c.as_slice-rows.ensures at (c.in_default.ensures {u = tt}) in
    sym (lex_cmp-Equal (suc c.args.end) (ratio_on by.side n at j u) (ratio_on and_by.side n at j v)
    (agree_between by.side and_by.side n at j u v c.rows.from c.args.end c.requires.before_left c.requires.before_right zero c.rows.invariant.agree))
