-- By the residual, by the first coordinate, or by the row itself.
use Rattle.std.proofs.Common.{rules, ◌≡◌, ◌≢◌, ◌<◌, ◌≤ℤ◌, ℤ, length, slice_index, pos, get_or, to_z, of_z, arith, ◌∙◌}
use mir.Syntax.{w128}
use Rattle.rational_laws.specs.Rational.{neg_ℚ, whole}
use Rattle.rational_laws.specs.Order.{cmp_ℚ}
use Rattle.basis_model.specs.Perturbed.{side_of}
use Rattle.lex_rule.specs.Scan.{IsNextAt, AreZeroBetween}
use Rattle.rational_laws.specs.WholeLists.{whole_at}
use Rattle.whole_inverse.specs.Shares.{share}
use Rattle.whole_solution.proofs.Made.{by_residual, by_held, by_own}
use Rattle.whole_solution.proofs.signs.perturbed_sign.Goals as goal

pub returns-then-residual-ne0 : goal.returns-then-residual-ne0
returns-then-residual-ne0 c =
    let basis = c.args.basis.now.rows in
    let some : c.args.residual ≢ pos 0 = search rules in
    let made : (d : ℤ) → pos 1 ≤ℤ d → c.side_of_number.result ≡ side_of (cmp_ℚ (share c.args.residual d) (whole (pos 0))) = search rules in
    λ d h rows l. made d h ∙ by_residual (length basis) (slice_index basis) c.args.row c.args.residual c.args.coords.now d h some rows

pub returns-in-Some : goal.returns-in-Some
returns-in-Some c =
    let basis = c.args.basis.now.rows in
    let coords = c.args.coords.now in
    let k = c.in-Some.k in
    let zero : c.args.residual ≡ pos 0 = search rules in
    let next : IsNextAt (length basis) (slice_index basis) (whole_at coords) (whole_at coords) 0 c.args.row k = rw c.as_slice.ensures at (c.in-Some.ensures {u = tt}) in
    let within : k < length coords = omega (arith, next.within, c.requires.same) in
    let plain : to_z w128 (of_z w128 (get_or coords k (pos 0))) ≡ get_or coords k (pos 0) = search rules in
    let made : (d : ℤ) → pos 1 ≤ℤ d → c.side_of_negated.result ≡ side_of (cmp_ℚ (neg_ℚ (share (get_or coords k (pos 0)) d)) (whole (pos 0))) = rw (plain) at c.side_of_negated.ensures in
    λ d h rows l. made d h ∙ by_held (length basis) (slice_index basis) c.args.row c.args.residual coords d h k within c.requires.outside zero next rows l

pub returns-in-None : goal.returns-in-None
returns-in-None c =
    let basis = c.args.basis.now.rows in
    let coords = c.args.coords.now in
    let zero : c.args.residual ≡ pos 0 = search rules in
    let none : AreZeroBetween (length basis) (slice_index basis) (whole_at coords) (whole_at coords) 0 c.args.row = rw c.as_slice.ensures at (c.in-None.ensures {u = tt}) in
    λ d h rows l. by_own (length basis) (slice_index basis) c.args.row c.args.residual coords d h zero none rows l
