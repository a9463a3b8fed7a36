use Rattle.std.proofs.Common.{◌≡◌, ◌≢◌, length, slice_index, pos, arith, sym, ap, ◌∙◌, ◌<◌}
use Rattle.rational_laws.specs.Fraction.{rational}
use Rattle.rational_laws.specs.Rational.{ℚ, neg_ℚ, whole}
use Rattle.rational_laws.specs.Order.{cmp_ℚ}
use Rattle.loss_model.specs.Problem.{value_at}
use Rattle.loss_model.proofs.Products.{value_read}
use Rattle.basis_model.specs.Perturbed.{nonbasic, side_of}
use Rattle.lex_rule.specs.Scan.{IsNextAt, AreZeroBetween}
use Rattle.basis_model.proofs.Signs.{side-residual}
use Rattle.lex_rule.proofs.Signs.{at_held, at_own}
use Rattle.lex_rule.proofs.sign.lex_sign.Goals as goal

pub returns-then-not-is_zero : goal.returns-then-not-is_zero
returns-then-not-is_zero g c =
    let value = g.F.Exact.value in
    let basis = c.args.basis.now.rows in
    let some : rational (value c.args.residual) ≢ whole (pos 0) = λ e. cc (sym c.if-not-is_zero.true ∙ c.is_zero.ensures.1 e) in
    λ rows l. c.side_of_value.ensures ∙ sym (side-residual (length basis) (slice_index basis) (nonbasic value c.args.row c.args.residual c.args.coords.now) some rows)

pub returns-in-Some : goal.returns-in-Some
returns-in-Some g c =
    let value = g.F.Exact.value in
    let basis = c.args.basis.now.rows in
    let coords = c.args.coords.now in
    let u = nonbasic value c.args.row c.args.residual coords in
    let k = c.in-Some.k in
    let residual : rational (value c.args.residual) ≡ whole (pos 0) = c.is_zero.ensures.0 c.if-not-is_zero.false in
    let next : IsNextAt (length basis) (slice_index basis) (value_at value coords) (value_at value coords) 0 c.args.row k = rw c.as_slice.ensures at (c.in-Some.ensures {u = tt}) in
    let within : k < length coords = omega (arith, next.within) in
    let entry : rational (value c.neg.result) ≡ neg_ℚ (value_at value coords k) = c.neg.ensures ∙ ap neg_ℚ (value_read value coords k c.index-coords-k.result within c.index-coords-k.is) in
    λ rows l. c.side_of_value-in-Some.ensures ∙ ap (λ (z : ℚ). side_of (cmp_ℚ z (whole (pos 0)))) entry ∙ at_held (length basis) (slice_index basis) u k c.requires.outside residual next rows l

pub returns-in-None : goal.returns-in-None
returns-in-None g c =
    let value = g.F.Exact.value in
    let basis = c.args.basis.now.rows in
    let coords = c.args.coords.now in
    let u = nonbasic value c.args.row c.args.residual coords in
    let residual : rational (value c.args.residual) ≡ whole (pos 0) = c.is_zero.ensures.0 c.if-not-is_zero.false in
    let none : AreZeroBetween (length basis) (slice_index basis) (value_at value coords) (value_at value coords) 0 c.args.row = rw c.as_slice.ensures at (c.in-None.ensures {u = tt}) in
    λ rows l. at_own (length basis) (slice_index basis) u residual none rows l
