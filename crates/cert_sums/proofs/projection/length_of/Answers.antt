-- The sum over the column, where the other ones have none.
use Rattle.std.proofs.Common.{◌≡◌, ◌<◌, pos, arith, sym, ap, ◌∙◌}
use Rattle.rational_laws.specs.Rational.{ℚ, ◌*ℚ◌, whole}
use Rattle.rational_laws.specs.Fraction.{Fraction}
use Rattle.std.specs.Prelude.{ℕ, List}
use Rattle.frac_core.specs.Values.{value as value128}
use Rattle.loss_model.specs.Problem.{number_at, sample}
use Rattle.rank_model.specs.Restricted.{projected}
use Rattle.cert_sums.proofs.Squares.{projection, one_sum}
use Rattle.cert_sums.proofs.projection.length_of.Goals as goal

pub returns-clause-projection : goal.returns-clause-projection
returns-clause-projection c =
    let s = sample value128 c.args.whole.problem.now in
    let t = c.args.interval.now in
    let f = number_at t.projection in
    let own : f t.column ≡ whole (pos 0)
    = ap (λ (xs : List Fraction). number_at xs t.column) (sym c.as_slice.ensures) ∙ sym (c.in_ok-own.ensures {u = tt}) ∙ c.is_zero.ensures.0 c.if-not-is_zero.false in
    projection s t.column f own (c.balances_but.ensures c.if-not-balances_but.false (λ i. s.up1 i *ℚ projected s t.column f i) (c.in_ok-left.ensures {u = tt}))

pub returns-clause-length : goal.returns-clause-length
returns-clause-length c =
    let p = c.args.whole.problem.now in
    let s = sample value128 p in
    let t = c.args.interval.now in
    let f = number_at t.projection in
    let e : ℕ → ℚ = λ i. s.up1 i *ℚ projected s t.column f i in
    let within : t.column < p.columns = omega arith in
    let own : f t.column ≡ whole (pos 0)
    = ap (λ (xs : List Fraction). number_at xs t.column) (sym c.as_slice.ensures) ∙ sym (c.in_ok-own.ensures {u = tt}) ∙ c.is_zero.ensures.0 c.if-not-is_zero.false in
    c.in_ok-length.ensures {u = tt} e (c.in_ok-left.ensures {u = tt})
    ∙ one_sum s t.column f own (c.balances_but.ensures c.if-not-balances_but.false e (c.in_ok-left.ensures {u = tt})) within
