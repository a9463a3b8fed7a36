use Rattle.std.proofs.Common.{◌≡◌, ◌-◌, ℕ, arith, subst}
use Rattle.std.proofs.lemmas.Result.{err_from_is_err_and}
use Rattle.frac_core.specs.Values.{exact}
use Rattle.formula_arith.specs.Values.{power_multiplications, raised_by}
use Rattle.formula_arith.specs.Evaluations.{NoneOverflows}
use Rattle.formula_arith.proofs.Overflows.{fits_more, halts_raising, raised_more}
use Rattle.formula_arith.proofs.operations.raise.Goals as goal

pub loop-factor-preserved : goal.loop-factor-preserved
loop-factor-preserved c =
    let l = c.loop-factor in
    record {
      power = raised_more l.factor (exact c.args.base) _ _ l.invariant.some l.invariant.power c.in_ok-power.ensures.value;
      fits = fits_more l.factor (exact c.args.base) _ l.invariant.some l.invariant.power l.invariant.fits c.in_ok-power.ensures.fits;
      some = omega arith;
      within = omega (arith, c.loop-factor-test.true);
    }

pub returns-in_err-power-clause-cause : goal.returns-in_err-power-clause-cause
returns-in_err-power-clause-cause c =
    let l = c.loop-factor in
    let p = err_from_is_err_and c.from_residual.result c.from_residual.ensures.1 in
    rw (p.1, p.2)
    (halts_raising c.args.count l.factor c.args.exponent (exact c.args.base) (exact l.power) _ l.invariant.some c.loop-factor-test.true l.invariant.power l.invariant.fits c.in_err-power.ensures.named)

pub returns-clause-value : goal.returns-clause-value
returns-clause-value c =
    let l = c.loop-factor in
    let all : l.factor - 1 ≡ c.args.exponent - 1 = omega (arith, l.invariant.within, c.loop-factor-test.false) in
    subst (λ (n : ℕ). exact l.power ≡ raised_by n (exact c.args.base)) all l.invariant.power

pub returns-clause-fits : goal.returns-clause-fits
returns-clause-fits c =
    let l = c.loop-factor in
    let all : l.factor - 1 ≡ c.args.exponent - 1 = omega (arith, l.invariant.within, c.loop-factor-test.false) in
    subst (λ (n : ℕ). NoneOverflows (power_multiplications n (exact c.args.base))) all l.invariant.fits
