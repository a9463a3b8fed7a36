use Rattle.std.proofs.Common.{◌≡◌, ◌<◌, length, arith, refl, sym, ap, ◌∙◌}
use Rattle.rational_laws.specs.Fraction.{rational}
use Rattle.loss_model.specs.Spill.{abs_ℚ}
use Rattle.loss_model.proofs.Products.{value_read}
use Rattle.basis_model.proofs.Ratios.{abs_nonzero}
use Rattle.lex_rule.specs.Compared.{of_ratio}
use Rattle.lex_rule.proofs.less.divisor.Goals as goal

pub returns-clause-divides : goal.returns-clause-divides
returns-clause-divides g c =
    let value = g.F.Exact.value in
    let u = of_ratio value c.args.ratio.now in
    let within : c.args.position < length c.args.ratio.now.coords.now = omega (arith, c.requires.within, c.requires.same) in
    let read : rational (value c.absolute.result) ≡ abs_ℚ (rational (value c.index-ratio-position.result)) = rw (← c.index-ratio-position.is) at c.absolute.ensures in
    let size : rational (value c.absolute.result) ≡ abs_ℚ (u.coord c.args.position) = read ∙ ap abs_ℚ (value_read value c.args.ratio.now.coords.now c.args.position c.index-ratio-position.result within c.index-ratio-position.is) in
    record { row = refl; position = refl; size = size; some = λ e. abs_nonzero (u.coord c.args.position) c.requires.some (sym size ∙ e) }
