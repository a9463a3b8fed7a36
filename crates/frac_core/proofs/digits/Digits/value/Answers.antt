use Rattle.std.proofs.Common.{rules, ◌≡◌, None}
use Rattle.frac_core.proofs.DigitSteps.{all_too_wide}
use Rattle.frac_core.proofs.digits.Digits.value.Goals as goal

pub returns-in_err-self : goal.returns-in_err-self
returns-in_err-self c = λ digits h.
    let none : c.args.self.significand ≡ None = search rules in
    rw c.from_residual.ensures (all_too_wide digits c.args.self h none)
