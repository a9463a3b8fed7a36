use Rattle.std.proofs.Common.{refl}
use Rattle.frac_core.proofs.DigitSteps.{read_none}
use Rattle.frac_core.proofs.digits.Digits.new.Goals as goal

pub returns-clause-none : goal.returns-clause-none
returns-clause-none c = read_none _ refl refl
