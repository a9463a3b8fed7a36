use Rattle.real_laws.specs.RealLaws.{reals}
use Rattle.real_laws.proofs.Minima as law
use Rattle.real_laws.proofs.RealOrder.{keep_order}
use Rattle.real_laws.proofs.laws.minimum_over_reals.Goals as goal

pub returns : goal.returns
returns c = record { same = law.same reals; minimum = law.minimum reals; between = law.minimum_between reals; order = keep_order }
