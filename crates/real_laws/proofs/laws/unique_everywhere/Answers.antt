use Rattle.real_laws.specs.RealLaws.{reals}
use Rattle.real_laws.proofs.Unique as law
use Rattle.real_laws.proofs.laws.unique_everywhere.Goals as goal

pub returns : goal.returns
returns g c =
    record {
      unique = law.unique g.N.Numbers.ring;
      between = law.unique_between g.N.Numbers.ring;
      real = law.unique reals;
      real_between = law.unique_between reals;
    }
