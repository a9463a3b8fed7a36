use Rattle.quantile_laws.proofs.Monotonicity as law
use Rattle.quantile_laws.proofs.laws.least_loss.Goals as goal

pub returns : goal.returns
returns c =
    record {
      affine = law.affine;
      concave = law.concave;
      one = law.one;
      continuous = law.continuous;
      line = law.line;
      slope = law.slope_falls;
      falls = law.slope_along;
    }
