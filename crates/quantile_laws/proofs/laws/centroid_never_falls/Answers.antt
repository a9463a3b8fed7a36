use Rattle.quantile_laws.proofs.Monotonicity as law
use Rattle.quantile_laws.proofs.laws.centroid_never_falls.Goals as goal

pub returns : goal.returns
returns c = record { between = law.centroid_never_falls; along = law.centroid_along }
