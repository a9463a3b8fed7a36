use Rattle.rankscores.proofs.Integrals.{line_mixes, trapezoid_is}
use Rattle.rankscores.proofs.laws.affine_integrals.Goals as goal

pub returns : goal.returns
returns c = record { trapezoid = trapezoid_is; mixes = line_mixes }
