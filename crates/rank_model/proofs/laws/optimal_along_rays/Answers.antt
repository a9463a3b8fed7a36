use Rattle.rank_model.proofs.Optimal as law
use Rattle.rank_model.proofs.laws.optimal_along_rays.Goals as goal

pub returns : goal.returns
returns c = record { rising = law.rising_ray; falling = law.falling_ray }
