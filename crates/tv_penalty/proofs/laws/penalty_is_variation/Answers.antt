use Rattle.tv_penalty.proofs.Variations.{penalty_is_variation}
use Rattle.tv_penalty.proofs.laws.penalty_is_variation.Goals as goal

pub returns : goal.returns
returns c = penalty_is_variation
