use Rattle.loss_model.proofs.Duality as law
use Rattle.loss_model.proofs.laws.complementary_slackness.Goals as goal

pub returns : goal.returns
returns c = record { complements = law.complements; sides = law.sides; moved = law.moved }
