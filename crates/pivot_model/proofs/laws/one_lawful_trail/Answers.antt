use Rattle.pivot_model.proofs.Unique.{one_ended}
use Rattle.pivot_model.proofs.laws.one_lawful_trail.Goals as goal

pub returns : goal.returns
returns g c =
    λ p theta trail other basis last costs u stop v end. one_ended p theta costs trail other basis last u stop v end
