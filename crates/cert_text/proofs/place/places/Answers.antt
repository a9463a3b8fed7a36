use Rattle.std.proofs.Common.{arith}
use Rattle.std.proofs.lemmas.Grind.{common_steps}
use Rattle.cert_text.proofs.place.places.Goals as goal

pub loop-side-preserved : goal.loop-side-preserved
loop-side-preserved c = grind (arith, common_steps)
