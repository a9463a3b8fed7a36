use Rattle.std.proofs.Common.{arith}
use Rattle.std.proofs.lemmas.Grind.{common_steps}
use Rattle.cert_text.proofs.vertex.sides_of.Goals as goal

pub loop-sign-preserved : goal.loop-sign-preserved
loop-sign-preserved c = grind (arith, common_steps)
