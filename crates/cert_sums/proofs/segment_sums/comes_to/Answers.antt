-- Both are equal.
use Rattle.std.proofs.Common.{◌∙◌}
use Rattle.cert_sums.proofs.segment_sums.comes_to.Goals as goal

pub returns-in-Some : goal.returns-in-Some
returns-in-Some c = λ t. c.is_number.ensures t ∙ (c.in-Some.ensures {u = tt})
