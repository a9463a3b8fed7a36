use Rattle.std.proofs.Common.{◌∙◌}
use Rattle.cert_text.proofs.Lists.{last_of}
use Rattle.cert_text.proofs.chain.last.Goals as goal

pub returns : goal.returns
returns c = c.last.ensures.value ∙ last_of c.args.segments.now
