use Rattle.cert_text.proofs.Same.{same}
use Rattle.cert_text.proofs.laws.same_content.Goals as goal

pub returns : goal.returns
returns c = same
