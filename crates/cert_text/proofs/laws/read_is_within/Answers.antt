use Rattle.cert_text.proofs.Within.{read_within}
use Rattle.cert_text.proofs.laws.read_is_within.Goals as goal

pub returns : goal.returns
returns c = read_within
