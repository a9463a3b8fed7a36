use Rattle.cert_text.proofs.Back.{back}
use Rattle.cert_text.proofs.laws.tree_reads_back.Goals as goal

pub returns : goal.returns
returns c = back
