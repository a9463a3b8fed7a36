use Rattle.frac_core.proofs.NumberLaws.{are_too_wide, have_significand, reads_back}
use Rattle.frac_core.proofs.number_laws.number_text_laws.Goals as goal

pub returns-clause-reads_back : goal.returns-clause-reads_back
returns-clause-reads_back c = reads_back

pub returns-clause-significand : goal.returns-clause-significand
returns-clause-significand c = have_significand

pub returns-clause-too_wide : goal.returns-clause-too_wide
returns-clause-too_wide c = are_too_wide
