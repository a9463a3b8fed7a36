use Rattle.std.proofs.Common.{true}
use Rattle.tv_penalty.proofs.Widths.{shaped_result}
use Rattle.tv_penalty.proofs.assembly.qss_rows.Goals as goal

pub returns-clause-shape : goal.returns-clause-shape
returns-clause-shape c = shaped_result true c.args.frame.now c.args.design.now c.args.model.now c.smooths_added.result c.smooths_added.ensures.smoothing c.smooths_added.ensures.sound
