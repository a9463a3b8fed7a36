-- Both entries are made.
use Rattle.std.proofs.Common.{◌∙◌, ap₂}
use Rattle.rational_laws.specs.Order.{cmp_ℚ}
use Rattle.whole_steps.proofs.tie.Line+i64+WholeInverse.order_at.Goals as goal

pub returns : goal.returns
returns c = c.entry_order-order.ensures ∙ ap₂ cmp_ℚ (c.in_ok-one.ensures {u = tt}).is (c.in_ok-two.ensures {u = tt}).is
