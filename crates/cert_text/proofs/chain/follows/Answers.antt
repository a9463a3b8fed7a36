use Rattle.std.proofs.Common.{◌∙◌}
use Rattle.cert_text.proofs.Chained.{follows_by}
use Rattle.cert_text.proofs.chain.follows.Goals as goal

pub returns : goal.returns
returns c =
    follows_by c.args.before.now c.args.segment.now c.as_slice.result.now c.as_slice-2.result.now _ _ _
    (c.as_slice.ensures.value ∙ c.in_ok-earlier.ensures) (c.as_slice-2.ensures.value ∙ c.in_ok-later.ensures)
    (c.if-not-is_equal.ensures {u = tt}) (c.if-not-is_equal-2.ensures {u = tt}) c.keep_values.ensures
