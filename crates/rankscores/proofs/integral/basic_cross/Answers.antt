use Rattle.std.proofs.Common.{ap₂, ◌∙◌}
use Rattle.std.proofs.lemmas.Result.{IfOk-weaker}
use Rattle.rational_laws.specs.Fraction.{rational}
use Rattle.rankscores.specs.Rows.{cross}
use Rattle.rankscores.proofs.integral.basic_cross.Goals as goal

pub returns : goal.returns
returns g c =
    let s = c.args.segment.now in
    let scores = c.in_ok-scores.ensures {u = tt} in
    IfOk-weaker c.cross_product-cross.result _ _ (λ r is. is ∙ ap₂ (cross (rational s.lo) (rational s.hi)) scores.at_lo scores.at_hi) c.cross_product-cross.ensures
