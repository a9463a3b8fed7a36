use Rattle.std.proofs.Common.{ap, ◌∙◌}
use Rattle.rational_laws.specs.Fraction.{rational}
use Rattle.rational_laws.specs.Rational.{◌*ℚ◌}
use Rattle.loss_model.specs.Problem.{sample}
use Rattle.loss_model.specs.Segment.{segments_of}
use Rattle.ratio.specs.Sums.{total}
use Rattle.rankscores.proofs.Integrals.{h}
use Rattle.rankscores.proofs.Surveyed.{score_by_crosses}
use Rattle.rankscores.proofs.integral.wilcoxon_of.Goals as goal

pub returns : goal.returns
returns g c =
    let value = g.F.Exact.value in
    let p = c.args.problem.now in
    score_by_crosses (sample value p) (segments_of value p c.args.segments.now) c.args.row c.requires.covers c.requires.inside (rational c.in_ok-score.score) (total c.in_ok-terms.terms) (total c.put_end.new.terms)
    (c.in_ok-terms.ensures {u = tt}) (c.in_ok-put_end.ensures {u = tt})
    ((c.in_ok-score.ensures {u = tt}) ∙ ap (λ z. total z *ℚ h) c.as_slice.ensures)
