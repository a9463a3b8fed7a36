-- Stated. The right fit of an input over 0 to 1 with the Wilcoxon scores of its rows.
use Rattle.std.specs.Prelude.{All, length, pos}
use Rattle.rational_laws.specs.Rational.{whole}
use Rattle.frac_core.specs.Values.{value}
use Rattle.loss_model.specs.Segment.{Covers, segments_of}
use Rattle.ratio.specs.Lowest.{IsLowest}
use Rattle.rankscores.specs.Wilcoxon.{AreWilcoxon}
use Rattle.rq_input.specs.declared.input.Input.{Input}
use Rattle.rq_words.specs.declared.job.FitJob.{FitJob}
use Rattle.report_text.specs.declared.report.RanksFit.{RanksFit}
use Rattle.rq_engine.specs.Fit.{IsFitOf}

-- the segments of a right fit cover 0 to 1, and these are the Wilcoxon scores of its rows (Gutenbrunner and Jurečková
-- 1992), in lowest terms
pub record AreRanksOf (job : FitJob) (input : Input) (ranks : RanksFit) : Type 0 where
  pub fit : IsFitOf job input ranks.fit
  pub covers : Covers (length ranks.fit.problem.rows) (whole (pos 0)) (whole (pos 1)) (segments_of value ranks.fit.problem ranks.fit.process.segments)
  pub wilcoxon : AreWilcoxon value ranks.fit.problem ranks.fit.process.segments ranks.wilcoxon
  pub lowest : All IsLowest ranks.wilcoxon
