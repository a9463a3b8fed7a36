-- Stated. The printed text of a report: lines of words with one space between them.
use Rattle.std.specs.Prelude.{All, ◌≡◌, ◌≤◌, ℕ, ◌+◌, ◌-◌, ◌==◌, Bool, true, false, if◌then◌else◌, nat_lt}
use Rattle.std.specs.Prelude.{List, [], ◌∷◌, ◌++◌, length, slice_get, Option, Some, codes, decimal, ⊤}
use Rattle.std.specs.List.{flat_map, zip}
use Rattle.rational_laws.specs.Fraction.{Fraction}
use Rattle.loss_model.specs.declared.vertex.Side.{Side}
use Rattle.loss_model.specs.declared.vertex.Side.TheVariants.{Up, Down, Basic}
use Rattle.loss_model.specs.declared.process.Segment.{Segment}
use Rattle.loss_model.specs.declared.interval.Bound.{Bound}
use Rattle.loss_model.specs.declared.interval.Bound.TheVariants.{Finite, Infinite}
use Rattle.loss_model.specs.declared.interval.Interval.{Interval}
use Rattle.cert_text.specs.Trees.{cert_text}
use Rattle.cert_text.specs.declared.cert.Cert.{Cert}
use Rattle.rankscores.specs.declared.pair.ScorePair.{ScorePair}
use Rattle.ratio.specs.Text.{ratio_text}
use Rattle.predict_steps.specs.declared.step.Step.{Step}
use Rattle.report_text.specs.declared.report.Fit.{Fit}
use Rattle.report_text.specs.declared.report.RanksFit.{RanksFit}
use Rattle.report_text.specs.declared.report.TestFit.{TestFit}
use Rattle.report_text.specs.declared.report.PathFit.{PathFit}
use Rattle.report_text.specs.declared.report.PredictFit.{PredictFit}
use Rattle.report_text.specs.declared.report.Prediction.{Prediction}
use Rattle.report_text.specs.declared.report.Report.{Report}
use Rattle.report_text.specs.declared.report.Report.TheVariants.{Process, Ranks, Certificate, Checked, Sample, Test, Predict, Path}
use Rattle.report_text.specs.Names.{name_bytes}

-- the texts of the items, which are numbered from i, one after another
abbrev pub numbered : {X : Type 0} → (ℕ → X → List ℕ) → ℕ → List X → List ℕ
numbered text i [] = []
numbered text i (x ∷ xs) = text i x ++ numbered text (i + 1) xs

-- how many records are kept and how many are not
unfoldable pub records_line : ℕ → ℕ → List ℕ
records_line kept dropped = codes "records " ++ decimal kept ++ codes " dropped " ++ decimal dropped ++ codes "\n"

-- the name of column j
unfoldable pub column_line : ℕ → List ℕ → List ℕ
column_line j name = codes "column " ++ decimal j ++ codes " " ++ name_bytes name ++ codes "\n"

-- how many rows there are of records and of smooths
unfoldable pub data_line : ℕ → ℕ → List ℕ
data_line rows penalty = codes "data " ++ decimal rows ++ codes " penalty " ++ decimal penalty ++ codes "\n"

-- how many pivots were made
unfoldable pub pivots_line : ℕ → List ℕ
pivots_line pivots = codes "pivots " ++ decimal pivots ++ codes "\n"

-- 1, 0 or * at a data row; +, - or * at a penalty row
abbrev pub score_mark : Bool → Side → ℕ
score_mark true Up = 49
score_mark true Down = 48
score_mark false Up = 43
score_mark false Down = 45
score_mark _ Basic = 42

-- the mark of row i, of which the first n are data rows
abbrev pub row_mark : ℕ → ℕ → Side → List ℕ
row_mark n i side = score_mark (nat_lt i n) side ∷ []

-- a mark for each row
unfoldable pub scores_line : ℕ → List Side → List ℕ
scores_line n sides = codes "scores " ++ numbered (row_mark n) 0 sides ++ codes "\n"

-- the range of segment i
unfoldable pub segment_line : ℕ → Segment → List ℕ
segment_line i s = codes "segment " ++ decimal i ++ codes " " ++ ratio_text s.lo ++ codes " " ++ ratio_text s.hi ++ codes "\n"

-- the coefficient of column j
unfoldable pub coef_line : ℕ → Fraction → List ℕ
coef_line j b = codes "coef " ++ decimal j ++ codes " " ++ ratio_text b ++ codes "\n"

-- the loss at both ends
unfoldable pub loss_line : Fraction → Fraction → List ℕ
loss_line lo hi = codes "loss " ++ ratio_text lo ++ codes " " ++ ratio_text hi ++ codes "\n"

-- the rankscores of a row of the basis at both ends, rows counted from 1
unfoldable pub basic_line : ScorePair → List ℕ
basic_line p = codes "basic " ++ decimal (p.row + 1) ++ codes " " ++ ratio_text p.at_lo ++ codes " " ++ ratio_text p.at_hi ++ codes "\n"

-- one segment: its range, its coefficients, its losses, its scores and its basic rows
unfoldable pub segment_text : ℕ → ℕ → Segment × List ScorePair → List ℕ
segment_text n i (s, pairs) =
    segment_line i s ++ numbered coef_line 1 s.vertex.coef ++ loss_line s.loss_lo s.loss_hi ++ scores_line n s.vertex.sides ++ flat_map basic_line pairs

-- an end of an interval, or this word where it is infinite
abbrev pub bound_text : List ℕ → Bound Fraction → List ℕ
bound_text word (Finite x) = ratio_text x
bound_text word Infinite = word

-- a rank interval: its column, counted from 1, its quantile, its low end and its high end
unfoldable pub interval_line : Interval → List ℕ
interval_line r =
    codes "interval " ++ decimal (r.column + 1) ++ codes " " ++ ratio_text r.tau ++ codes " "
    ++ bound_text (codes "-Inf") r.low.bound ++ codes " " ++ bound_text (codes "Inf") r.high.bound ++ codes "\n"

-- how many rows and pivots the fit has
unfoldable pub fit_size : Fit → List ℕ
fit_size fit = data_line fit.data_rows (length fit.problem.rows - fit.data_rows) ++ pivots_line (length fit.process.trail.steps)

-- what stands before the segments
unfoldable pub fit_head : Fit → List ℕ
fit_head fit = codes "quantreg 1\n" ++ records_line fit.kept fit.dropped ++ numbered column_line 1 fit.names ++ fit_size fit

-- the report of a fit
unfoldable pub fit_text : Fit → List ℕ
fit_text fit =
    fit_head fit ++ numbered (segment_text fit.data_rows) 1 (zip fit.process.segments fit.scores)
    ++ flat_map interval_line fit.intervals ++ codes "end\n"

-- the Wilcoxon score of row i
unfoldable pub wilcoxon_line : ℕ → Fraction → List ℕ
wilcoxon_line i score = codes "wilcoxon " ++ decimal i ++ codes " " ++ ratio_text score ++ codes "\n"

-- what stands before the Wilcoxon scores
unfoldable pub ranks_head : Fit → List ℕ
ranks_head fit =
    codes "quantreg ranks 1\n" ++ records_line fit.kept fit.dropped ++ numbered column_line 1 fit.names ++ pivots_line (length fit.process.trail.steps)

-- the report of Wilcoxon scores, rows counted from 1
unfoldable pub ranks_text : RanksFit → List ℕ
ranks_text ranks = ranks_head ranks.fit ++ numbered wilcoxon_line 1 ranks.wilcoxon ++ codes "end\n"

-- a word and a number
unfoldable pub count_line : List ℕ → ℕ → List ℕ
count_line name n = name ++ codes " " ++ decimal n ++ codes "\n"

-- how much a certificate holds
unfoldable pub size_lines : Cert → List ℕ
size_lines cert =
    count_line (codes "columns") cert.problem.columns ++ count_line (codes "rows") (length cert.problem.rows)
    ++ count_line (codes "segments") (length cert.segments) ++ count_line (codes "intervals") (length cert.intervals)

-- the report of a certificate that was accepted: that, and the verdict
unfoldable pub checked_text : Cert → List ℕ
checked_text cert = codes "quantreg check 1\n" ++ size_lines cert ++ codes "accepted\n" ++ codes "end\n"

-- the loss of the first segment at its low end, and of the last one at its high end
unfoldable pub outer_loss_line : Option Segment → Option Segment → List ℕ
outer_loss_line (Some first) (Some last) = loss_line first.loss_lo last.loss_hi
outer_loss_line _ _ = []

-- the losses at both ends of the range, where there is a segment
abbrev pub range_loss_line : List Segment → List ℕ
range_loss_line segments = outer_loss_line (slice_get segments 0) (slice_get segments (length segments - 1))

-- how large the fit of a generated table is
unfoldable pub sample_head : Fit → List ℕ
sample_head fit =
    codes "quantreg sample 1\n" ++ records_line fit.kept fit.dropped ++ count_line (codes "columns") fit.problem.columns
    ++ count_line (codes "segments") (length fit.process.segments)

-- the report of a generated table: that, how many pivots were made, and what is lost at both ends
unfoldable pub sample_text : Fit → List ℕ
sample_text fit = sample_head fit ++ pivots_line (length fit.process.trail.steps) ++ range_loss_line fit.process.segments ++ codes "end\n"

-- an item of the tested columns, counted from 1: a comma stands before all but the first
abbrev pub tested_item : ℕ → ℕ → List ℕ
tested_item place column = (if place == 0 then [] else codes ",") ++ decimal (column + 1)

-- the tested columns
unfoldable pub tested_line : List ℕ → List ℕ
tested_line tested = codes "tested " ++ numbered tested_item 0 tested ++ codes "\n"

-- the score of a column, counted from 1
unfoldable pub score_line : ℕ × Fraction → List ℕ
score_line (column, score) = codes "score " ++ decimal (column + 1) ++ codes " " ++ ratio_text score ++ codes "\n"

-- the statistic
unfoldable pub statistic_line : Fraction → List ℕ
statistic_line statistic = codes "statistic " ++ ratio_text statistic ++ codes "\n"

-- which columns are tested, and how many pivots were made without them
unfoldable pub test_size : TestFit → List ℕ
test_size fit = tested_line fit.tested ++ pivots_line (length fit.process.trail.steps)

-- what stands before the scores of a test
unfoldable pub test_head : TestFit → List ℕ
test_head fit = codes "quantreg test 1\n" ++ records_line fit.kept fit.dropped ++ numbered column_line 1 fit.names ++ test_size fit

-- the report of a test: the score of each tested column, and the statistic
unfoldable pub test_text : TestFit → List ℕ
test_text fit = test_head fit ++ flat_map score_line (zip fit.tested fit.scores) ++ statistic_line fit.statistic ++ codes "end\n"

-- a step of a function of the quantile: from here, up to here, this value
unfoldable pub step_line : Step → List ℕ
step_line s = codes "step " ++ ratio_text s.lo ++ codes " " ++ ratio_text s.hi ++ codes " " ++ ratio_text s.value ++ codes "\n"

-- what is predicted of a record: its steps, and their rearrangement
unfoldable pub prediction_text : Prediction → List ℕ
prediction_text p =
    count_line (codes "predict") p.rec ++ flat_map step_line p.steps ++ count_line (codes "rearranged") p.rec
    ++ flat_map step_line p.rearranged

-- what stands before the predictions
unfoldable pub predict_head : PredictFit → List ℕ
predict_head fit =
    codes "quantreg predict 1\n" ++ records_line fit.kept fit.dropped ++ numbered column_line 1 fit.names ++ pivots_line (length fit.process.trail.steps)

-- the report of predictions, record by record
unfoldable pub predict_text : PredictFit → List ℕ
predict_text fit = predict_head fit ++ flat_map prediction_text fit.predictions ++ codes "end\n"

-- + at a row above the fit, - below it, * at a row of the basis
unfoldable pub sides_line : List Side → List ℕ
sides_line sides = codes "sides " ++ numbered (row_mark 0) 0 sides ++ codes "\n"

-- the dual values of a row of the basis at both ends, rows counted from 1
unfoldable pub dual_line : (ℕ × Fraction) × Fraction → List ℕ
dual_line ((row, lo), hi) = codes "dual " ++ decimal (row + 1) ++ codes " " ++ ratio_text lo ++ codes " " ++ ratio_text hi ++ codes "\n"

-- those of all rows of the basis
abbrev pub duals_text : Segment → List ℕ
duals_text s = flat_map dual_line (zip (zip s.vertex.basis.rows s.basic_lo) s.basic_hi)

-- one segment of a path: its range, its coefficients, its losses, its sides and its basic rows
unfoldable pub path_segment_text : ℕ → Segment → List ℕ
path_segment_text i s =
    segment_line i s ++ numbered coef_line 1 s.vertex.coef ++ loss_line s.loss_lo s.loss_hi ++ sides_line s.vertex.sides ++ duals_text s

-- how many rows and pivots a path has
unfoldable pub path_size : PathFit → List ℕ
path_size fit = data_line fit.data_rows (length fit.problem.rows - fit.data_rows) ++ pivots_line (length fit.process.trail.steps)

-- what stands before the segments of a path
unfoldable pub path_head : PathFit → List ℕ
path_head fit = codes "quantreg path 1\n" ++ records_line fit.kept fit.dropped ++ numbered column_line 1 fit.names ++ path_size fit

-- the report of a path
unfoldable pub path_text : PathFit → List ℕ
path_text fit = path_head fit ++ numbered path_segment_text 1 fit.process.segments ++ codes "end\n"

-- as many values of basic rows at either end as there are basic rows
pub record IsPaired (s : Segment) : Type 0 where
  pub lo : length s.basic_lo ≡ length s.vertex.basis.rows
  pub hi : length s.basic_hi ≡ length s.vertex.basis.rows

-- the text of a report; that of a certificate is the certificate
abbrev pub report_text : Report → List ℕ
report_text (Process fit) = fit_text fit
report_text (Ranks ranks) = ranks_text ranks
report_text (Certificate cert) = cert_text cert
report_text (Checked cert) = checked_text cert
report_text (Sample fit) = sample_text fit
report_text (Test fit) = test_text fit
report_text (Predict fit) = predict_text fit
report_text (Path fit) = path_text fit

-- a fit has one list of scores per segment, and no more data rows than rows; a test has one score per tested column; a
-- path has no more data rows than rows, and its segments have their values
abbrev pub IsPrintable : Report → Type 0
IsPrintable (Process fit) = (length fit.scores ≡ length fit.process.segments) × (fit.data_rows ≤ length fit.problem.rows)
IsPrintable (Test fit) = length fit.scores ≡ length fit.tested
IsPrintable (Path fit) = (fit.data_rows ≤ length fit.problem.rows) × All IsPaired fit.process.segments
IsPrintable other = ⊤
