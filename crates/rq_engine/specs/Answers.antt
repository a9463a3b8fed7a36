-- Stated. What the engine is asked and answers.
use Rattle.std.specs.Prelude.{◌⊎◌, ℕ, Bool, true, false, List, is_some, length}
use Rattle.cert_text.specs.declared.cert.Cert.{Cert}
use Rattle.rq_input.specs.Inputs.{HasInputCause, IsInput}
use Rattle.rq_input.specs.Plain.{HasPlainCause, IsPlain}
use Rattle.rq_input.specs.Predictions.{HasPredictionCause, IsPrediction}
use Rattle.rq_input.specs.Rows.{HasRows}
use Rattle.rq_input.specs.Tested.{HasTestedCause, IsTested}
use Rattle.rq_input.specs.declared.input.Input.{Input}
use Rattle.rq_input.specs.declared.plain.PlainInput.{PlainInput}
use Rattle.rq_input.specs.declared.predictions.PredictionInput.{PredictionInput}
use Rattle.rq_words.specs.declared.job.FitJob.{FitJob}
use Rattle.rq_words.specs.declared.job.Job.{Job}
use Rattle.rq_words.specs.declared.job.PathJob.{PathJob}
use Rattle.rq_words.specs.declared.job.TestJob.{TestJob}
use Rattle.rq_words.specs.declared.job.Job.TheVariants as jobs
use Rattle.report_text.specs.declared.report.Fit.{Fit}
use Rattle.report_text.specs.declared.report.PathFit.{PathFit}
use Rattle.report_text.specs.declared.report.PredictFit.{PredictFit}
use Rattle.report_text.specs.declared.report.RanksFit.{RanksFit}
use Rattle.report_text.specs.declared.report.TestFit.{TestFit}
use Rattle.report_text.specs.declared.report.Report.{Report}
use Rattle.report_text.specs.declared.report.Report.TheVariants as reports
use Rattle.report_text.specs.declared.report.Refusal.TheVariants.{CertTooLong}
use Rattle.report_text.specs.declared.report.Halt.{Halt}
use Rattle.report_text.specs.declared.report.Halt.TheVariants.{Refused}
use Rattle.rq_engine.specs.Fit.{IsFitOf}
use Rattle.rq_engine.specs.Paths.{HasPathCause, IsPathFitOf}
use Rattle.rq_engine.specs.Predicted.{HasPredictedCause, IsPredictFitOf}
use Rattle.rq_engine.specs.Ranks.{AreRanksOf}
use Rattle.rq_engine.specs.Stops.{HasProblemCause}
use Rattle.rq_engine.specs.Tested.{HasTestCause, IsTestFitOf}
use Rattle.rq_engine.specs.Certificates.{IsCertificateOf, IsTooLong, IsWritten}
use Rattle.rq_engine.specs.Checks.{HasCheckCause, IsCheckedOf}
use Rattle.rq_engine.specs.Jobs.{sample_fit, sample_table}

-- ---- the report

-- the fit is right for the input that the bytes are; that has no smooths where ranks are asked for
abbrev pub IsFitOfBytes : FitJob → Bool → List ℕ → Fit → Type 0
IsFitOfBytes job ranked bytes fit = (input : Input) × IsInput job ranked bytes input × IsFitOf job input fit

-- the Wilcoxon scores are right for the input that the bytes are, which has no smooths
abbrev pub AreRanksOfBytes : FitJob → List ℕ → RanksFit → Type 0
AreRanksOfBytes job bytes ranks = (input : Input) × IsInput job true bytes input × AreRanksOf job input ranks

-- the certificate states the right fit of the input
pub record IsCertified (job : FitJob) (input : Input) (cert : Cert) : Type 0 where
  pub rows : HasRows input
  pub fit : Fit
  pub right : IsFitOf job input fit
  pub is : IsCertificateOf job fit cert

-- the certificate states the right fit of the input that the bytes are
abbrev pub IsCertifiedOfBytes : FitJob → List ℕ → Cert → Type 0
IsCertifiedOfBytes job bytes cert = (input : Input) × IsInput job (is_some job.rank) bytes input × IsCertified job input cert

-- the test is right for the input that the bytes are, which has the tested columns
abbrev pub IsTestFitOfBytes : TestJob → List ℕ → TestFit → Type 0
IsTestFitOfBytes job bytes fit = (input : Input) × IsTested job bytes input × IsTestFitOf job input fit

-- the predictions are right for the rows that the bytes ask for
abbrev pub IsPredictFitOfBytes : FitJob → List ℕ → PredictFit → Type 0
IsPredictFitOfBytes job bytes fit = (asked : PredictionInput) × IsPrediction job bytes asked × IsPredictFitOf job asked fit

-- the path is right for the input that the bytes are
abbrev pub IsPathFitOfBytes : PathJob → List ℕ → PathFit → Type 0
IsPathFitOfBytes job bytes fit = (plain : PlainInput) × IsPlain job.fit bytes plain × IsPathFitOf job plain fit

-- the report is right for the job and for the bytes; that of a generated table is of the table's own bytes
abbrev pub IsRight : Job → List ℕ → Report → Type 0
IsRight (jobs.Process job) bytes (reports.Process fit) = IsFitOfBytes job (is_some job.rank) bytes fit
IsRight (jobs.Ranks job) bytes (reports.Ranks ranks) = AreRanksOfBytes job bytes ranks
IsRight (jobs.Certify job) bytes (reports.Certificate cert) = IsCertifiedOfBytes job bytes cert × IsWritten cert
IsRight jobs.Check bytes (reports.Checked cert) = IsCheckedOf bytes cert
IsRight (jobs.Test job) bytes (reports.Test fit) = IsTestFitOfBytes job bytes fit
IsRight (jobs.Predict job) bytes (reports.Predict fit) = IsPredictFitOfBytes job bytes fit
IsRight (jobs.Path job) bytes (reports.Path fit) = IsPathFitOfBytes job bytes fit
IsRight (jobs.Sample job) bytes (reports.Sample fit) = IsFitOfBytes (sample_fit job) false (sample_table job) fit
IsRight _ bytes report = ⊥

-- ---- why there is none

-- the problem of the bytes has no fit, for this halt; its rows are data rows and then penalty rows
pub record LacksFit (job : FitJob) (ranked : Bool) (bytes : List ℕ) (halt : Halt) : Type 0 where
  pub input : Input
  pub is : IsInput job ranked bytes input
  pub rows : HasRows input
  pub cause : HasProblemCause job (length input.design.rows) input.problem halt

-- why bytes have no fit: they are no input, or its problem has none
abbrev pub HasFitCause : FitJob → Bool → List ℕ → Halt → Type 0
HasFitCause job ranked bytes halt = HasInputCause job ranked bytes halt ⊎ LacksFit job ranked bytes halt

-- why an input has no certificate: its problem has no fit, or its certificate is too long
abbrev pub HasCertifiedCause : FitJob → Input → Halt → Type 0
HasCertifiedCause job input (Refused (CertTooLong n)) = (cert : Cert) × IsCertified job input cert × IsTooLong cert n
HasCertifiedCause job input halt = HasProblemCause job (length input.design.rows) input.problem halt

-- the input of the bytes has no certificate, for this halt
pub record LacksCertificate (job : FitJob) (bytes : List ℕ) (halt : Halt) : Type 0 where
  pub input : Input
  pub is : IsInput job (is_some job.rank) bytes input
  pub rows : HasRows input
  pub cause : HasCertifiedCause job input halt

-- why bytes have no certificate: they are no input, or it has none
abbrev pub HasCertifyCause : FitJob → List ℕ → Halt → Type 0
HasCertifyCause job bytes halt = HasInputCause job (is_some job.rank) bytes halt ⊎ LacksCertificate job bytes halt

-- the input of the bytes has no test, for this halt
pub record LacksTestFit (job : TestJob) (bytes : List ℕ) (halt : Halt) : Type 0 where
  pub input : Input
  pub is : IsTested job bytes input
  pub rows : HasRows input
  pub cause : HasTestCause job input halt

-- why bytes have no test: they are no input that has the tested columns, or that has none
abbrev pub HasTestFitCause : TestJob → List ℕ → Halt → Type 0
HasTestFitCause job bytes halt = HasTestedCause job bytes halt ⊎ LacksTestFit job bytes halt

-- the rows that the bytes ask for have no predictions, for this halt
pub record LacksPredictFit (job : FitJob) (bytes : List ℕ) (halt : Halt) : Type 0 where
  pub asked : PredictionInput
  pub is : IsPrediction job bytes asked
  pub rows : HasRows asked.input
  pub cause : HasPredictedCause job asked halt

-- why bytes have no predictions: they ask for none, or the rows that they ask for have none
abbrev pub HasPredictCause : FitJob → List ℕ → Halt → Type 0
HasPredictCause job bytes halt = HasPredictionCause job bytes halt ⊎ LacksPredictFit job bytes halt

-- the input of the bytes has no path, for this halt
pub record LacksPathFit (job : PathJob) (bytes : List ℕ) (halt : Halt) : Type 0 where
  pub plain : PlainInput
  pub is : IsPlain job.fit bytes plain
  pub rows : HasRows plain.input
  pub cause : HasPathCause job plain halt

-- why bytes have no path: they are no input, or it has none
abbrev pub HasPathFitCause : PathJob → List ℕ → Halt → Type 0
HasPathFitCause job bytes halt = HasPlainCause job.fit bytes halt ⊎ LacksPathFit job bytes halt

-- why there is no report for the job
abbrev pub HasCause : Job → List ℕ → Halt → Type 0
HasCause (jobs.Process job) bytes halt = HasFitCause job (is_some job.rank) bytes halt
HasCause (jobs.Ranks job) bytes halt = HasFitCause job true bytes halt
HasCause (jobs.Certify job) bytes halt = HasCertifyCause job bytes halt
HasCause jobs.Check bytes halt = HasCheckCause bytes halt
HasCause (jobs.Test job) bytes halt = HasTestFitCause job bytes halt
HasCause (jobs.Predict job) bytes halt = HasPredictCause job bytes halt
HasCause (jobs.Path job) bytes halt = HasPathFitCause job bytes halt
HasCause (jobs.Sample job) bytes halt = HasFitCause (sample_fit job) false (sample_table job) halt
