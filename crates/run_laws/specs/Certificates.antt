-- Law. What `certify` writes passes: `check` of its text accepts it, unless memory ends.
use Rattle.std.specs.Prelude.{◌≡◌, ℕ, List, ⊤}
use Rattle.cert_text.specs.Limits.{IsWithinLimits}
use Rattle.cert_text.specs.Trees.{cert_text}
use Rattle.cert_text.specs.declared.cert.Cert.{Cert}
use Rattle.cert_checker.specs.Certificates.{tests}
use Rattle.cert_checker.specs.Tests.{AreTrue}
use Rattle.rq_words.specs.declared.job.FitJob.{FitJob}
use Rattle.rq_words.specs.declared.job.Job.TheVariants as jobs
use Rattle.report_text.specs.declared.report.Report.{Report}
use Rattle.report_text.specs.declared.report.Report.TheVariants as reports
use Rattle.report_text.specs.declared.report.Halt.{Halt}
use Rattle.report_text.specs.declared.report.Halt.TheVariants.{OutOfMemory}
use Rattle.rq_engine.specs.Answers.{HasCause, IsRight}
use Rattle.rq_engine.specs.Jobs.{IsJobOf}
use Rattle.rq_engine.specs.Checks.{IsCertOf}

-- want of memory
abbrev pub IsUndecided : Halt → Type 0
IsUndecided OutOfMemory = ⊤
IsUndecided halt = ⊥

-- the text of the certificate is read as the certificate, all its conditions are true, the one report of its text is
-- that it is accepted, and it is halted by nothing but want of memory
pub record Passes (cert : Cert) : Type 0 where
  pub within : IsWithinLimits cert
  pub back : IsCertOf (cert_text cert) cert
  pub sound : AreTrue (tests cert)
  pub report : (report : Report) → IsRight jobs.Check (cert_text cert) report → report ≡ reports.Checked cert
  pub halt : (halt : Halt) → HasCause jobs.Check (cert_text cert) halt → IsUndecided halt

-- every certificate that is right for words and bytes passes
abbrev pub WrittenCertificatesPass : Type 0
WrittenCertificatesPass =
    (words : List (List ℕ)) (job : FitJob) (bytes : List ℕ) (cert : Cert)
    → IsJobOf words (jobs.Certify job) → IsRight (jobs.Certify job) bytes (reports.Certificate cert) → Passes cert
