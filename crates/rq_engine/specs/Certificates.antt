-- Stated. What the certificate of a fit states.
use Rattle.std.specs.Prelude.{◌≡◌, ℕ, ◌*◌, ◌≤◌, ◌<◌, ◌^◌, ◌⊎◌, true, false, Ok, Some, length, map}
use Rattle.rank_walk_model.specs.Intervals.{statement}
use Rattle.cert_text.specs.Certificates.{cert_of}
use Rattle.cert_text.specs.Contents.{content}
use Rattle.cert_text.specs.Limits.{IsWithinLimits, most_sides}
use Rattle.cert_text.specs.Trees.{cert_text}
use Rattle.cert_text.specs.declared.cert.Cert.{Cert}
use Rattle.rq_words.specs.declared.job.FitJob.{FitJob}
use Rattle.report_text.specs.declared.report.Fit.{Fit}
use Rattle.rq_engine.specs.Digits.{cert_is_readable}

-- the certificate has the problem, the segments and the intervals of the fit, these with the factors that each lists, and the
-- range of the job
pub record IsCertificateOf (job : FitJob) (fit : Fit) (cert : Cert) : Type 0 where
  pub problem : cert.problem ≡ fit.problem
  pub lo : cert.lo ≡ job.lo
  pub hi : cert.hi ≡ job.hi
  pub segments : cert.segments ≡ fit.process.segments
  pub intervals : map Some cert.intervals ≡ map statement fit.intervals

-- the most bytes of a certificate's text
abbrev pub most_bytes : ℕ
most_bytes = 2 ^ 26

-- how many sides it has: rows times segments
abbrev pub sides_of : Cert → ℕ
sides_of cert = length cert.problem.rows * length cert.segments

-- its text and its sides are no more than that, no number of it has more digits than are read, and where the certificate is
-- within the limits of what is read, its text is read as the certificate
pub record IsWritten (cert : Cert) : Type 0 where
  pub short : length (cert_text cert) ≤ most_bytes
  pub few : sides_of cert ≤ most_sides
  pub readable : cert_is_readable cert ≡ true
  pub back : IsWithinLimits cert → cert_of (cert_text cert) ≡ Ok (content cert)

-- its text has this length, and that or the number of its sides is more than the most, or a number of it has more digits than
-- are read
abbrev pub IsTooLong : Cert → ℕ → Type 0
IsTooLong cert n = (n ≡ length (cert_text cert)) × ((most_bytes < n) ⊎ ((most_sides < sides_of cert) ⊎ (cert_is_readable cert ≡ false)))
