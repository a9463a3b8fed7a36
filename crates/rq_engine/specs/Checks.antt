-- Stated. What the job `check` finds in the bytes of a certificate.
use Rattle.std.specs.Prelude.{◌≡◌, ◌≢◌, ℕ, List, Ok, Err, ⊤}
use Rattle.cert_text.specs.Certificates.{cert_of}
use Rattle.cert_text.specs.Contents.{content}
use Rattle.cert_text.specs.declared.cert.Cert.{Cert}
use Rattle.cert_text.specs.declared.fault.CertFault.TheVariants as faults
use Rattle.cert_checker.specs.Certificates.{tests, IsVerdict}
use Rattle.cert_checker.specs.Verdicts.{IsFirstFalse}
use Rattle.cert_checker.specs.declared.verdict.Rejection.{Rejection}
use Rattle.cert_checker.specs.declared.verdict.Verdict.TheVariants.{Accepted}
use Rattle.report_text.specs.declared.report.Refusal.TheVariants.{Certificate}
use Rattle.report_text.specs.declared.report.Halt.{Halt}
use Rattle.report_text.specs.declared.report.Halt.TheVariants.{Refused, OutOfMemory, Rejected}

-- the bytes are this certificate
abbrev pub IsCertOf : List ℕ → Cert → Type 0
IsCertOf bytes cert = cert_of bytes ≡ Ok (content cert)

-- the bytes are this certificate, and all its conditions are true; so what it states is shown
pub record IsCheckedOf (bytes : List ℕ) (cert : Cert) : Type 0 where
  pub is : IsCertOf bytes cert
  pub accepted : IsVerdict cert Accepted

-- the bytes are a certificate, and this is the first of its tests that is false
pub record IsRejectedOf (bytes : List ℕ) (rejection : Rejection) : Type 0 where
  pub cert : Cert
  pub is : IsCertOf bytes cert
  pub first : IsFirstFalse (tests cert) rejection

-- why there is no verdict of acceptance: the first fault of the bytes, or a rejection. Want of memory is free of a cause
abbrev pub HasCheckCause : List ℕ → Halt → Type 0
HasCheckCause bytes (Refused (Certificate fault)) = (fault ≢ faults.OutOfMemory) × (cert_of bytes ≡ Err fault)
HasCheckCause bytes OutOfMemory = ⊤
HasCheckCause bytes (Rejected rejection) = IsRejectedOf bytes rejection
HasCheckCause bytes halt = ⊥
