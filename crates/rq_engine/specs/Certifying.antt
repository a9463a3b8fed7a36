-- Inner. Why an input has no certificate, step by step.
use Rattle.std.specs.Prelude.{List, ⊤}
use Rattle.rational_laws.specs.Fraction.{Fraction}
use Rattle.loss_model.specs.declared.interval.Interval.{Interval}
use Rattle.rank_walk_model.specs.Intervals.{stated}
use Rattle.cert_text.specs.Kept.{IsKeptInterval}
use Rattle.cert_text.specs.declared.cert.Cert.{Cert}
use Rattle.report_text.specs.declared.report.Refusal.TheVariants.{CertTooLong}
use Rattle.report_text.specs.declared.report.Halt.{Halt}
use Rattle.report_text.specs.declared.report.Halt.TheVariants.{Refused, OutOfMemory}
use Rattle.rq_engine.specs.Certificates.{IsTooLong}

-- a certificate with this interval can be kept, whatever factors are listed
abbrev pub IsKept : Interval → Type 0
IsKept r = (factors : List Fraction) → IsKeptInterval (stated r factors)

-- the certificate wasn't found to be short: memory ended, or it is too long
abbrev pub IsLengthHalt : Cert → Halt → Type 0
IsLengthHalt cert OutOfMemory = ⊤
IsLengthHalt cert (Refused (CertTooLong n)) = IsTooLong cert n
IsLengthHalt cert halt = ⊥
