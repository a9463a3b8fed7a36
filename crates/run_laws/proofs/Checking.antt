-- What `check` answers to the bytes of a certificate whose conditions are all true.
use Rattle.std.proofs.Common.{◌≡◌, ℕ, List, [], ◌∷◌, ◌++◌, sym, ap, subst, ◌∙◌}
use Rattle.cert_text.specs.Laws.{SameContent}
use Rattle.cert_text.specs.declared.cert.Cert.{Cert}
use Rattle.cert_checker.specs.Certificates.{tests}
use Rattle.cert_checker.specs.Formulas.{worth}
use Rattle.cert_checker.specs.Tests.{Part, Test, ArePartsTrue, AreTrue, Holds}
use Rattle.cert_checker.specs.Verdicts.{IsFirstFalse}
use Rattle.cert_checker.specs.declared.verdict.Rejection.{Rejection}
use Rattle.rq_words.specs.declared.job.Job.TheVariants as jobs
use Rattle.report_text.specs.declared.report.Report.{Report}
use Rattle.report_text.specs.declared.report.Report.TheVariants as reports
use Rattle.report_text.specs.declared.report.Refusal.TheVariants as refusals
use Rattle.report_text.specs.declared.report.Halt.{Halt}
use Rattle.report_text.specs.declared.report.Halt.TheVariants.{Refused, OutOfMemory, Rejected}
use Rattle.rq_engine.specs.Answers.{HasCause, IsRight}
use Rattle.rq_engine.specs.Checks.{IsCertOf}
use Rattle.run_laws.specs.Certificates.{IsUndecided}

at_test : (before : List Test) (t : Test) (after : List Test) → AreTrue (before ++ t ∷ after) → ArePartsTrue t.parts
at_test [] t after h = h.0
at_test (x ∷ before) t after h = at_test before t after h.1

at_part : (before : List Part) (p : Part) (after : List Part) → ArePartsTrue (before ++ p ∷ after) → Holds p.relation (worth p.left) (worth p.right)
at_part [] p after h = h.0
at_part (x ∷ before) p after h = at_part before p after h.1

-- tests that are all true have no first that is false
none_false : (ts : List Test) (r : Rejection) → AreTrue ts → IsFirstFalse ts r → ⊥
none_false ts r all h =
    let parts = at_test h.before h.test h.after (subst AreTrue h.tests all) in
    h.refused.false (at_part h.refused.before h.refused.part h.refused.after (subst ArePartsTrue h.refused.parts parts))

module _ (same : SameContent) (bytes : List ℕ) (cert : Cert) (back : IsCertOf bytes cert) (sound : AreTrue (tests cert)) where
  same_cert : (other : Cert) → IsCertOf bytes other → other ≡ cert
  same_cert other h = same other cert (cc (sym h ∙ back))

  pub one_report : (report : Report) → IsRight jobs.Check bytes report → report ≡ reports.Checked cert
  one_report (reports.Checked other) h = ap (λ c. reports.Checked c) (same_cert other h.is)
  one_report report h = absurd h

  pub undecided : (halt : Halt) → HasCause jobs.Check bytes halt → IsUndecided halt
  undecided (Refused (refusals.Certificate fault)) h = absurd (cc (sym h.1 ∙ back))
  undecided OutOfMemory h = tt
  undecided (Rejected rejection) h =
      absurd (none_false (tests cert) rejection sound (subst (λ (c : Cert). IsFirstFalse (tests c) rejection) (same_cert h.cert h.is) h.first))
  undecided halt h = absurd h
