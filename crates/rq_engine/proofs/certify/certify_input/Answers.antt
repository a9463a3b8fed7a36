use Rattle.rq_engine.proofs.Certifying.{fit_ended, fit_listed, length_certified, problem_certified}
use Rattle.rq_engine.proofs.certify.certify_input.Goals as goal

pub returns-in-Err-clause-cause : goal.returns-in-Err-clause-cause
returns-in-Err-clause-cause g c = problem_certified c.args.job.now c.args.input c.in-Err.halt c.in-Err.ensures.cause

pub cert_of_fit-requires-clause-listed : goal.cert_of_fit-requires-clause-listed
cert_of_fit-requires-clause-listed g c = fit_listed c.args.job.now c.in-Ok.fit c.in-Ok.ensures.right.right

pub cert_of_fit-requires-clause-ended : goal.cert_of_fit-requires-clause-ended
cert_of_fit-requires-clause-ended g c = fit_ended c.args.job.now c.in-Ok.fit c.in-Ok.ensures.right.right

pub returns-in-Err-test_length-clause-cause : goal.returns-in-Err-test_length-clause-cause
returns-in-Err-test_length-clause-cause g c =
    length_certified c.args.job.now c.args.input c.in-Ok-cert_of_fit.cert
    (record { rows = c.requires.rows; fit = c.in-Ok.fit; right = c.in-Ok.ensures.right; is = c.in-Ok-cert_of_fit.ensures })
    c.in-Err-test_length.halt c.in-Err-test_length.ensures.long
