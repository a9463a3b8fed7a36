use Rattle.std.proofs.Common.{sym}
use Rattle.rq_engine.proofs.Readable.{narrow_few}
use Rattle.rq_engine.proofs.digits.has_few_digits.Goals as goal

pub returns-then-is_some : goal.returns-then-is_some
returns-then-is_some c = sym (narrow_few c.args.n.now (c.narrow.ensures.fits.0 search))
