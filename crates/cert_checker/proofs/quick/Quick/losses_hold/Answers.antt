-- The values are balanced, since that is tested before.
use Rattle.std.proofs.Common.{subst}
use Rattle.cert_checker.specs.Views.{IsTableOf}
use Rattle.cert_checker.proofs.Wholes.{balanced_ends, lost_segment}
use Rattle.cert_checker.proofs.quick.Quick.losses_hold.Goals as goal

pub losses_hold-requires : goal.losses_hold-requires
losses_hold-requires c =
    let both = balanced_ends c.args.self.problem.now c.args.segment.now c.args.index c.requires.balanced in
    record { table = subst (IsTableOf c.args.self.problem.now) c.in-Some.is c.requires.table; low = both.0; high = both.1 }

pub returns-in-Some : goal.returns-in-Some
returns-in-Some c = λ h. lost_segment c.args.self.problem.now c.args.segment.now (c.losses_hold.ensures.low h) (c.losses_hold.ensures.high h) c.args.index
