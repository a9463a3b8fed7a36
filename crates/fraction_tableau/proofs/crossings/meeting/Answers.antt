use Rattle.rational_laws.specs.Fraction.{rational}
use Rattle.fraction_tableau.proofs.Crossed.{gains_some}
use Rattle.fraction_tableau.proofs.crossings.meeting.Goals as goal

pub over_at-requires-after_bounds : goal.over_at-requires-after_bounds
over_at-requires-after_bounds g c κs within =
    gains_some c.args.direction (rational (g.F.Exact.value c.in_ok-gain.gain)) (c.passes.ensures.0 c.if-not-passes.false)
