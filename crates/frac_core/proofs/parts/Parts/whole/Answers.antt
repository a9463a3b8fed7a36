use Rattle.std.proofs.Common.{SFits, to_z-of_z}
use mir.Syntax.{w128}
use Rattle.frac_core.proofs.Values.{whole_is}
use Rattle.frac_core.proofs.parts.Parts.whole.Goals as goal

pub returns : goal.returns
returns c =
    let fits : SFits w128 c.args.n = c.ranges.n in
    rw (to_z-of_z fits) (whole_is c.args.limit c.args.n c.requires.num_fits c.requires.den_fits)
