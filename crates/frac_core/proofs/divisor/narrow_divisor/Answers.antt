use Rattle.std.proofs.Common.{◌∙◌, sym, pos_of_ne-zero}
use Rattle.std.proofs.Common.{w64}
use Rattle.frac_core.specs.GcdLaws.{gcd_zero, gcd_comm}
use Rattle.frac_core.proofs.Binary.{odd_is, shifted_back}
use Rattle.frac_core.proofs.divisor.narrow_divisor.Goals as goal

pub returns-then-a-eq0 : goal.returns-then-a-eq0
returns-then-a-eq0 c = sym (gcd_comm _ _ ∙ gcd_zero _ _ c.if-a-eq0.true)

pub returns-then-b-eq0 : goal.returns-then-b-eq0
returns-then-b-eq0 c = sym (gcd_zero _ _ c.if-b-eq0.true)

pub narrow_odd_divisor-requires-clause-left : goal.narrow_odd_divisor-requires-clause-left
narrow_odd_divisor-requires-clause-left c = (odd_is w64 c.args.a (pos_of_ne-zero c.if-a-eq0.false) c.ranges.a.fits).0

pub narrow_odd_divisor-requires-clause-right : goal.narrow_odd_divisor-requires-clause-right
narrow_odd_divisor-requires-clause-right c = (odd_is w64 c.args.b (pos_of_ne-zero c.if-b-eq0.false) c.ranges.b.fits).0

pub returns : goal.returns
returns c =
    let a = odd_is w64 c.args.a (pos_of_ne-zero c.if-a-eq0.false) c.ranges.a.fits in
    let b = odd_is w64 c.args.b (pos_of_ne-zero c.if-b-eq0.false) c.ranges.b.fits in
    rw c.min.ensures (shifted_back c.args.a c.args.b _ _ c.narrow_odd_divisor.result 18446744073709551616 a.0 b.0 a.1 b.1 (pos_of_ne-zero c.if-a-eq0.false) c.ranges.a.fits c.narrow_odd_divisor.ensures)
