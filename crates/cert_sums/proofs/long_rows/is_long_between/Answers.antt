-- The number is compared with either bound.
use Rattle.std.proofs.Common.{subst}
use Rattle.std.specs.Prelude.{IsTrue}
use Rattle.rational_laws.specs.Rational.{whole, ◌≤ℚ◌}
use Rattle.rational_laws.proofs.WholeNumbers.{whole-le}
use Rattle.cert_sums.proofs.Orders.{most_whole}
use Rattle.cert_sums.proofs.long_rows.is_long_between.Goals as goal

pub returns : goal.returns
returns c = λ h.
    let value = c.args.value.now in
    let up = c.in-Some.up in
    let low = c.in-Some-long_line.low in
    let under = most_whole value up c.compare.result c.compare.ensures (subst IsTrue c.is_le.ensures c.if-not-is_le.false) in
    let over = most_whole low value c.compare-2.result c.compare-2.ensures (subst IsTrue c.is_le-2.ensures h) in
    record {
      upper = subst (λ z. whole value ≤ℚ whole z) (c.in-Some.ensures {u = tt}) (whole-le value up under);
      lower = subst (λ z. whole z ≤ℚ whole value) (c.in-Some-long_line.ensures {u = tt}) (whole-le low value over);
    }
