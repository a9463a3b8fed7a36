-- Stated. What a certificate says: the numbers of its problem by their values in ℚ, those of its segments and intervals as
-- fractions in lowest terms.
use Rattle.std.specs.Prelude.{List, map}
use Rattle.rational_laws.specs.Rational.{ℚ}
use Rattle.frac_core.specs.declared.frac128.Frac128.{Frac128}
use Rattle.frac_core.specs.Values.{exact}
use Rattle.loss_model.specs.declared.problem.Problem.{Problem}
use Rattle.loss_model.specs.declared.process.Segment.{Segment}
use Rattle.loss_model.specs.declared.interval.IntervalProof.{IntervalProof}
use Rattle.loss_model.specs.Values.{exact_row}
use Rattle.cert_text.specs.declared.cert.Cert.{Cert}

abbrev pub exact_problem : Problem Frac128 → Problem ℚ
exact_problem p = record { columns = p.columns; rows = map exact_row p.rows }

-- a problem, a range, segments and intervals
pub record Content : Type 0 where
  pub problem : Problem ℚ
  pub lo : ℚ
  pub hi : ℚ
  pub segments : List Segment
  pub intervals : List IntervalProof

-- what a certificate says
abbrev pub content : Cert → Content
content c = record {
  problem = exact_problem c.problem;
  lo = exact c.lo;
  hi = exact c.hi;
  segments = c.segments;
  intervals = c.intervals;
}
