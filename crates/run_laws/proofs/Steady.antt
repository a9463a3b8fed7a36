-- Other responses that lie as the marks say leave a segment as it is.
use Rattle.std.specs.Prelude.{◌≡◌, ℕ, Option, Some, None, slice_get, pos}
use Rattle.std.specs.Option.{option_map_or}
use Rattle.std.proofs.Common.{refl, sym}
use Rattle.rational_laws.specs.Rational.{ℚ, whole}
use Rattle.frac_core.specs.declared.frac128.Frac128.{Frac128}
use Rattle.frac_core.specs.Values.{value}
use Rattle.loss_model.specs.declared.problem.Problem.{Problem}
use Rattle.loss_model.specs.declared.process.Segment.{Segment}
use Rattle.loss_model.specs.declared.vertex.Side.{Side}
use Rattle.loss_model.specs.declared.vertex.Side.TheVariants.{Up, Down, Basic}
use Rattle.loss_model.specs.Sample.{Sample}
use Rattle.loss_model.specs.Problem.{sample, number_at}
use Rattle.loss_model.specs.Segment.{dual_at}
use Rattle.loss_model.specs.Vertex.{value_of_side, basic_value}
use Rattle.quantile_laws.specs.Equivariance.{ResponsesMayMove}
use Rattle.run_laws.specs.Reports.{printed}
use Rattle.run_laws.specs.SteadyReports.{marked_side, IsSteady}
use Rattle.run_laws.proofs.Segments.{IsShown}

-- the value by a mark is the same with that of a basic row put in its own place
of_side : (p : Sample) (theta : ℚ) (basic e : ℕ → ℚ) (i : ℕ) (o : Option Side) → option_map_or (value_of_side p theta basic i) o (whole (pos 0)) ≡ e i
    → e i ≡ value_of_side p theta e i (option_map_or (λ s. s) o Basic)
of_side p theta basic e i None h = refl
of_side p theta basic e i (Some Up) h = sym h
of_side p theta basic e i (Some Down) h = sym h
of_side p theta basic e i (Some Basic) h = refl

pub steady : ResponsesMayMove → (p : Problem Frac128) (s : Segment) → IsShown p s → IsSteady p s
steady move p s shown y lie =
    let b = number_at s.vertex.coef in
    record {
      at_lo = move (sample value p) (printed s.lo) b (dual_at value p s.vertex s.basic_lo s.lo) (marked_side s) y shown.lo.feasible
          (λ i l. of_side (sample value p) (printed s.lo) (basic_value s.vertex s.basic_lo) (dual_at value p s.vertex s.basic_lo s.lo) i (slice_get s.vertex.sides i) refl) lie;
      at_hi = move (sample value p) (printed s.hi) b (dual_at value p s.vertex s.basic_hi s.hi) (marked_side s) y shown.hi.feasible
          (λ i l. of_side (sample value p) (printed s.hi) (basic_value s.vertex s.basic_hi) (dual_at value p s.vertex s.basic_hi s.hi) i (slice_get s.vertex.sides i) refl) lie;
    }
