use Rattle.std.specs.Prelude.{pos}
use Rattle.rational_laws.specs.Rational.{whole}
use Rattle.walk_model.proofs.Slopes.{affine, crossing, slope_is, dual_is, costs_between}
use Rattle.walk_model.proofs.Crossings.{quotient_is, rise_is, over_quantiles_at, rising_at, falling_at}
use Rattle.walk_model.proofs.laws.slopes.Goals as goal

pub returns : goal.returns
returns c =
    record {
      affine = λ f at a t j d. affine f at a t j d;
      crossing = λ f at a t j d. crossing f at a j d t;
      computed = λ p at a t j d. (over_quantiles_at p at a t j d, λ tau k lk. rising_at p at a t j tau k lk d, λ tau k lk. falling_at p at a t j tau k lk d);
      parts = λ p at a j d. (rise_is p at a (whole (pos 0)) j d, quotient_is p at a (whole (pos 0)) j d);
      quantiles = λ p at a t. (λ j d. slope_is p at a t j d, λ i. dual_is p at a t i);
      costs = costs_between;
    }
