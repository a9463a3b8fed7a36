-- Inner. What a walk in whole numbers hands out at its end.
use Rattle.std.specs.Prelude.{◌≡◌, ℕ, ℤ, ◌*ℤ◌}
use Rattle.rational_laws.specs.Fraction.{Fraction, rational}
use Rattle.rational_laws.specs.Rational.{ℚ, ◌+ℚ◌, ◌*ℚ◌}
use Rattle.loss_model.specs.declared.interval.End.{End}
use Rattle.basis_model.specs.Basis.{dual_value}
use Rattle.walk_model.specs.Families.{dual_in}
use Rattle.rank_walk_model.specs.Ends.{IsEndAt}
use Rattle.tableau_model.specs.Places.{Place, at_of, sample_of}
use Rattle.whole_rows.specs.declared.factor.Factor.{Factor}
use Rattle.whole_rows.specs.Wholes.{factor_value}
use Rattle.whole_steps.specs.declared.quantile.Quantile.{Quantile}
use Rattle.whole_tableau.specs.declared.reading.Reading.{Reading}
use Rattle.whole_tableau.specs.Kept.{Kept}
use Rattle.rank_steps.specs.Ways.{way_of}
use Rattle.rank_tableau.specs.declared.course.Course.{Course}
use Rattle.rank_tableau.specs.declared.finding.Finding.TheVariants.{Step as Stepped}
use Rattle.rank_tableau.specs.declared.outcome.Next.{Next}
use Rattle.rank_tableau.specs.declared.outcome.Next.TheVariants.{Step, End as Ended}
use Rattle.rank_tableau.specs.Founds.{family_of, parameter_at, IsFound}

-- numbers over the determinant and the quantile's second part, affine in what the column weighs for the whole rows, are read
-- there and divided by the factor of the costs
pub record IsWeighing {F : Type 0} (value : F → Fraction) (k : Kept F) (q : Quantile ℤ) (f : Factor ℤ) (weight : F) (r : Reading F) : Type 0 where
  pub theta : rational (value r.theta) ≡ (rational (value weight) *ℚ factor_value k.setting.wholes.cost) *ℚ factor_value f
  pub denominator : r.denominator.number ≡ k.square.determinant *ℤ q.under
  pub factor : rational (value r.factor) ≡ factor_value k.setting.wholes.cost

module _ {F : Type 0} (value : F → Fraction) (h : Place F) (c : Course F) where
  -- the dual value at position j, where the column weighs so much
  abbrev pub weighed_value : F → ℕ → ℚ
  weighed_value weight j =
      dual_value (sample_of value h) (at_of h) h.inverse (rational (value c.tau)) j +ℚ (h.inverse c.column j *ℚ rational (value weight))

  -- that of row i
  abbrev pub weighed_row : F → ℕ → ℚ
  weighed_row weight i = dual_in (family_of value (sample_of value h) c) (at_of h) h.inverse (parameter_at value c weight) i

  -- the end of the walk there
  abbrev pub IsEndOf : ℚ → F → End → Type 0
  IsEndOf bound from end = IsEndAt value h.task.problem (way_of c.way) c.column (rational (value c.tau)) bound h.rows h.inverse (parameter_at value c from) end

  -- the walking step, or the end
  abbrev pub IsNext : ℚ → F → Next F → Type 0
  IsNext bound from (Step x) = IsFound value h c bound from (Stepped x)
  IsNext bound from (Ended end) = IsEndOf bound from end
