-- What the inverse of the Gram matrix gives.
use Rattle.std.specs.Prelude.{◌≡◌, ◌≢◌, ℕ, ◌<◌, List, map, pos}
use Rattle.std.proofs.Common.{sym, ap, subst, ◌∙◌}
use Rattle.rational_laws.specs.Fraction.{Fraction}
use Rattle.rational_laws.specs.Rational.{ℚ, inverse, whole, ◌≤ℚ◌}
use Rattle.rational_laws.proofs.RationalLaws.{≤ℚ_refl}
use Rattle.rational_laws.specs.Matrices.{AreInverse}
use Rattle.loss_model.specs.Strict.{◌<ℚ◌}
use Rattle.loss_model.specs.Problem.{number_at, value_at}
use Rattle.loss_model.specs.Sample.{Sample}
use Rattle.loss_model.proofs.Alike.{same_numbers}
use Rattle.rank_model.specs.Restricted.{IsProjection, squared_length}
use Rattle.rank_model.specs.Gram.{gram, projection_of}
use Rattle.rank_model.proofs.Grams.{projects}
use Rattle.rank_model.proofs.Lengths.{by_entries, one_length}

module _ (p : Sample) (j : ℕ) (a : ℕ → ℕ → ℚ) (within : j < p.columns) (inv : AreInverse p.columns (gram p) a) where
  -- the diagonal entry isn't 0
  pub some : a j j ≢ whole (pos 0)
  some e = (projects p j a within inv).2 (subst (λ z. z ≤ℚ whole (pos 0)) (sym e) (≤ℚ_refl (whole (pos 0))))

  module _ (c : ℕ → ℚ) (each : (k : ℕ) → k < p.columns → c k ≡ projection_of a j k) where
    pub is_projection : IsProjection p j c
    is_projection = (by_entries p j (projection_of a j) c within each (projects p j a within inv).0).0

    pub length_is : inverse (a j j) ≡ squared_length p j c
    length_is =
        sym ((by_entries p j (projection_of a j) c within each (projects p j a within inv).0).1 ∙ (projects p j a within inv).1)

    pub positive : whole (pos 0) <ℚ squared_length p j c
    positive =
        subst (λ z. whole (pos 0) <ℚ z) (sym (by_entries p j (projection_of a j) c within each (projects p j a within inv).0).1)
        (projects p j a within inv).3

  -- the length that any projection leaves is one over the diagonal entry
  pub length_by : (c : ℕ → ℚ) (length : ℚ) → IsProjection p j c → length ≡ squared_length p j c → length ≡ inverse (a j j)
  length_by c length is e =
      e ∙ one_length p j c (projection_of a j) within is (projects p j a within inv).0 ∙ (projects p j a within inv).1

-- factors of any size that are those of a list
pub read_wide : {F : Type 0} (value : F → Fraction) (xs : List F) (wide : List Fraction) → wide ≡ map value xs → value_at value xs ≡ number_at wide
read_wide value xs wide is = (λ i k. sym (same_numbers value xs k) i) ∙ ap number_at (sym is)
