-- The inverse of a solve is that of a basis, and stays so.
use Rattle.std.specs.Prelude.{◌≡◌, ℕ, ◌≤◌, List, [], length, slice_get, slice_index, slice_set, Option, pos}
use Rattle.std.specs.Option.{option_map_or}
use Rattle.std.proofs.Common.{arith, refl, sym, ap, subst, ◌∙◌, length-set}
use Rattle.std.proofs.lemmas.List.{map-set}
use Rattle.std.proofs.lemmas.Option.{slice_get_past}
use Rattle.rational_laws.specs.Fraction.{Fraction, rational}
use Rattle.rational_laws.specs.Rational.{ℚ, whole}
use Rattle.rational_laws.specs.Matrices.{AreInverse, coordinate}
use Rattle.rational_laws.proofs.MatrixLaws.{AreInverse-same}
use Rattle.loss_model.specs.declared.problem.Row.{Row}
use Rattle.loss_model.specs.declared.problem.Problem.{Problem}
use Rattle.loss_model.specs.Problem.{value_at, sample}
use Rattle.loss_model.specs.Greedy.{basis_rows}
use Rattle.basis_inverse.specs.Square.{Square, entries, inverse_entry, IsInverse}
pub use Rattle.basis_inverse.proofs.Bases.{basis_entries}
use Rattle.basis_inverse.proofs.Bases.{distinct_rows}
use Rattle.basis_inverse.proofs.Lists.{beyond_ends}
use Rattle.basis_inverse.proofs.Underway.{IsRead, at_row}
use Rattle.basis_model.specs.Basis.{IsBasis}
use Rattle.basic_solution.specs.Bases.{HasBasis}
use Rattle.pivot_model.specs.Trails.{EndsAt}
use Rattle.fraction_tableau.specs.Inverses.{IsInverseOf}

pub basis_of : {F : Type 0} (value : F → Fraction) (p : Problem F) (basis : List ℕ) (s : Square F) → IsInverseOf value p basis s → IsBasis (sample value p) (slice_index basis) (inverse_entry value s)
basis_of {F} value p basis s h = record { distinct = distinct_rows p.columns (length p.rows) (sample value p).x (slice_index basis) (inverse_entry value s) none inv; inverse = inv }
  where
    inv : AreInverse p.columns (λ j k. (sample value p).x (slice_index basis j) k) (inverse_entry value s)
    inv =
        AreInverse-same p.columns (entries value s.rows) (λ j k. (sample value p).x (slice_index basis j) k) (inverse_entry value s) (inverse_entry value s)
        (subst (λ n. AreInverse n (entries value s.rows) (inverse_entry value s)) h.square h.inverse.both)
        (λ j k lj lk. sym (ap (λ rows. entries value rows j k) h.rows ∙ basis_entries value p basis j k (omega (arith, h.size)))) (λ k j lk lj. refl)

    none : (i k : ℕ) → length p.rows ≤ i → (sample value p).x i k ≡ whole (pos 0)
    none i k past = ap (λ (o : Option (Row F)). option_map_or (λ r. value_at value r.x k) o (whole (pos 0))) (slice_get_past p.rows i past)

-- the inverse is 0 outside
pub ends_of : {F : Type 0} (value : F → Fraction) (p : Problem F) (basis : List ℕ) (s : Square F) → IsInverseOf value p basis s → EndsAt p.columns (inverse_entry value s)
ends_of value p basis s h k j out = beyond_ends (λ v. rational (value v)) s.columns p.columns k j h.square h.inverse.square out

-- what holds of a row that was read holds of the row of its number
pub at_read : {F : Type 0} (value : F → Fraction) (p : Problem F) (i : ℕ) (r : Row F) (xs : List F) → IsRead p i r xs → (P : ℕ → (ℕ → ℚ) → Type 0) → P (length xs) (value_at value xs) → P p.columns ((sample value p).x i)
at_read {F} value p i r xs read P h =
    at_row value p i r read.there (λ f. P p.columns f)
    (subst (λ n. P n (value_at value r.x)) read.wide (subst (λ xs. P (length xs) (value_at value xs)) read.same h))

pub coordinate_read : {F : Type 0} (value : F → Fraction) (p : Problem F) (i : ℕ) (r : Row F) (xs : List F) → IsRead p i r xs → (a : ℕ → ℕ → ℚ) (j : ℕ)
    → coordinate (length xs) a (value_at value xs) j ≡ coordinate p.columns a ((sample value p).x i) j
coordinate_read {F} value p i r xs read a j =
    at_read value p i r xs read (λ n f. coordinate (length xs) a (value_at value xs) j ≡ coordinate n a f j) refl

-- the inverse after the exchange is that of the basis after it
pub inverse_after : {F : Type 0} (value : F → Fraction) (p : Problem F) (basis : List ℕ) (s t : Square F) (j i : ℕ) (r : Row F) (xs : List F) → IsRead p i r xs → IsInverseOf value p basis s → t.rows ≡ slice_set s.rows j xs
    → IsInverse value t → length t.columns ≡ length s.columns → IsInverseOf value p (slice_set basis j i) t
inverse_after {F} value p basis s t j i r xs read h rows inv size =
    record {
      inverse = inv;
      size = length-set basis j i ∙ h.size;
      square = size ∙ h.square;
      rows = rows ∙ ap (λ rows. slice_set rows j xs) h.rows
          ∙ ap (λ xs. slice_set (basis_rows p basis) j xs) (read.same ∙ sym (ap (λ (o : Option (Row F)). option_map_or (λ r. r.x) o []) read.there))
          ∙ sym (map-set (λ i. option_map_or (λ (r : Row F). r.x) (slice_get p.rows i) []) basis j i);
    }

pub has_basis : {F : Type 0} (value : F → Fraction) (p : Problem F) (basis : List ℕ) (s : Square F) → IsInverseOf value p basis s → HasBasis p s basis
has_basis value p basis s h = record { size = h.square; same = h.size; distinct = (basis_of value p basis s h).distinct }
