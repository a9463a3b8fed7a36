-- The vertex of a basis, from what stands there.
use Rattle.std.specs.Prelude.{◌≡◌, ◌≢◌, ◌↔◌, ℕ, ◌<◌, Bool, true, false, List, length, map, slice_get, slice_index, Contains, Some}
use Rattle.std.specs.List.Sorted.{IsStrictlyIncreasing}
use Rattle.std.specs.declared.cmp.Ordering.{Ordering}
use Rattle.std.specs.declared.cmp.Ordering.TheVariants.{Less, Equal, Greater}
use Rattle.std.proofs.Common.{arith, refl, sym, ap, ◌∙◌}
use Rattle.std.proofs.lemmas.List.{length-map}
use Rattle.rational_laws.specs.Fraction.{Fraction}
use Rattle.rational_laws.specs.Rational.{ℚ}
use Rattle.rational_laws.specs.Selections.{is_among}
use Rattle.loss_model.specs.declared.vertex.Side.{Side}
use Rattle.loss_model.specs.declared.vertex.Side.TheVariants.{Basic}
use Rattle.loss_model.specs.declared.vertex.Vertex.{Vertex}
use Rattle.loss_model.proofs.Alike.{same_numbers}
use Rattle.loss_model.specs.Problem.{number_at, value_at}
use Rattle.basis_model.specs.Perturbed.{side_of}
use Rattle.basis_model.specs.Basis.{side_at}
use Rattle.pivot_model.specs.Duals.{dual}
use Rattle.pivot_model.specs.Results.{IsVertexAt, AreBasicDuals}
use Rattle.pivot_model.proofs.Among.{among_at, among_place}
use Rattle.pivot_model.proofs.Sides.{sign, side_basic, side_outside, dual_at}
use Rattle.pivot_model.proofs.Solved.{any_default}
use Rattle.tableau_model.specs.Places.{Place, IsPlace, at_of, sample_of}
use Rattle.tableau_model.specs.Rows.{HasValueAt}
use Rattle.tableau_model.specs.Standing.{AreCoefficients, AreSides, AreDuals}

-- a row of the list is one of its first items
pub among_from : (basis : List ℕ) (n i : ℕ) → length basis ≡ n → Contains basis i → is_among (slice_index basis) n i ≡ true
among_from basis n i size (k, lk, e) =
    ap (is_among (slice_index basis) n) (sym e ∙ any_default basis k i 0 lk) ∙ among_at (slice_index basis) n k (omega (arith, size))

pub among_in : (basis : List ℕ) (n i : ℕ) → length basis ≡ n → is_among (slice_index basis) n i ≡ true → Contains basis i
among_in basis n i size h =
    let place : (j : ℕ) × (j < n) × (slice_index basis j ≡ i) = among_place (slice_index basis) n i h in
    let inside : place.0 < length basis = omega (arith, size, place.1) in
    (place.0, inside, any_default basis place.0 i 0 inside ∙ place.2)

outside_side : (o : Ordering) → side_of o ≢ Basic
outside_side Less h = absurd (cc h)
outside_side Equal h = absurd (cc h)
outside_side Greater h = absurd (cc h)

module _ {F : Type 0} (value : F → Fraction) (h : Place F) (is_place : IsPlace value h) where
  -- a value by row is the dual value of the row
  pub dual_by_row : {N : Type 0} (number : N → Fraction) (theta : ℚ) (duals : List N) → AreDuals value h number theta duals → (sorted : List ℕ) (basic : List N) (k : ℕ) → HasValueAt number h.rows duals sorted basic k
      → value_at number basic k ≡ dual (sample_of value h) (at_of h) h.inverse theta (slice_index sorted k)
  dual_by_row number theta duals are sorted basic k here =
      let within : here.position < h.task.problem.columns = omega (arith, here.within, is_place.size) in
      here.same ∙ are.each here.position within
      ∙ sym (dual_at (sample_of value h) (at_of h) h.inverse is_place.is_basis theta here.position within)
      ∙ ap (dual (sample_of value h) (at_of h) h.inverse theta) here.holds

  module _ (coef : List Fraction) (sides : List Side) (coefs : AreCoefficients value h (λ x. x) coef) (are_sides : AreSides value h sides)
      (sorted : List ℕ) (increasing : IsStrictlyIncreasing sorted) (size : length sorted ≡ length h.rows) (same : (i : ℕ) → Contains sorted i ↔ Contains h.rows i) where
    basic_here : (i : ℕ) → slice_get sides i ≡ Some Basic → slice_get sides i ≡ Some (side_at (sample_of value h) (at_of h) h.inverse i) → Contains sorted i
    basic_here i b e = by (is_among (at_of h) h.task.problem.columns i) refl
      where
        by : (t : Bool) → is_among (at_of h) h.task.problem.columns i ≡ t → Contains sorted i
        by true g = (same i).1 (among_in h.rows h.task.problem.columns i is_place.size g)
        by false g =
            let same_side : side_at (sample_of value h) (at_of h) h.inverse i ≡ Basic = cc (sym e ∙ b) in
            absurd (outside_side (sign (sample_of value h) (at_of h) h.inverse i) (sym (side_outside (sample_of value h) (at_of h) h.inverse i g) ∙ same_side))

    basic_there : (i : ℕ) → Contains sorted i → slice_get sides i ≡ Some (side_at (sample_of value h) (at_of h) h.inverse i) → slice_get sides i ≡ Some Basic
    basic_there i b e =
        e ∙ ap (λ (s : Side). Some s) (side_basic (sample_of value h) (at_of h) h.inverse i (among_from h.rows h.task.problem.columns i is_place.size ((same i).0 b)))

    -- the vertex needs no dual values
    pub vertex_by : IsVertexAt value h.task.problem h.rows h.inverse (record { basis = record { rows = sorted }; sides = sides; coef = coef })
    vertex_by =
        record {
          shape = record {
            ascending = increasing;
            size = size ∙ is_place.size;
            coef = coefs.size;
            sides = are_sides.size;
            basic = λ i li. (λ b. basic_here i b (are_sides.each i li), λ b. basic_there i b (are_sides.each i li));
          };
          rows = same;
          sides = are_sides.each;
          coef = coefs.each;
        }

module _ {F : Type 0} (value : F → Fraction) (h : Place F) where
  pub coefficients_wide : (coef : List F) → AreCoefficients value h value coef → AreCoefficients value h (λ x. x) (map value coef)
  coefficients_wide coef are = record { size = length-map coef value ∙ are.size; each = λ k lk. same_numbers value coef k ∙ are.each k lk }

  -- values by row, of any size, are the dual values of the rows
  pub duals_by_row : (is_place : IsPlace value h) (theta : ℚ) (duals : List F) → AreDuals value h value theta duals → (sorted : List ℕ) (basic : List F) (made : List Fraction)
      → made ≡ map value basic → length basic ≡ length sorted → ((k : ℕ) → k < length sorted → HasValueAt value h.rows duals sorted basic k)
      → (length made ≡ length sorted) × ((k : ℕ) → k < length sorted → number_at made k ≡ dual (sample_of value h) (at_of h) h.inverse theta (slice_index sorted k))
  duals_by_row is_place theta duals are sorted basic made is size each = (
    ap length is ∙ length-map basic value ∙ size,
    λ k lk. ap (λ l. number_at l k) is ∙ same_numbers value basic k ∙ dual_by_row value h is_place value theta duals are sorted basic k (each k lk),
  )

  module _ (sorted : List ℕ) (is_place : IsPlace value h) (size : length sorted ≡ length h.rows) where
    -- dual values as sorted are those of the vertex
    pub basic_duals : (theta : ℚ) (v : Vertex) (basic : List Fraction) → v.basis.rows ≡ sorted → length basic ≡ length sorted
        → ((k : ℕ) → k < length sorted → number_at basic k ≡ dual (sample_of value h) (at_of h) h.inverse theta (slice_index sorted k))
        → AreBasicDuals value h.task.problem theta h.rows h.inverse v basic
    basic_duals theta v basic here wide each =
        record {
          size = wide ∙ size ∙ is_place.size;
          each = λ j lj. each j (omega (arith, size, is_place.size, lj)) ∙ ap (λ l. dual (sample_of value h) (at_of h) h.inverse theta (slice_index l j)) (sym here);
        }

-- the rows of a basis differ
pub distinct_rows : {F : Type 0} (value : F → Fraction) (h : Place F) → IsPlace value h → (j k : ℕ) → j < k → k < length h.rows → slice_index h.rows j ≢ slice_index h.rows k
distinct_rows value h is_place j k l lk = is_place.is_basis.distinct.apart j k l (omega (arith, lk, is_place.size))
