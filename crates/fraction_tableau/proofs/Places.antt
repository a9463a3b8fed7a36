-- What fractions keep is a place.
use Rattle.rational_laws.specs.Fraction.{Fraction}
use Rattle.tableau_model.specs.Places.{IsPlace}
use Rattle.fraction_tableau.specs.Kept.{Kept, IsKept, place}
use Rattle.fraction_tableau.proofs.Inverses.{basis_of, ends_of}

pub kept_is_place : {F : Type 0} (value : F → Fraction) (k : Kept F) → IsKept value k → IsPlace value (place value k)
kept_is_place value k h =
    record {
      shaped = h.shaped;
      size = h.inverse.size;
      is_basis = basis_of value k.problem k.rows k.square h.inverse;
      ends = ends_of value k.problem k.rows k.square h.inverse;
    }
