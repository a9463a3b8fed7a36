-- Fractions of the program: equal values are one, and their order is total.
use Rattle.std.proofs.Common.{◌≡◌, ◌^◌, ◌-◌, Bool, true, ◌&&◌, is_eq, eqb, int_eq, refl, sym, ap, subst, ◌∙◌}
use Rattle.std.specs.Cmp.{IsTotalOrder, IsEquivalence, both_ways, Equal-is, on_total, tied_itself}
use Rattle.std.specs.Ordering.{eq_by_cmp}
use Rattle.std.proofs.lemmas.Bool.{eqb-true, and_parts, and_from}
use Rattle.std.proofs.lemmas.Bool.Decides.{Decides-eqb, Decides-int_eq}
use Rattle.rational_laws.specs.Order.{cmp_ℚ}
use Rattle.rational_laws.proofs.OrderLaws.{cmp_ℚ-Equal, cmp_ℚ_swap}
use Rattle.rational_laws.proofs.Signs.{below_trans}
use Rattle.frac_core.specs.Lowest.{IsWithin-along}
use Rattle.frac_core.specs.declared.frac128.Frac128.{Frac128}
use Rattle.frac_core.specs.Values.{exact, value}
use Rattle.frac_core.proofs.Values.{same_number}
use Rattle.design_matrix.specs.Levels.{number_order}

pub total_values : IsTotalOrder cmp_ℚ
total_values =
    record {
      antisymm = λ x y. cmp_ℚ_swap y x;
      trans = below_trans;
      congr = λ x y z e. ap (λ v. cmp_ℚ v z) ((cmp_ℚ-Equal x y).0 e);
    }

pub total_numbers : IsTotalOrder number_order
total_numbers = on_total exact total_values

-- the test of equal parts
abbrev pub same_parts : Frac128 → Frac128 → Bool
same_parts x y = int_eq x.num y.num && eqb x.den y.den

pub parts_same : (x y : Frac128) → same_parts x y ≡ true → x ≡ y
parts_same x y h =
    let tests = and_parts (int_eq x.num y.num) (eqb x.den y.den) h in
    let n = (Decides-int_eq x.num y.num).0 tests.0 in
    let d = eqb-true x.den y.den tests.1 in
    let parts : value x ≡ value y = λ i. record { num = n i; den = d i } in
    λ i. record { num = n i; den = d i; within = IsWithin-along (2 ^ 127 - 1) parts x.within y.within i }

same_itself : (x : Frac128) → same_parts x x ≡ true
same_itself x = and_from (int_eq x.num x.num) (eqb x.den x.den) ((Decides-int_eq x.num x.num).1 refl) ((Decides-eqb x.den x.den).1 refl)

-- the test is true just at numbers that compare as equal
pub parts_ties : (x y : Frac128) → same_parts x y ≡ eq_by_cmp number_order x y
parts_ties x y =
    both_ways (same_parts x y) (eq_by_cmp number_order x y)
    (λ h. ap (eq_by_cmp number_order x) (sym (parts_same x y h)) ∙ ap is_eq (tied_itself total_numbers x))
    (λ h. subst (λ z. same_parts x z ≡ true) (same_number x y ((cmp_ℚ-Equal (exact x) (exact y)).0 ((Equal-is (number_order x y)).0 h))) (same_itself x))

pub parts_equivalence : IsEquivalence same_parts
parts_equivalence = record {
  refl = same_itself;
  symm = λ x y. both_ways (same_parts x y) (same_parts y x) (turned x y) (turned y x);
  congr = λ x y z h. ap (λ v. same_parts v z) (parts_same x y h);
}
  where
    turned : (x y : Frac128) → same_parts x y ≡ true → same_parts y x ≡ true
    turned x y h = subst (λ z. same_parts z x ≡ true) (parts_same x y h) (same_itself x)
