-- The sign of a perturbed residual, and what it depends on.
--
--     the first entry that isn't 0 decides     first_sign; side-residual, where it is the residual
--     rows that agree                          perturbed-same, perturbed_side-same
use Rattle.std.specs.Prelude.{◌≡◌, ◌≢◌, ℕ, zero, suc, ◌<◌, ◌==◌, if◌then◌else◌, pos}
use Rattle.std.specs.Ordering.{ordering_then}
use Rattle.std.proofs.Common.{arith, refl, ap, ap₂}
use Rattle.rational_laws.specs.Rational.{ℚ, neg_ℚ, whole}
use Rattle.rational_laws.specs.Order.{cmp_ℚ}
use Rattle.basis_model.specs.Lexicographic.{lex_cmp}
use Rattle.basis_model.proofs.LexicographicLaws.{lex_cmp-first}
use Rattle.basis_model.specs.Perturbed.{Nonbasic, held_coordinate, perturbed, zeros, side_of, perturbed_side}

module _ (n : ℕ) (at : ℕ → ℕ) (u : Nonbasic) where
  pub first_sign : (rows m : ℕ) → m < suc rows → ((i : ℕ) → i < m → perturbed n at u i ≡ whole (pos 0)) → perturbed n at u m ≢ whole (pos 0) → perturbed_side rows n at u ≡ side_of (cmp_ℚ (perturbed n at u m) (whole (pos 0)))
  first_sign rows m l before some = ap side_of (lex_cmp-first (suc rows) m (perturbed n at u) zeros l before some)

  pub side-residual : u.residual ≢ whole (pos 0) → (rows : ℕ) → perturbed_side rows n at u ≡ side_of (cmp_ℚ u.residual (whole (pos 0)))
  side-residual some rows = first_sign rows 0 (omega arith) (λ i l. absurd (omega arith)) some

-- lists with the same entries compare in the same way
pub lex_cmp-same : (n : ℕ) (u v z : ℕ → ℚ) → ((i : ℕ) → u i ≡ v i) → lex_cmp n u z ≡ lex_cmp n v z
lex_cmp-same zero u v z h = refl
lex_cmp-same (suc n) u v z h = ap₂ ordering_then (lex_cmp-same n u v z h) (ap (λ x. cmp_ℚ x (z n)) (h n))

held_coordinate-same : (n : ℕ) (at : ℕ → ℕ) (c d : ℕ → ℚ) (m : ℕ) → ((j : ℕ) → j < n → c j ≡ d j) → held_coordinate n at c m ≡ held_coordinate n at d m
held_coordinate-same zero at c d m h = refl
held_coordinate-same (suc n) at c d m h =
    ap₂ (λ x y. if m == at n then x else y) (h n (omega arith)) (held_coordinate-same n at c d m (λ j l. h j (omega arith)))

-- rows that agree in their residuals and their coordinates
module _ (n : ℕ) (at : ℕ → ℕ) (u v : Nonbasic) (row : u.row ≡ v.row) (residual : u.residual ≡ v.residual) (coord : (j : ℕ) → j < n → u.coord j ≡ v.coord j) where
  pub perturbed-same : (m : ℕ) → perturbed n at u m ≡ perturbed n at v m
  perturbed-same zero = residual
  perturbed-same (suc m) =
      ap₂ (λ r c. if m == r then whole (pos 1) else neg_ℚ c) row (held_coordinate-same n at u.coord v.coord m coord)

  pub perturbed_side-same : (rows : ℕ) → perturbed_side rows n at u ≡ perturbed_side rows n at v
  perturbed_side-same rows = ap side_of (lex_cmp-same (suc rows) (perturbed n at u) (perturbed n at v) zeros perturbed-same)
