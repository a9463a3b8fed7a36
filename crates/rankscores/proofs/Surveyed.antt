-- The area below the rankscore of a row, by the cross products of its points and its value at 1 (the surveyor's formula).
use Rattle.std.specs.Prelude.{◌≡◌, ℕ, zero, suc, ◌+◌, ◌-◌, ◌<◌, [], ◌∷◌, pos, negsuc}
use Rattle.std.proofs.Common.{add-one, arith, refl, sym, ap, ap₂, ◌∙◌}
use Rattle.rational_laws.specs.Solver.{number, ◌⊞◌, ◌⊟◌, ◌⊠◌, v0, v1, v2, v3, v4, v5}
use Rattle.rational_laws.specs.Rational.{ℚ, ◌+ℚ◌, ◌-ℚ◌, ◌*ℚ◌, inverse, whole}
use Rattle.rational_laws.specs.RationalSums.{sum_ℚ}
use Rattle.rational_laws.proofs.RationalLaws.{ring_ℚ}
use Rattle.loss_model.specs.Dual.{rankscore}
use Rattle.loss_model.specs.Sample.{Sample}
use Rattle.loss_model.specs.Segment.{Covers, Segments}
use Rattle.rankscores.specs.Rows.{cross, score_cross}
use Rattle.rankscores.specs.Trapezoids.{score_area, trapezoid}
use Rattle.rankscores.specs.Wilcoxon.{half}
use Rattle.rankscores.proofs.Integrals.{h}

-- one trapezoid
trapezoid_by_cross : (lo hi a b : ℚ) → trapezoid lo hi a b ≡ (cross lo hi a b +ℚ ((hi *ℚ b) -ℚ (lo *ℚ a))) *ℚ h
trapezoid_by_cross lo hi a b =
    ring_ℚ (lo ∷ hi ∷ a ∷ b ∷ h ∷ []) (((v1 ⊟ v0) ⊠ (v2 ⊞ v3)) ⊠ v4) ((((v1 ⊠ v2) ⊟ (v0 ⊠ v3)) ⊞ ((v1 ⊠ v3) ⊟ (v0 ⊠ v2))) ⊠ v4) refl

module _ (p : Sample) (s : Segments) (i : ℕ) (covers : Covers p.rows (whole (pos 0)) (whole (pos 1)) s) (within : i < p.rows) where
  -- the quantile times the rankscore, where a segment begins and where it ends
  abbrev begins : ℕ → ℚ
  begins j = s.lo j *ℚ rankscore p (s.lo j) (s.at_lo j) i

  abbrev ends : ℕ → ℚ
  ends j = s.hi j *ℚ rankscore p (s.hi j) (s.at_hi j) i

  -- the rankscore has no jump
  met : (j : ℕ) → j + 1 < s.count → ends j ≡ begins (j + 1)
  met j l = ap₂ (λ t e. t *ℚ (((e *ℚ inverse (p.up1 i)) +ℚ whole (pos 1)) -ℚ t)) (covers.joined j l) (covers.same j i l within)

  abbrev areas : ℕ → ℚ
  areas n = sum_ℚ n (score_area p s i)

  abbrev crosses : ℕ → ℚ
  crosses n = sum_ℚ n (score_cross p s i)

  by_cross : (j : ℕ) → score_area p s i j ≡ (score_cross p s i j +ℚ (ends j -ℚ begins j)) *ℚ h
  by_cross j = trapezoid_by_cross (s.lo j) (s.hi j) (rankscore p (s.lo j) (s.at_lo j) i) (rankscore p (s.hi j) (s.at_hi j) i)

  summed : (n : ℕ) → n < s.count → areas (suc n) ≡ (crosses (suc n) +ℚ (ends n -ℚ begins 0)) *ℚ h
  summed zero l =
      ap (λ z. whole (pos 0) +ℚ z) (by_cross 0)
      ∙ ring_ℚ (score_cross p s i 0 ∷ ends 0 ∷ begins 0 ∷ h ∷ []) (number (pos 0) ⊞ ((v0 ⊞ (v1 ⊟ v2)) ⊠ v3)) (((number (pos 0) ⊞ v0) ⊞ (v1 ⊟ v2)) ⊠ v3) refl
  summed (suc n) l =
      ap₂ (λ x y. x +ℚ y) (summed n (omega (arith, l)))
      (by_cross (suc n) ∙ ap (λ z. (score_cross p s i (suc n) +ℚ (ends (suc n) -ℚ z)) *ℚ h) (ap begins (sym (add-one n)) ∙ sym (met n (omega (arith, l)))))
      ∙ ring_ℚ (crosses (suc n) ∷ ends n ∷ begins 0 ∷ score_cross p s i (suc n) ∷ ends (suc n) ∷ h ∷ [])
      (((v0 ⊞ (v1 ⊟ v2)) ⊠ v5) ⊞ ((v3 ⊞ (v4 ⊟ v1)) ⊠ v5)) (((v0 ⊞ v3) ⊞ (v4 ⊟ v2)) ⊠ v5) refl

  -- the rankscore at 1
  abbrev at_one : ℚ
  at_one = rankscore p (s.hi (s.count - 1)) (s.at_hi (s.count - 1)) i

  surveyed : areas s.count ≡ (crosses s.count +ℚ at_one) *ℚ h
  surveyed =
      let all : suc (s.count - 1) ≡ s.count = omega (arith, covers.some) in
      ap areas (sym all) ∙ summed (s.count - 1) (omega (arith, covers.some))
      ∙ ap (λ n. (crosses n +ℚ (ends (s.count - 1) -ℚ begins 0)) *ℚ h) all
      ∙ ap₂ (λ x y. (crosses s.count +ℚ ((x *ℚ at_one) -ℚ (y *ℚ rankscore p (s.lo 0) (s.at_lo 0) i))) *ℚ h) covers.last covers.first
      ∙ ring_ℚ (crosses s.count ∷ at_one ∷ rankscore p (s.lo 0) (s.at_lo 0) i ∷ h ∷ []) ((v0 ⊞ ((number (pos 1) ⊠ v1) ⊟ (number (pos 0) ⊠ v2))) ⊠ v3) ((v0 ⊞ v1) ⊠ v3) refl

  -- so the score is half of what is added up, which has the score at 1 less 1 at its end
  pub score_by_crosses : (x t u : ℚ) → t ≡ crosses s.count → u ≡ (t +ℚ at_one) +ℚ whole (negsuc 0) → x ≡ u *ℚ h → x ≡ areas s.count -ℚ half
  score_by_crosses x t u all ended is =
      is ∙ ap (λ z. z *ℚ h) (ended ∙ ap (λ z. (z +ℚ at_one) +ℚ whole (negsuc 0)) all)
      ∙ ring_ℚ (crosses s.count ∷ at_one ∷ h ∷ []) (((v0 ⊞ v1) ⊞ number (negsuc 0)) ⊠ v2) (((v0 ⊞ v1) ⊠ v2) ⊟ (number (pos 1) ⊠ v2)) refl
      ∙ ap (λ z. z -ℚ half) (sym surveyed)
