-- The segments of a walk cover the range.
use Rattle.std.specs.Prelude.{◌≡◌, ◌⊎◌, ℕ, zero, suc, ◌+◌, ◌-◌, ◌<◌, List, [], ◌∷◌, length}
use Rattle.std.specs.declared.cmp.Ordering.TheVariants.{Less}
use Rattle.std.proofs.Common.{arith, refl, sym, ap, ap₂, subst, ◌∙◌, inl, inr}
use Rattle.rational_laws.specs.Fraction.{Fraction, rational}
use Rattle.rational_laws.specs.Rational.{ℚ, ◌≤ℚ◌}
use Rattle.rational_laws.proofs.RationalLaws.{≤ℚ_refl}
use Rattle.rational_laws.specs.Order.{cmp_ℚ}
use Rattle.rational_laws.proofs.OrderLaws.{cmp_ℚ-Less}
use Rattle.loss_model.specs.declared.problem.Problem.{Problem}
use Rattle.loss_model.specs.declared.process.Segment.{Segment}
use Rattle.loss_model.specs.Segment.{Segments, Covers, dual_at, segments_of}
use Rattle.pivot_model.specs.Duals.{◌<ℚ◌}

below : (x y : ℚ) → cmp_ℚ x y ≡ Less → x <ℚ y
below x y e = (cmp_ℚ-Less x y).0 e

module _ {F : Type 0} (value : F → Fraction) (p : Problem F) where
  abbrev rows : ℕ
  rows = length p.rows

  -- one segment
  pub one_covers : (s : Segment) (lo hi : ℚ) → rational s.lo ≡ lo → rational s.hi ≡ hi → (cmp_ℚ lo hi ≡ Less) ⊎ (lo ≡ hi) → Covers rows lo hi (segments_of value p (s ∷ []))
  one_covers s lo hi l h proper =
      record {
        some = omega arith;
        first = l;
        last = h;
        joined = λ j lj. absurd (omega (arith, lj));
        same = λ j i lj li. absurd (omega (arith, lj));
        proper = λ j lj. at j lj proper;
      }
    where
      at : (j : ℕ) → j < 1 → (cmp_ℚ lo hi ≡ Less) ⊎ (lo ≡ hi) → (cmp_ℚ ((segments_of value p (s ∷ [])).lo j) ((segments_of value p (s ∷ [])).hi j) ≡ Less) ⊎ (((segments_of value p (s ∷ [])).count ≡ 1) × (lo ≡ hi))
      at zero lj (inl e) = inl (ap₂ cmp_ℚ l h ∙ e)
      at zero lj (inr e) = inr (refl, e)
      at (suc j) lj o = absurd (omega (arith, lj))

  -- one segment and those that follow
  pub more_covers : (s : Segment) (rest : List Segment) (lo mid hi : ℚ) → rational s.lo ≡ lo → rational s.hi ≡ mid → cmp_ℚ lo mid ≡ Less → mid <ℚ hi
      → Covers rows mid hi (segments_of value p rest)
      → ((i : ℕ) → i < rows → dual_at value p s.vertex s.basic_hi s.hi i ≡ (segments_of value p rest).at_lo 0 i)
      → Covers rows lo hi (segments_of value p (s ∷ rest))
  more_covers s rest lo mid hi l h proper before c meet =
      record {
        some = omega arith;
        first = l;
        last = ap all.hi pred ∙ c.last;
        joined = joined;
        same = same;
        proper = propers;
      }
    where
      all : Segments
      all = segments_of value p (s ∷ rest)

      tail : Segments
      tail = segments_of value p rest

      some : 0 < length rest
      some = c.some

      pred : suc (length rest) - 1 ≡ suc (length rest - 1)
      pred = omega (arith, some)

      joined : (j : ℕ) → j + 1 < suc (length rest) → all.hi j ≡ all.lo (j + 1)
      joined zero lj = h ∙ sym c.first
      joined (suc j) lj =
          let e : suc j + 1 ≡ suc (j + 1) = omega arith in
          c.joined j (omega (arith, lj)) ∙ sym (ap all.lo e)

      same : (j i : ℕ) → j + 1 < suc (length rest) → i < rows → all.at_hi j i ≡ all.at_lo (j + 1) i
      same zero i lj li = meet i li
      same (suc j) i lj li =
          let e : suc j + 1 ≡ suc (j + 1) = omega arith in
          c.same j i (omega (arith, lj)) li ∙ sym (ap (λ k. all.at_lo k i) e)

      propers : (j : ℕ) → j < suc (length rest) → (cmp_ℚ (all.lo j) (all.hi j) ≡ Less) ⊎ (((segments_of value p (s ∷ rest)).count ≡ 1) × (lo ≡ hi))
      propers zero lj = inl (ap₂ cmp_ℚ l h ∙ proper)
      propers (suc j) lj = by (c.proper j (omega (arith, lj)))
        where
          by : (cmp_ℚ (tail.lo j) (tail.hi j) ≡ Less) ⊎ ((tail.count ≡ 1) × (mid ≡ hi)) → (cmp_ℚ (all.lo (suc j)) (all.hi (suc j)) ≡ Less) ⊎ (((segments_of value p (s ∷ rest)).count ≡ 1) × (lo ≡ hi))
          by (inl e) = inl e
          by (inr e) = absurd (before (subst (λ z. z ≤ℚ mid) e.1 (≤ℚ_refl mid)))
