-- Facts of the order of ℚ, on plain numbers: an objective at xi is `a - xi * s`, where s is the statistic.
use Rattle.std.specs.Prelude.{◌≡◌, ◌⊎◌, Bool, true, false, [], ◌∷◌, pos}
use Rattle.std.proofs.Common.{refl, subst, inl, inr}
use Rattle.rational_laws.specs.Solver.{number, ◌⊞◌, ◌⊟◌, ◌⊠◌, v0, v1, v2, v3, v4, v5, v6}
use Rattle.rational_laws.specs.Rational.{ℚ, ◌+ℚ◌, ◌-ℚ◌, ◌*ℚ◌, whole, ◌≤ℚ◌, le_ℚ}
use Rattle.rational_laws.proofs.RationalLaws.{ring_ℚ, ≤ℚ_refl, ≤ℚ_trans, ≤ℚ_antisym, ≤ℚ_total}
use Rattle.rational_laws.proofs.RationalSumLaws.{≤ℚ_from}
use Rattle.rational_laws.proofs.OrderLaws.{≤ℚ-minus, ≤ℚ-from_mul, not_le}
use Rattle.rational_laws.proofs.Signs.{sum_not_negative, product_not_negative}
use Rattle.loss_model.specs.Strict.{◌<ℚ◌}
use Rattle.loss_model.proofs.Quotients.{positive_gap}

-- z is at least 0 where it equals something that is
pub not_negative_is : (x y : ℚ) → x ≡ y → whole (pos 0) ≤ℚ x → whole (pos 0) ≤ℚ y
not_negative_is x y e h = subst (λ z. whole (pos 0) ≤ℚ z) e h

gap : (x y : ℚ) → x ≤ℚ y → whole (pos 0) ≤ℚ (y -ℚ x)
gap x y h = (≤ℚ-minus x y).0 h

-- one order or the other
pub either : (x y : ℚ) → (x ≤ℚ y) ⊎ (y ≤ℚ x)
either x y = by (le_ℚ x y) refl
  where
    by : (t : Bool) → le_ℚ x y ≡ t → (x ≤ℚ y) ⊎ (y ≤ℚ x)
    by true e = inl (record { le = e })
    by false e = inr (≤ℚ_total x y e)

pub le_or_less : (x y : ℚ) → (x ≤ℚ y) ⊎ (y <ℚ x)
le_or_less x y = by (le_ℚ x y) refl
  where
    by : (t : Bool) → le_ℚ x y ≡ t → (x ≤ℚ y) ⊎ (y <ℚ x)
    by true e = inl (record { le = e })
    by false e = inr (not_le x y e)

-- below another where it is not at least it
pub not_less : (x y : ℚ) → ¬ (x <ℚ y) → y ≤ℚ x
not_less x y h = by (le_or_less y x)
  where
    by : (y ≤ℚ x) ⊎ (x <ℚ y) → y ≤ℚ x
    by (inl k) = k
    by (inr k) = absurd (h k)

module _ (a s b t : ℚ) where
  -- one difference of objectives
  lead : (xi : ℚ) → (b -ℚ (xi *ℚ t)) ≤ℚ (a -ℚ (xi *ℚ s)) → whole (pos 0) ≤ℚ ((a -ℚ (xi *ℚ s)) -ℚ (b -ℚ (xi *ℚ t)))
  lead xi h = gap (b -ℚ (xi *ℚ t)) (a -ℚ (xi *ℚ s)) h

  -- it is affine, so what is not negative at two values is so between
  pub lead_between : (lo hi xi : ℚ) → (b -ℚ (lo *ℚ t)) ≤ℚ (a -ℚ (lo *ℚ s)) → (b -ℚ (hi *ℚ t)) ≤ℚ (a -ℚ (hi *ℚ s)) → lo ≤ℚ xi → xi ≤ℚ hi → (b -ℚ (xi *ℚ t)) ≤ℚ (a -ℚ (xi *ℚ s))
  lead_between lo hi xi h k l u = by (le_or_less hi lo)
    where
      by : (hi ≤ℚ lo) ⊎ (lo <ℚ hi) → (b -ℚ (xi *ℚ t)) ≤ℚ (a -ℚ (xi *ℚ s))
      by (inl turned) = subst (λ z. (b -ℚ (z *ℚ t)) ≤ℚ (a -ℚ (z *ℚ s))) (≤ℚ_antisym lo xi l (≤ℚ_trans xi hi lo u turned)) h
      by (inr apart) =
          ≤ℚ-from_mul (b -ℚ (xi *ℚ t)) (a -ℚ (xi *ℚ s)) (hi -ℚ lo) (positive_gap lo hi apart)
          (≤ℚ_from ((hi -ℚ lo) *ℚ (b -ℚ (xi *ℚ t))) ((hi -ℚ lo) *ℚ (a -ℚ (xi *ℚ s)))
          (not_negative_is (((hi -ℚ xi) *ℚ ((a -ℚ (lo *ℚ s)) -ℚ (b -ℚ (lo *ℚ t)))) +ℚ ((xi -ℚ lo) *ℚ ((a -ℚ (hi *ℚ s)) -ℚ (b -ℚ (hi *ℚ t))))) _
          (ring_ℚ (lo ∷ hi ∷ xi ∷ a ∷ s ∷ b ∷ t ∷ [])
          ((v1 ⊟ v2) ⊠ ((v3 ⊟ v0 ⊠ v4) ⊟ (v5 ⊟ v0 ⊠ v6)) ⊞ (v2 ⊟ v0) ⊠ ((v3 ⊟ v1 ⊠ v4) ⊟ (v5 ⊟ v1 ⊠ v6)))
          ((v1 ⊟ v0) ⊠ (v3 ⊟ v2 ⊠ v4) ⊟ (v1 ⊟ v0) ⊠ (v5 ⊟ v2 ⊠ v6)) refl)
          (sum_not_negative _ _
          (product_not_negative (hi -ℚ xi) ((a -ℚ (lo *ℚ s)) -ℚ (b -ℚ (lo *ℚ t))) (gap xi hi u) (lead lo h))
          (product_not_negative (xi -ℚ lo) ((a -ℚ (hi *ℚ s)) -ℚ (b -ℚ (hi *ℚ t))) (gap lo xi l) (lead hi k)))))

  -- a lead at lo stays where the statistic is not greater
  pub lead_above : (lo xi : ℚ) → (b -ℚ (lo *ℚ t)) ≤ℚ (a -ℚ (lo *ℚ s)) → lo ≤ℚ xi → s ≤ℚ t → (b -ℚ (xi *ℚ t)) ≤ℚ (a -ℚ (xi *ℚ s))
  lead_above lo xi h l less =
      ≤ℚ_from (b -ℚ (xi *ℚ t)) (a -ℚ (xi *ℚ s))
      (not_negative_is (((a -ℚ (lo *ℚ s)) -ℚ (b -ℚ (lo *ℚ t))) +ℚ ((xi -ℚ lo) *ℚ (t -ℚ s))) _
      (ring_ℚ (lo ∷ xi ∷ a ∷ s ∷ b ∷ t ∷ []) (((v2 ⊟ v0 ⊠ v3) ⊟ (v4 ⊟ v0 ⊠ v5)) ⊞ (v1 ⊟ v0) ⊠ (v5 ⊟ v3)) ((v2 ⊟ v1 ⊠ v3) ⊟ (v4 ⊟ v1 ⊠ v5)) refl)
      (sum_not_negative _ _ (lead lo h) (product_not_negative (xi -ℚ lo) (t -ℚ s) (gap lo xi l) (gap s t less))))

  pub lead_below : (hi xi : ℚ) → (b -ℚ (hi *ℚ t)) ≤ℚ (a -ℚ (hi *ℚ s)) → xi ≤ℚ hi → t ≤ℚ s → (b -ℚ (xi *ℚ t)) ≤ℚ (a -ℚ (xi *ℚ s))
  lead_below hi xi h l less =
      ≤ℚ_from (b -ℚ (xi *ℚ t)) (a -ℚ (xi *ℚ s))
      (not_negative_is (((a -ℚ (hi *ℚ s)) -ℚ (b -ℚ (hi *ℚ t))) +ℚ ((hi -ℚ xi) *ℚ (s -ℚ t))) _
      (ring_ℚ (hi ∷ xi ∷ a ∷ s ∷ b ∷ t ∷ []) (((v2 ⊟ v0 ⊠ v3) ⊟ (v4 ⊟ v0 ⊠ v5)) ⊞ (v0 ⊟ v1) ⊠ (v3 ⊟ v5)) ((v2 ⊟ v1 ⊠ v3) ⊟ (v4 ⊟ v1 ⊠ v5)) refl)
      (sum_not_negative _ _ (lead hi h) (product_not_negative (hi -ℚ xi) (s -ℚ t) (gap xi hi l) (gap t s less))))

  -- a leads at lo and b at hi: then the statistic falls
  pub statistics_fall : (lo hi : ℚ) → (b -ℚ (lo *ℚ t)) ≤ℚ (a -ℚ (lo *ℚ s)) → (a -ℚ (hi *ℚ s)) ≤ℚ (b -ℚ (hi *ℚ t)) → lo <ℚ hi → t ≤ℚ s
  statistics_fall lo hi h k apart =
      ≤ℚ-from_mul t s (hi -ℚ lo) (positive_gap lo hi apart)
      (≤ℚ_from ((hi -ℚ lo) *ℚ t) ((hi -ℚ lo) *ℚ s)
      (not_negative_is (((a -ℚ (lo *ℚ s)) -ℚ (b -ℚ (lo *ℚ t))) +ℚ ((b -ℚ (hi *ℚ t)) -ℚ (a -ℚ (hi *ℚ s)))) _
      (ring_ℚ (lo ∷ hi ∷ a ∷ s ∷ b ∷ t ∷ []) (((v2 ⊟ v0 ⊠ v3) ⊟ (v4 ⊟ v0 ⊠ v5)) ⊞ ((v4 ⊟ v1 ⊠ v5) ⊟ (v2 ⊟ v1 ⊠ v3))) ((v1 ⊟ v0) ⊠ v3 ⊟ (v1 ⊟ v0) ⊠ v5) refl)
      (sum_not_negative _ _ (lead lo h) (gap (a -ℚ (hi *ℚ s)) (b -ℚ (hi *ℚ t)) k))))

-- ---- squares

-- of two numbers of one sign the one that is further from 0 has the greater square
pub square_grows : (x y : ℚ) → whole (pos 0) ≤ℚ x → x ≤ℚ y → (x *ℚ x) ≤ℚ (y *ℚ y)
square_grows x y h k =
    ≤ℚ_from (x *ℚ x) (y *ℚ y)
    (not_negative_is ((y -ℚ x) *ℚ (y +ℚ x)) _ (ring_ℚ (x ∷ y ∷ []) ((v1 ⊟ v0) ⊠ (v1 ⊞ v0)) (v1 ⊠ v1 ⊟ v0 ⊠ v0) refl)
    (product_not_negative (y -ℚ x) (y +ℚ x) (gap x y k) (sum_not_negative y x (≤ℚ_trans (whole (pos 0)) x y h k) h)))

pub square_falls : (x y : ℚ) → x ≤ℚ whole (pos 0) → y ≤ℚ x → (x *ℚ x) ≤ℚ (y *ℚ y)
square_falls x y h k =
    ≤ℚ_from (x *ℚ x) (y *ℚ y)
    (not_negative_is ((x -ℚ y) *ℚ ((whole (pos 0) -ℚ x) +ℚ (whole (pos 0) -ℚ y))) _ (ring_ℚ (x ∷ y ∷ []) ((v0 ⊟ v1) ⊠ ((number (pos 0) ⊟ v0) ⊞ (number (pos 0) ⊟ v1))) (v1 ⊠ v1 ⊟ v0 ⊠ v0) refl)
    (product_not_negative (x -ℚ y) ((whole (pos 0) -ℚ x) +ℚ (whole (pos 0) -ℚ y)) (gap y x k)
    (sum_not_negative _ _ (gap x (whole (pos 0)) h) (gap y (whole (pos 0)) (≤ℚ_trans y x (whole (pos 0)) k h)))))

-- between two numbers whose squares are within a bound all squares are
pub square_between : (x lo hi bound : ℚ) → lo ≤ℚ x → x ≤ℚ hi → (lo *ℚ lo) ≤ℚ bound → (hi *ℚ hi) ≤ℚ bound → (x *ℚ x) ≤ℚ bound
square_between x lo hi bound l u h k = by (either (whole (pos 0)) x)
  where
    by : (whole (pos 0) ≤ℚ x) ⊎ (x ≤ℚ whole (pos 0)) → (x *ℚ x) ≤ℚ bound
    by (inl s) = ≤ℚ_trans (x *ℚ x) (hi *ℚ hi) bound (square_grows x hi s u) k
    by (inr s) = ≤ℚ_trans (x *ℚ x) (lo *ℚ lo) bound (square_falls x lo s l) h

pub square_not_negative : (x : ℚ) → whole (pos 0) ≤ℚ (x *ℚ x)
square_not_negative x = by (either (whole (pos 0)) x)
  where
    nothing : whole (pos 0) *ℚ whole (pos 0) ≡ whole (pos 0)
    nothing = ring_ℚ [] (number (pos 0) ⊠ number (pos 0)) (number (pos 0)) refl

    by : (whole (pos 0) ≤ℚ x) ⊎ (x ≤ℚ whole (pos 0)) → whole (pos 0) ≤ℚ (x *ℚ x)
    by (inl s) = product_not_negative x x s s
    by (inr s) = subst (λ z. z ≤ℚ (x *ℚ x)) nothing (square_falls (whole (pos 0)) x (≤ℚ_refl (whole (pos 0))) s)
