-- A sample whose values were all multiplied by one whole number.
use Rattle.std.specs.Prelude.{◌≡◌, ℕ, ◌≤◌, Bool, true, false, [], ◌∷◌, ℤ, pos, ◌+ℤ◌, ◌*ℤ◌}
use Rattle.std.proofs.Common.{refl, sym, ap, subst, ◌∙◌}
use Rattle.rational_laws.specs.IntegerSums.{sum_to, positive_part, negative_part}
use Rattle.rational_laws.specs.Solver.{number, negated, ◌⊞◌, ◌⊟◌, ◌⊠◌, v0, v1, v2, v3, v4, v5, v6}
use Rattle.rational_laws.specs.Rational.{ℚ, ◌+ℚ◌, ◌-ℚ◌, ◌*ℚ◌, whole, ◌≤ℚ◌, le_ℚ}
use Rattle.rational_laws.proofs.RationalLaws.{whole-add, whole-mul, ring_ℚ, ≤ℚ_mul, ≤ℚ_total}
use Rattle.rational_laws.specs.RationalSums.{sum_ℚ, positive_ℚ, negative_ℚ}
use Rattle.rational_laws.proofs.RationalSumLaws.{sum_ℚ-same, sum_ℚ-scale}
use Rattle.rational_laws.proofs.WholeNumbers.{whole-sum, whole-positive, whole-negative}
use Rattle.rational_laws.specs.Fraction.{Fraction, rational}
use Rattle.rational_laws.proofs.Signs.{product_not_negative, whole_not_negative}
use Rattle.loss_model.specs.Sample.{Sample}
use Rattle.loss_model.specs.Sample as exact
use Rattle.whole_model.specs.Scaled.{Scaled, up_cost, down_cost, residual, row_loss, loss}
use Rattle.loss_model.proofs.Quotients.{whole-quotient, whole-sub}
use Rattle.loss_model.proofs.Duality.{positive_when, negative_when, positive_below, negative_below}
use Rattle.whole_model.proofs.CommonDenominators.{IsOver}

-- w has every value of p times q
pub record Scales (q : ℕ) (p : Sample) (w : Scaled) : Type 0 where
  pub rows : w.rows ≡ p.rows
  pub columns : w.columns ≡ p.columns
  pub x : (i k : ℕ) → whole (w.x i k) ≡ whole (pos q) *ℚ p.x i k
  pub y : (i : ℕ) → whole (w.y i) ≡ whole (pos q) *ℚ p.y i
  pub up0 : (i : ℕ) → whole (w.up0 i) ≡ whole (pos q) *ℚ p.up0 i
  pub up1 : (i : ℕ) → whole (w.up1 i) ≡ whole (pos q) *ℚ p.up1 i
  pub down0 : (i : ℕ) → whole (w.down0 i) ≡ whole (pos q) *ℚ p.down0 i
  pub down1 : (i : ℕ) → whole (w.down1 i) ≡ whole (pos q) *ℚ p.down1 i

-- a factor that is not negative goes out of both parts
parts_scaled : (k x : ℚ) → whole (pos 0) ≤ℚ k → (positive_ℚ (k *ℚ x) ≡ k *ℚ positive_ℚ x) × (negative_ℚ (k *ℚ x) ≡ k *ℚ negative_ℚ x)
parts_scaled k x p = by (le_ℚ (whole (pos 0)) x) refl
  where
    nothing : whole (pos 0) ≡ k *ℚ whole (pos 0)
    nothing = ring_ℚ (k ∷ []) (number (pos 0)) (v0 ⊠ number (pos 0)) refl

    by : (t : Bool) → le_ℚ (whole (pos 0)) x ≡ t → (positive_ℚ (k *ℚ x) ≡ k *ℚ positive_ℚ x) × (negative_ℚ (k *ℚ x) ≡ k *ℚ negative_ℚ x)
    by true e =
        let above : whole (pos 0) ≤ℚ x = record { le = e } in
        let product : whole (pos 0) ≤ℚ (k *ℚ x) = product_not_negative k x p above in (
          positive_when (k *ℚ x) product ∙ ap (λ z. k *ℚ z) (sym (positive_when x above)),
          negative_when (k *ℚ x) product ∙ nothing ∙ ap (λ z. k *ℚ z) (sym (negative_when x above)),
        )
    by false e =
        let below : x ≤ℚ whole (pos 0) = ≤ℚ_total (whole (pos 0)) x e in
        let product : (k *ℚ x) ≤ℚ whole (pos 0) = subst (λ z. (k *ℚ x) ≤ℚ z) (sym nothing) (≤ℚ_mul x (whole (pos 0)) k p below) in (
          positive_below (k *ℚ x) product ∙ nothing ∙ ap (λ z. k *ℚ z) (sym (positive_below x below)),
          negative_below (k *ℚ x) product ∙ ring_ℚ (k ∷ x ∷ []) (negated (v0 ⊠ v1)) (v0 ⊠ negated v1) refl ∙ ap (λ z. k *ℚ z) (sym (negative_below x below)),
        )

module _ (q : ℕ) (p : Sample) (w : Scaled) (s : Scales q p w) (theta : Fraction) (tp : 1 ≤ theta.den) where
  abbrev Q : ℚ
  Q = whole (pos q)

  abbrev t : ℚ
  t = whole (pos theta.den)

  cost_scaled : (a b : ℤ) (x y : ℚ) → whole a ≡ Q *ℚ x → whole b ≡ Q *ℚ y → whole ((a *ℤ pos theta.den) +ℤ (b *ℤ theta.num)) ≡ (Q *ℚ t) *ℚ (x +ℚ (y *ℚ rational theta))
  cost_scaled a b x y h k =
      whole-add (a *ℤ pos theta.den) (b *ℤ theta.num) ∙ ap (λ z. z +ℚ whole (b *ℤ theta.num)) (whole-mul a (pos theta.den) ∙ ap (λ z. z *ℚ t) h)
      ∙ ap (λ z. ((Q *ℚ x) *ℚ t) +ℚ z) (whole-mul b theta.num ∙ ap (λ z. z *ℚ whole theta.num) k ∙ ap (λ z. (Q *ℚ y) *ℚ z) (whole-quotient theta.num theta.den tp))
      ∙ ring_ℚ (Q ∷ x ∷ y ∷ t ∷ rational theta ∷ []) ((v0 ⊠ v1) ⊠ v3 ⊞ (v0 ⊠ v2) ⊠ (v3 ⊠ v4)) ((v0 ⊠ v3) ⊠ (v1 ⊞ v2 ⊠ v4)) refl

  pub up_scaled : (i : ℕ) → whole (up_cost w theta i) ≡ (Q *ℚ t) *ℚ exact.up_cost p (rational theta) i
  up_scaled i = cost_scaled (w.up0 i) (w.up1 i) (p.up0 i) (p.up1 i) (s.up0 i) (s.up1 i)

  pub down_scaled : (i : ℕ) → whole (down_cost w theta i) ≡ (Q *ℚ t) *ℚ exact.down_cost p (rational theta) i
  down_scaled i = cost_scaled (w.down0 i) (w.down1 i) (p.down0 i) (p.down1 i) (s.down0 i) (s.down1 i)

  module _ (c : ℕ → ℤ) (d : ℕ) (v : ℕ → ℚ) (vector : IsOver p.columns c d v) where
    abbrev D : ℚ
    D = whole (pos d)

    residual_scaled : (i : ℕ) → whole (residual w c d i) ≡ (Q *ℚ D) *ℚ exact.residual p v i
    residual_scaled i =
        whole-sub (w.y i *ℤ pos d) (sum_to w.columns (λ k. w.x i k *ℤ c k))
        ∙ ap (λ z. z -ℚ whole (sum_to w.columns (λ k. w.x i k *ℤ c k))) (whole-mul (w.y i) (pos d) ∙ ap (λ z. z *ℚ D) (s.y i))
        ∙ ap (λ z. ((Q *ℚ p.y i) *ℚ D) -ℚ z) fit
        ∙ ring_ℚ (Q ∷ D ∷ p.y i ∷ exact.fitted p v i ∷ []) ((v0 ⊠ v2) ⊠ v1 ⊟ (v0 ⊠ v1) ⊠ v3) ((v0 ⊠ v1) ⊠ (v2 ⊟ v3)) refl
      where
        fit : whole (sum_to w.columns (λ k. w.x i k *ℤ c k)) ≡ (Q *ℚ D) *ℚ exact.fitted p v i
        fit =
            whole-sum w.columns (λ k. w.x i k *ℤ c k) ∙ ap (λ n. sum_ℚ n (λ k. whole (w.x i k *ℤ c k))) s.columns
            ∙ sum_ℚ-same p.columns (λ k. whole (w.x i k *ℤ c k)) (λ k. (Q *ℚ D) *ℚ (p.x i k *ℚ v k))
            (λ k l. whole-mul (w.x i k) (c k) ∙ ap (λ z. z *ℚ whole (c k)) (s.x i k) ∙ ap (λ z. (Q *ℚ p.x i k) *ℚ z) (vector.each k l) ∙ ring_ℚ (Q ∷ D ∷ p.x i k ∷ v k ∷ []) ((v0 ⊠ v2) ⊠ (v1 ⊠ v3)) ((v0 ⊠ v1) ⊠ (v2 ⊠ v3)) refl)
            ∙ sum_ℚ-scale p.columns (Q *ℚ D) (λ k. p.x i k *ℚ v k)

    abbrev pub loss_unit : ℚ
    loss_unit = (Q *ℚ t) *ℚ (Q *ℚ D)

    row_scaled : (i : ℕ) → whole (row_loss w theta c d i) ≡ loss_unit *ℚ exact.row_loss p (rational theta) v i
    row_scaled i =
        whole-add (up_cost w theta i *ℤ positive_part r) (down_cost w theta i *ℤ negative_part r)
        ∙ ap (λ z. z +ℚ whole (down_cost w theta i *ℤ negative_part r)) (part (up_cost w theta i) (positive_part r) _ _ (up_scaled i) (whole-positive r ∙ ap positive_ℚ (residual_scaled i) ∙ two.0))
        ∙ ap (λ z. (((Q *ℚ t) *ℚ u) *ℚ ((Q *ℚ D) *ℚ positive_ℚ x)) +ℚ z) (part (down_cost w theta i) (negative_part r) _ _ (down_scaled i) (whole-negative r ∙ ap negative_ℚ (residual_scaled i) ∙ two.1))
        ∙ ring_ℚ (Q ∷ t ∷ D ∷ u ∷ o ∷ positive_ℚ x ∷ negative_ℚ x ∷ [])
        (((v0 ⊠ v1) ⊠ v3) ⊠ ((v0 ⊠ v2) ⊠ v5) ⊞ ((v0 ⊠ v1) ⊠ v4) ⊠ ((v0 ⊠ v2) ⊠ v6)) (((v0 ⊠ v1) ⊠ (v0 ⊠ v2)) ⊠ (v3 ⊠ v5 ⊞ v4 ⊠ v6)) refl
      where
        r : ℤ
        r = residual w c d i

        x : ℚ
        x = exact.residual p v i

        u : ℚ
        u = exact.up_cost p (rational theta) i

        o : ℚ
        o = exact.down_cost p (rational theta) i

        two : (positive_ℚ ((Q *ℚ D) *ℚ x) ≡ (Q *ℚ D) *ℚ positive_ℚ x) × (negative_ℚ ((Q *ℚ D) *ℚ x) ≡ (Q *ℚ D) *ℚ negative_ℚ x)
        two = parts_scaled (Q *ℚ D) x (product_not_negative Q D (whole_not_negative q) (whole_not_negative d))

        part : (a b : ℤ) (y z : ℚ) → whole a ≡ y → whole b ≡ z → whole (a *ℤ b) ≡ y *ℚ z
        part a b y z h k = whole-mul a b ∙ ap (λ l. l *ℚ whole b) h ∙ ap (λ l. y *ℚ l) k

    pub loss_scaled : whole (loss w theta c d) ≡ loss_unit *ℚ exact.loss p (rational theta) v
    loss_scaled =
        whole-sum w.rows (row_loss w theta c d) ∙ ap (λ n. sum_ℚ n (λ i. whole (row_loss w theta c d i))) s.rows
        ∙ sum_ℚ-same p.rows (λ i. whole (row_loss w theta c d i)) (λ i. loss_unit *ℚ exact.row_loss p (rational theta) v i) (λ i l. row_scaled i)
        ∙ sum_ℚ-scale p.rows loss_unit (exact.row_loss p (rational theta) v)
