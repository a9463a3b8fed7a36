-- A cover has no gap.
use Rattle.std.specs.Prelude.{◌≡◌, ℕ, zero, suc, ◌+◌, ◌-◌, ◌<◌, Bool, true, false}
use Rattle.std.proofs.Common.{arith, refl, sym, ap, subst, ◌∙◌}
use Rattle.rational_laws.specs.Rational.{ℚ, ◌≤ℚ◌, le_ℚ}
use Rattle.rational_laws.proofs.RationalLaws.{≤ℚ_total}
use Rattle.loss_model.specs.Segment.{Segments, Covers}
use Rattle.loss_model.specs.Laws.{CoversEveryValue}

-- a segment with theta stands among the last left + 1, which begin at or below it
found : (rows : ℕ) (lo hi : ℚ) (s : Segments) → Covers rows lo hi s → (theta : ℚ) → theta ≤ℚ hi → (left j : ℕ) → j + suc left ≡ s.count → s.lo j ≤ℚ theta
    → (k : ℕ) × (k < s.count) × (s.lo k ≤ℚ theta) × (theta ≤ℚ s.hi k)
found rows lo hi s c theta below zero j e from =
    let last : s.count - 1 ≡ j = omega arith in
    (j, omega arith, from, subst (λ z. theta ≤ℚ z) (sym c.last ∙ ap s.hi last) below)
found rows lo hi s c theta below (suc left) j e from =
    let next = λ (h : s.hi j ≤ℚ theta). found rows lo hi s c theta below left (j + 1) (omega arith) (subst (λ z. z ≤ℚ theta) (c.joined j (omega arith)) h) in
    chosen (le_ℚ theta (s.hi j)) refl (λ h. (j, omega arith, from, h)) next
  where
    chosen : (t : Bool) → le_ℚ theta (s.hi j) ≡ t → {P : Type 0} → (theta ≤ℚ s.hi j → P) → (s.hi j ≤ℚ theta → P) → P
    chosen true h here next = here (record { le = h })
    chosen false h here next = next (≤ℚ_total theta (s.hi j) h)

pub every : CoversEveryValue
every rows lo hi s c theta from below =
    let e : 0 + suc (s.count - 1) ≡ s.count = omega (arith, c.some) in
    found rows lo hi s c theta below (s.count - 1) 0 e (subst (λ z. z ≤ℚ theta) (sym c.first) from)
