-- The loss of a row is the cost of its side times the size of its residual.
use Rattle.std.specs.Prelude.{◌≡◌, ℕ, ◌+◌, Bool, true, false, cond, [], ◌∷◌, ℤ, pos, ◌≤ℤ◌}
use Rattle.std.proofs.Common.{refl, sym, ap, subst, ◌∙◌}
use Rattle.rational_laws.specs.Solver.{number, negated, ◌⊞◌, ◌⊠◌, v0, v1, v2}
use Rattle.rational_laws.specs.Rational.{ℚ, ◌+ℚ◌, ◌*ℚ◌, neg_ℚ, whole, le_ℚ, ◌≤ℚ◌}
use Rattle.rational_laws.proofs.RationalLaws.{ring_ℚ, zero-+ℚ}
use Rattle.rational_laws.specs.RationalSums.{sum_ℚ, positive_ℚ, negative_ℚ}
use Rattle.rational_laws.proofs.RationalSumLaws.{sum_ℚ-same}
use Rattle.rational_laws.specs.Order.{sign_ℚ}
use Rattle.rational_laws.proofs.OrderLaws.{sign_ℚ-not_below}
use Rattle.loss_model.specs.Sample.{Sample, up_cost, down_cost, residual, row_loss, loss}
use Rattle.loss_model.specs.Spill.{partial_sum, total, loss_products, side_cost, abs_ℚ}
use Rattle.loss_model.proofs.Products.{partial_sum-zero, partial_sum-next}

-- a sign that is not below 0
pub sign_above : (x : ℚ) (s : ℤ) → s ≡ sign_ℚ x → pos 0 ≤ℤ s → le_ℚ (whole (pos 0)) x ≡ true
sign_above x s e h = ((sign_ℚ-not_below x).0 (subst (λ z. pos 0 ≤ℤ z) e h)).le

-- where it is, the residual r is not below 0, and else it is
pub sign_up : (x r : ℚ) (s : ℤ) → x ≡ r → s ≡ sign_ℚ x → pos 0 ≤ℤ s → whole (pos 0) ≤ℚ r
sign_up x r s e f h = subst (λ z. whole (pos 0) ≤ℚ z) e ((sign_ℚ-not_below x).0 (subst (λ z. pos 0 ≤ℤ z) f h))

pub sign_below : (x r : ℚ) (s : ℤ) → x ≡ r → s ≡ sign_ℚ x → ¬ (pos 0 ≤ℤ s) → ¬ (whole (pos 0) ≤ℚ r)
sign_below x r s e f below h = below (subst (λ z. pos 0 ≤ℤ z) (sym f) ((sign_ℚ-not_below x).1 (subst (λ z. whole (pos 0) ≤ℚ z) (sym e) h)))

-- the cost and the size where the residual r is not below 0
pub cost_up : (x r u o : ℚ) → x ≡ r → le_ℚ (whole (pos 0)) x ≡ true → cond (le_ℚ (whole (pos 0)) r) u o ≡ u
cost_up x r u o e h = ap (λ t. cond t u o) (ap (λ z. le_ℚ (whole (pos 0)) z) (sym e) ∙ h)

pub size_up : (x r : ℚ) → x ≡ r → le_ℚ (whole (pos 0)) x ≡ true → x ≡ abs_ℚ r
size_up x r e h = sym (ap (λ t. cond t x (neg_ℚ x)) h) ∙ ap abs_ℚ e

-- and where it is below 0
pub cost_down : (r u o : ℚ) → ¬ (whole (pos 0) ≤ℚ r) → cond (le_ℚ (whole (pos 0)) r) u o ≡ o
cost_down r u o below = by (le_ℚ (whole (pos 0)) r) (λ e. below (record { le = e }))
  where
    by : (t : Bool) → ¬ (t ≡ true) → cond t u o ≡ o
    by true above = absurd (above refl)
    by false above = refl

priced : (r u o : ℚ) → cond (le_ℚ (whole (pos 0)) r) u o *ℚ abs_ℚ r ≡ (u *ℚ positive_ℚ r) +ℚ (o *ℚ negative_ℚ r)
priced r u o = by (le_ℚ (whole (pos 0)) r)
  where
    by : (t : Bool) → cond t u o *ℚ cond t r (neg_ℚ r) ≡ (u *ℚ cond t r (whole (pos 0))) +ℚ (o *ℚ cond t (whole (pos 0)) (neg_ℚ r))
    by true = ring_ℚ (r ∷ u ∷ o ∷ []) (v1 ⊠ v0) (v1 ⊠ v0 ⊞ v2 ⊠ number (pos 0)) refl
    by false = ring_ℚ (r ∷ u ∷ o ∷ []) (v2 ⊠ negated v0) (v1 ⊠ number (pos 0) ⊞ v2 ⊠ negated v0) refl

-- so the products of the loss sum to it
pub loss-total : (p : Sample) (theta : ℚ) (b : ℕ → ℚ) → total (loss_products p theta b) ≡ loss p theta b
loss-total p theta b =
    zero-+ℚ (sum_ℚ p.rows (λ i. side_cost p theta b i *ℚ abs_ℚ (residual p b i)))
    ∙ sum_ℚ-same p.rows (λ i. side_cost p theta b i *ℚ abs_ℚ (residual p b i)) (row_loss p theta b) (λ i l. priced (residual p b i) (up_cost p theta i) (down_cost p theta i))

-- the products of the loss, row by row
pub first_loss : (p : Sample) (theta : ℚ) (b : ℕ → ℚ) (zero : ℚ) → zero ≡ whole (pos 0) → zero ≡ partial_sum (loss_products p theta b) 0
first_loss p theta b zero e = e ∙ partial_sum-zero (loss_products p theta b)

pub next_loss : (p : Sample) (theta : ℚ) (b : ℕ → ℚ) (i : ℕ) (sum cost size product next : ℚ) → sum ≡ partial_sum (loss_products p theta b) i → cost ≡ side_cost p theta b i → size ≡ abs_ℚ (residual p b i)
    → product ≡ cost *ℚ size → next ≡ sum +ℚ product → next ≡ partial_sum (loss_products p theta b) (i + 1)
next_loss p theta b i sum cost size product next before c s e h =
    partial_sum-next (loss_products p theta b) i sum product next before (e ∙ ap (λ z. z *ℚ size) c ∙ ap (λ z. side_cost p theta b i *ℚ z) s) h

pub whole_loss : (p : Sample) (theta : ℚ) (b : ℕ → ℚ) (i : ℕ) (sum : ℚ) → i ≡ p.rows → sum ≡ partial_sum (loss_products p theta b) i → sum ≡ loss p theta b
whole_loss p theta b i sum e h = h ∙ ap (partial_sum (loss_products p theta b)) e ∙ loss-total p theta b
