-- Weak duality and complementary slackness.
use Rattle.std.specs.Prelude.{◌≡◌, ℕ, ◌<◌, Bool, true, false, cond, [], ◌∷◌, pos}
use Rattle.std.proofs.Common.{refl, sym, ap, subst, ◌∙◌}
use Rattle.rational_laws.specs.Solver.{number, negated, ◌⊞◌, ◌⊟◌, ◌⊠◌, v0, v1, v2, v3, v4}
use Rattle.rational_laws.specs.Rational.{ℚ, ◌+ℚ◌, ◌-ℚ◌, ◌*ℚ◌, neg_ℚ, whole, ◌≤ℚ◌, le_ℚ}
use Rattle.rational_laws.proofs.RationalLaws.{ring_ℚ, ≤ℚ_refl, ≤ℚ_add, ≤ℚ_mul, ≤ℚ_antisym, ≤ℚ_total}
use Rattle.rational_laws.specs.RationalSums.{sum_ℚ, positive_ℚ, negative_ℚ}
use Rattle.rational_laws.proofs.RationalSumLaws.{parts_ℚ, ≤ℚ_add2, sum_ℚ-same, sum_ℚ-le, sum_ℚ-zero, sum_ℚ-mix, sum_ℚ-scale, sum_ℚ-swap}
use Rattle.rational_laws.proofs.OrderLaws.{not_le}
use Rattle.loss_model.specs.declared.vertex.Side.{Side}
use Rattle.loss_model.specs.declared.vertex.Side.TheVariants.{Up, Down, Basic}
use Rattle.loss_model.specs.Sample.{Sample, up_cost, down_cost, fitted, residual, row_loss, loss}
use Rattle.loss_model.specs.Dual.{IsFeasible, dual_objective, IsDual}
use Rattle.loss_model.specs.Vertex.{value_of_side, IsOn}
use Rattle.loss_model.specs.Laws.{WeakDuality, DualsShowMinimum, DualsAreGreatest, ComplementsShowDuals, ResidualsMove, SidesShowDuals}

abbrev IsBalanced : Sample → (ℕ → ℚ) → Type 0
IsBalanced p e = (k : ℕ) → k < p.columns → sum_ℚ p.rows (λ i. e i *ℚ p.x i k) ≡ whole (pos 0)

-- a value within its bounds times a difference of parts is at most the cost of the parts
pub bounded : (u v e a b : ℚ) → neg_ℚ v ≤ℚ e → e ≤ℚ u → whole (pos 0) ≤ℚ a → whole (pos 0) ≤ℚ b → (e *ℚ (a -ℚ b)) ≤ℚ ((u *ℚ a) +ℚ (v *ℚ b))
bounded u v e a b lower upper p q =
    let above = ≤ℚ_mul e u a p upper in
    let below = ≤ℚ_mul (neg_ℚ v) e b q lower in
    let both = ≤ℚ_add2 (a *ℚ e) (a *ℚ u) (b *ℚ neg_ℚ v) (b *ℚ e) above below in
    let moved = ≤ℚ_add ((a *ℚ e) +ℚ (b *ℚ neg_ℚ v)) ((a *ℚ u) +ℚ (b *ℚ e)) ((v *ℚ b) -ℚ (b *ℚ e)) both in
    let vs = u ∷ v ∷ e ∷ a ∷ b ∷ [] in
    subst (λ z. z ≤ℚ ((u *ℚ a) +ℚ (v *ℚ b))) (ring_ℚ vs ((v1 ⊠ v4 ⊟ v4 ⊠ v2) ⊞ (v3 ⊠ v2 ⊞ v4 ⊠ negated v1)) (v2 ⊠ (v3 ⊟ v4)) refl)
    (subst (λ z. (((v *ℚ b) -ℚ (b *ℚ e)) +ℚ ((a *ℚ e) +ℚ (b *ℚ neg_ℚ v))) ≤ℚ z) (ring_ℚ vs ((v1 ⊠ v4 ⊟ v4 ⊠ v2) ⊞ (v3 ⊠ v0 ⊞ v4 ⊠ v2)) (v0 ⊠ v3 ⊞ v1 ⊠ v4) refl) moved)

-- a dual value within its bounds, times the residual, is at most the loss of the row
pub row_bounded : (p : Sample) (theta : ℚ) (b e : ℕ → ℚ) → IsFeasible p theta e → (i : ℕ) → i < p.rows → (e i *ℚ residual p b i) ≤ℚ row_loss p theta b i
row_bounded p theta b e f i l =
    let r = residual p b i in
    let two = parts_ℚ r in
    subst (λ z. (e i *ℚ z) ≤ℚ row_loss p theta b i) (sym two.0)
    (bounded (up_cost p theta i) (down_cost p theta i) (e i) (positive_ℚ r) (negative_ℚ r) (f.lower i l) (f.upper i l) two.1 two.2)

-- balanced values send every fit to 0
pub orthogonal : (p : Sample) (b e : ℕ → ℚ) → IsBalanced p e → sum_ℚ p.rows (λ i. e i *ℚ fitted p b i) ≡ whole (pos 0)
orthogonal p b e balanced =
    sum_ℚ-same p.rows (λ i. e i *ℚ fitted p b i) (λ i. sum_ℚ p.columns (λ k. b k *ℚ (e i *ℚ p.x i k)))
    (λ i l. sym (sum_ℚ-scale p.columns (e i) (λ k. p.x i k *ℚ b k)) ∙ sum_ℚ-same p.columns (λ k. e i *ℚ (p.x i k *ℚ b k)) (λ k. b k *ℚ (e i *ℚ p.x i k)) (λ k m. ring_ℚ (e i ∷ p.x i k ∷ b k ∷ []) (v0 ⊠ (v1 ⊠ v2)) (v2 ⊠ (v0 ⊠ v1)) refl))
    ∙ sum_ℚ-swap p.rows p.columns (λ i k. b k *ℚ (e i *ℚ p.x i k))
    ∙ sum_ℚ-same p.columns (λ k. sum_ℚ p.rows (λ i. b k *ℚ (e i *ℚ p.x i k))) (λ k. whole (pos 0))
    (λ k m. sum_ℚ-scale p.rows (b k) (λ i. e i *ℚ p.x i k) ∙ ap (λ z. b k *ℚ z) (balanced k m) ∙ ring_ℚ (b k ∷ []) (v0 ⊠ number (pos 0)) (number (pos 0)) refl)
    ∙ sum_ℚ-zero p.columns

-- so their sum over the residuals is that over the responses, whatever the coefficients
pub sum_of_residuals : (p : Sample) (b e : ℕ → ℚ) → IsBalanced p e → sum_ℚ p.rows (λ i. e i *ℚ residual p b i) ≡ dual_objective p e
sum_of_residuals p b e balanced =
    sum_ℚ-same p.rows (λ i. e i *ℚ residual p b i) (λ i. (whole (pos 1) *ℚ (p.y i *ℚ e i)) +ℚ (neg_ℚ (whole (pos 1)) *ℚ (e i *ℚ fitted p b i)))
    (λ i l. ring_ℚ (e i ∷ p.y i ∷ fitted p b i ∷ []) (v0 ⊠ (v1 ⊟ v2)) (number (pos 1) ⊠ (v1 ⊠ v0) ⊞ negated (number (pos 1)) ⊠ (v0 ⊠ v2)) refl)
    ∙ sum_ℚ-mix p.rows (whole (pos 1)) (neg_ℚ (whole (pos 1))) (λ i. p.y i *ℚ e i) (λ i. e i *ℚ fitted p b i)
    ∙ ap (λ z. (whole (pos 1) *ℚ dual_objective p e) +ℚ (neg_ℚ (whole (pos 1)) *ℚ z)) (orthogonal p b e balanced)
    ∙ ring_ℚ (dual_objective p e ∷ []) (number (pos 1) ⊠ v0 ⊞ negated (number (pos 1)) ⊠ number (pos 0)) v0 refl

pub weak : WeakDuality
weak p theta b e f =
    subst (λ z. z ≤ℚ loss p theta b) (sum_of_residuals p b e f.balanced)
    (sum_ℚ-le p.rows (λ i. e i *ℚ residual p b i) (row_loss p theta b) (row_bounded p theta b e f))

pub minimum : DualsShowMinimum
minimum p theta b e d other = subst (λ z. z ≤ℚ loss p theta other) (sym d.equal) (weak p theta other e d.feasible)

pub greatest : DualsAreGreatest
greatest p theta b e other d f = subst (λ z. dual_objective p other ≤ℚ z) d.equal (weak p theta b other f)

-- feasible dual values are of equal cost where the value of each row times its residual is its loss
pub slack : (p : Sample) (theta : ℚ) (b e : ℕ → ℚ) → IsFeasible p theta e → ((i : ℕ) → i < p.rows → e i *ℚ residual p b i ≡ row_loss p theta b i) → IsDual p theta b e
slack p theta b e f each =
    record {
      feasible = f;
      equal = sym (sum_ℚ-same p.rows (λ i. e i *ℚ residual p b i) (row_loss p theta b) each) ∙ sum_of_residuals p b e f.balanced;
    }

-- ---- the parts of a residual by its sign

pub positive_when : (r : ℚ) → whole (pos 0) ≤ℚ r → positive_ℚ r ≡ r
positive_when r h = ap (λ t. cond t r (whole (pos 0))) h.le

pub negative_when : (r : ℚ) → whole (pos 0) ≤ℚ r → negative_ℚ r ≡ whole (pos 0)
negative_when r h = ap (λ t. cond t (whole (pos 0)) (neg_ℚ r)) h.le

pub positive_below : (r : ℚ) → r ≤ℚ whole (pos 0) → positive_ℚ r ≡ whole (pos 0)
positive_below r h = by (le_ℚ (whole (pos 0)) r) refl
  where
    by : (t : Bool) → le_ℚ (whole (pos 0)) r ≡ t → cond t r (whole (pos 0)) ≡ whole (pos 0)
    by true e = ≤ℚ_antisym r (whole (pos 0)) h (record { le = e })
    by false e = refl

pub negative_below : (r : ℚ) → r ≤ℚ whole (pos 0) → negative_ℚ r ≡ neg_ℚ r
negative_below r h = by (le_ℚ (whole (pos 0)) r) refl
  where
    by : (t : Bool) → le_ℚ (whole (pos 0)) r ≡ t → cond t (whole (pos 0)) (neg_ℚ r) ≡ neg_ℚ r
    by true e = ring_ℚ [] (number (pos 0)) (negated (number (pos 0))) refl ∙ ap neg_ℚ (sym (≤ℚ_antisym r (whole (pos 0)) h (record { le = e })))
    by false e = refl

-- the cost of a residual that is not negative, and of one that is not positive
pub cost_above : (u v r : ℚ) → whole (pos 0) ≤ℚ r → (u *ℚ positive_ℚ r) +ℚ (v *ℚ negative_ℚ r) ≡ u *ℚ r
cost_above u v r h =
    ap (λ z. (u *ℚ z) +ℚ (v *ℚ negative_ℚ r)) (positive_when r h) ∙ ap (λ z. (u *ℚ r) +ℚ (v *ℚ z)) (negative_when r h)
    ∙ ring_ℚ (u ∷ v ∷ r ∷ []) (v0 ⊠ v2 ⊞ v1 ⊠ number (pos 0)) (v0 ⊠ v2) refl

pub cost_below : (u v r : ℚ) → r ≤ℚ whole (pos 0) → (u *ℚ positive_ℚ r) +ℚ (v *ℚ negative_ℚ r) ≡ v *ℚ neg_ℚ r
cost_below u v r h =
    ap (λ z. (u *ℚ z) +ℚ (v *ℚ negative_ℚ r)) (positive_below r h) ∙ ap (λ z. (u *ℚ whole (pos 0)) +ℚ (v *ℚ z)) (negative_below r h)
    ∙ ring_ℚ (u ∷ v ∷ r ∷ []) (v0 ⊠ number (pos 0) ⊞ v1 ⊠ negated v2) (v1 ⊠ negated v2) refl

on_side : (p : Sample) (theta : ℚ) (b e : ℕ → ℚ) (i : ℕ) (s : Side) → IsOn s (residual p b i) → e i ≡ value_of_side p theta e i s → e i *ℚ residual p b i ≡ row_loss p theta b i
on_side p theta b e i Up h k =
    ap (λ z. z *ℚ residual p b i) k ∙ sym (cost_above (up_cost p theta i) (down_cost p theta i) (residual p b i) h)
on_side p theta b e i Down h k =
    ap (λ z. z *ℚ residual p b i) k ∙ ring_ℚ (down_cost p theta i ∷ residual p b i ∷ []) (negated v0 ⊠ v1) (v0 ⊠ negated v1) refl
    ∙ sym (cost_below (up_cost p theta i) (down_cost p theta i) (residual p b i) h)
on_side p theta b e i Basic h k =
    ap (λ z. e i *ℚ z) h ∙ ring_ℚ (e i ∷ up_cost p theta i ∷ []) (v0 ⊠ number (pos 0)) (v1 ⊠ number (pos 0)) refl
    ∙ ap (λ z. up_cost p theta i *ℚ z) (sym h)
    ∙ sym (cost_above (up_cost p theta i) (down_cost p theta i) (residual p b i) (subst (λ z. whole (pos 0) ≤ℚ z) (sym h) (≤ℚ_refl (whole (pos 0)))))

pub sides : SidesShowDuals
sides p theta b e side f each = slack p theta b e f (λ i l. on_side p theta b e i (side i) (each i l).0 (each i l).1)

pub complements : ComplementsShowDuals
complements p theta b e f c = slack p theta b e f (λ i l. above i l (le_ℚ (residual p b i) (whole (pos 0))) refl)
  where
    on : (i : ℕ) (s : Side) → IsOn s (residual p b i) → e i ≡ value_of_side p theta e i s → e i *ℚ residual p b i ≡ row_loss p theta b i
    on = on_side p theta b e

    below : (i : ℕ) → i < p.rows → residual p b i ≤ℚ whole (pos 0) → (t : Bool) → le_ℚ (whole (pos 0)) (residual p b i) ≡ t → e i *ℚ residual p b i ≡ row_loss p theta b i
    below i l h true at = on i Basic (≤ℚ_antisym (residual p b i) (whole (pos 0)) h (record { le = at })) refl
    below i l h false at = on i Down h (c.below i l (not_le (whole (pos 0)) (residual p b i) at))

    above : (i : ℕ) → i < p.rows → (t : Bool) → le_ℚ (residual p b i) (whole (pos 0)) ≡ t → e i *ℚ residual p b i ≡ row_loss p theta b i
    above i l true at = below i l (record { le = at }) (le_ℚ (whole (pos 0)) (residual p b i)) refl
    above i l false at = on i Up (≤ℚ_total (residual p b i) (whole (pos 0)) at) (c.above i l (not_le (residual p b i) (whole (pos 0)) at))

pub moved : ResidualsMove
moved p b d t i =
    ap (λ z. p.y i -ℚ z)
    (sum_ℚ-same p.columns (λ k. p.x i k *ℚ (b k +ℚ (t *ℚ d k))) (λ k. (whole (pos 1) *ℚ (p.x i k *ℚ b k)) +ℚ (t *ℚ (p.x i k *ℚ d k)))
    (λ k m. ring_ℚ (p.x i k ∷ b k ∷ t ∷ d k ∷ []) (v0 ⊠ (v1 ⊞ v2 ⊠ v3)) (number (pos 1) ⊠ (v0 ⊠ v1) ⊞ v2 ⊠ (v0 ⊠ v3)) refl)
    ∙ sum_ℚ-mix p.columns (whole (pos 1)) t (λ k. p.x i k *ℚ b k) (λ k. p.x i k *ℚ d k))
    ∙ ring_ℚ (p.y i ∷ fitted p b i ∷ t ∷ fitted p d i ∷ []) (v0 ⊟ (number (pos 1) ⊠ v1 ⊞ v2 ⊠ v3)) ((v0 ⊟ v1) ⊞ v2 ⊠ negated v3) refl
