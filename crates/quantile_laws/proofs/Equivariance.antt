-- A change of responses or of columns, and the coefficients that undo it.
use Rattle.std.specs.Prelude.{◌≡◌, ◌≢◌, ℕ, ◌<◌, Bool, true, false, [], ◌∷◌, pos}
use Rattle.std.proofs.Common.{refl, sym, ap, ap₂, subst, ◌∙◌}
use Rattle.rational_laws.specs.Solver.{number, negated as minus, ◌⊞◌, ◌⊟◌, ◌⊠◌, v0, v1, v2, v3, v4}
use Rattle.rational_laws.specs.Rational.{ℚ, ◌+ℚ◌, ◌-ℚ◌, ◌*ℚ◌, neg_ℚ, inverse, whole, ◌≤ℚ◌, le_ℚ}
use Rattle.rational_laws.proofs.RationalLaws.{ring_ℚ, ring_by_ℚ, *ℚ-inverse, ≤ℚ_mul, ≤ℚ_total}
use Rattle.rational_laws.specs.RationalSums.{sum_ℚ, positive_ℚ, negative_ℚ}
use Rattle.rational_laws.proofs.RationalSumLaws.{parts_ℚ, sum_ℚ-same, sum_ℚ-scale, sum_ℚ-add, sum_ℚ-swap, sum_ℚ-zero}
use Rattle.rational_laws.proofs.OrderLaws.{le_from_not, ≤ℚ_neg, same_le}
use Rattle.rational_laws.specs.Terms.{delta}
use Rattle.rational_laws.specs.Matrices.{AreInverse}
use Rattle.rational_laws.proofs.TermLaws.{delta-turned, sum_ℚ-delta}
use Rattle.loss_model.specs.Sample.{Sample, up_cost, down_cost, fitted, residual, row_loss, loss, Minimises}
use Rattle.loss_model.specs.Dual.{IsFeasible, dual_objective}
use Rattle.loss_model.specs.Complements.{IsComplementary}
use Rattle.loss_model.proofs.Duality.{orthogonal, positive_when, negative_when, positive_below, negative_below, sides as by_sides, complements as shown}
use Rattle.quantile_laws.specs.Equivariance.{scaled, negated, shifted, combined, times, ScaleEquivariance, HasMirroredCosts, DataRowsAreMirrored}
use Rattle.quantile_laws.specs.Equivariance.{SignEquivariance, NegativeEquivariance, ShiftEquivariance, DesignEquivariance, DualEquivariance, answered, ResponsesMayMove, ResidualsMayStretch}
use Rattle.quantile_laws.proofs.Slack.{complements}

-- coefficients minimise where all others lose, times a factor that isn't negative, what some coefficients lose elsewhere
carried : (p q : Sample) (theta sigma a : ℚ) (b c : ℕ → ℚ) → whole (pos 0) ≤ℚ a → Minimises p theta b → loss q sigma c ≡ a *ℚ loss p theta b
    → ((other : ℕ → ℚ) → (d : ℕ → ℚ) × (loss q sigma other ≡ a *ℚ loss p theta d)) → Minimises q sigma c
carried p q theta sigma a b c known least here there other =
    let found = there other in
    subst (λ z. z ≤ℚ loss q sigma other) (sym here)
    (subst (λ z. (a *ℚ loss p theta b) ≤ℚ z) (sym found.1) (≤ℚ_mul (loss p theta b) (loss p theta found.0) a known (least found.0)))

-- ---- factors

-- the parts of a multiple
positive_scaled : (a r : ℚ) → whole (pos 0) ≤ℚ a → positive_ℚ (a *ℚ r) ≡ a *ℚ positive_ℚ r
positive_scaled a r h = by (le_ℚ (whole (pos 0)) r) refl
  where
    none : (x : ℚ) → x *ℚ whole (pos 0) ≡ whole (pos 0)
    none x = ring_ℚ (x ∷ []) (v0 ⊠ number (pos 0)) (number (pos 0)) refl

    by : (t : Bool) → le_ℚ (whole (pos 0)) r ≡ t → positive_ℚ (a *ℚ r) ≡ a *ℚ positive_ℚ r
    by true e =
        let up : whole (pos 0) ≤ℚ r = record { le = e } in
        positive_when (a *ℚ r) (subst (λ z. z ≤ℚ (a *ℚ r)) (none a) (≤ℚ_mul (whole (pos 0)) r a h up)) ∙ ap (λ z. a *ℚ z) (sym (positive_when r up))
    by false e =
        let down = ≤ℚ_total (whole (pos 0)) r e in
        positive_below (a *ℚ r) (subst (λ z. (a *ℚ r) ≤ℚ z) (none a) (≤ℚ_mul r (whole (pos 0)) a h down)) ∙ sym (none a) ∙ ap (λ z. a *ℚ z) (sym (positive_below r down))

negative_scaled : (a r : ℚ) → whole (pos 0) ≤ℚ a → negative_ℚ (a *ℚ r) ≡ a *ℚ negative_ℚ r
negative_scaled a r h =
    ring_by_ℚ (positive_ℚ (a *ℚ r) ∷ negative_ℚ (a *ℚ r) ∷ (a *ℚ r) ∷ []) v1 (v0 ⊟ v2) (minus (number (pos 1))) (v0 ⊟ v1) v2 refl (sym (parts_ℚ (a *ℚ r)).0)
    ∙ ap (λ z. z -ℚ (a *ℚ r)) (positive_scaled a r h)
    ∙ ring_by_ℚ (a ∷ r ∷ positive_ℚ r ∷ negative_ℚ r ∷ []) (v0 ⊠ v2 ⊟ v0 ⊠ v1) (v0 ⊠ v3) v0 (v2 ⊟ v3) v1 refl (sym (parts_ℚ r).0)

module _ (p : Sample) (theta a : ℚ) (known : whole (pos 0) ≤ℚ a) where
  residual_scaled : (c d : ℕ → ℚ) → ((k : ℕ) → k < p.columns → d k ≡ a *ℚ c k) → (i : ℕ) → residual (scaled a p) d i ≡ a *ℚ residual p c i
  residual_scaled c d e i =
      ap (λ z. (a *ℚ p.y i) -ℚ z)
      (sum_ℚ-same p.columns (λ k. p.x i k *ℚ d k) (λ k. a *ℚ (p.x i k *ℚ c k)) (λ k l. ap (λ z. p.x i k *ℚ z) (e k l) ∙ ring_ℚ (p.x i k ∷ a ∷ c k ∷ []) (v0 ⊠ (v1 ⊠ v2)) (v1 ⊠ (v0 ⊠ v2)) refl)
      ∙ sum_ℚ-scale p.columns a (λ k. p.x i k *ℚ c k))
      ∙ ring_ℚ (a ∷ p.y i ∷ fitted p c i ∷ []) (v0 ⊠ v1 ⊟ v0 ⊠ v2) (v0 ⊠ (v1 ⊟ v2)) refl

  loss_scaled : (c d : ℕ → ℚ) → ((k : ℕ) → k < p.columns → d k ≡ a *ℚ c k) → loss (scaled a p) theta d ≡ a *ℚ loss p theta c
  loss_scaled c d e =
      sum_ℚ-same p.rows (row_loss (scaled a p) theta d) (λ i. a *ℚ row_loss p theta c i)
      (λ i l. ap (λ r. (up_cost p theta i *ℚ positive_ℚ r) +ℚ (down_cost p theta i *ℚ negative_ℚ r)) (residual_scaled c d e i)
      ∙ ap₂ (λ x y. (up_cost p theta i *ℚ x) +ℚ (down_cost p theta i *ℚ y)) (positive_scaled a (residual p c i) known) (negative_scaled a (residual p c i) known)
      ∙ ring_ℚ (a ∷ up_cost p theta i ∷ down_cost p theta i ∷ positive_ℚ (residual p c i) ∷ negative_ℚ (residual p c i) ∷ []) (v1 ⊠ (v0 ⊠ v3) ⊞ v2 ⊠ (v0 ⊠ v4)) (v0 ⊠ (v1 ⊠ v3 ⊞ v2 ⊠ v4)) refl)
      ∙ sum_ℚ-scale p.rows a (row_loss p theta c)

pub scale : ScaleEquivariance
scale p theta a b h least =
    carried p (scaled a p) theta theta a b (λ k. a *ℚ b k) known least (loss_scaled p theta a known b (λ k. a *ℚ b k) (λ k l. refl))
    (λ other. (λ k. inverse a *ℚ other k, loss_scaled p theta a known (λ k. inverse a *ℚ other k) other (λ k l. back (other k))))
  where
    known : whole (pos 0) ≤ℚ a
    known = le_from_not (whole (pos 0)) a h

    nonzero : a ≢ whole (pos 0)
    nonzero e = h (same_le a (whole (pos 0)) e)

    back : (x : ℚ) → x ≡ a *ℚ (inverse a *ℚ x)
    back x = ring_by_ℚ (a ∷ inverse a ∷ x ∷ []) v2 (v0 ⊠ (v1 ⊠ v2)) (minus v2) (v0 ⊠ v1) (number (pos 1)) refl (*ℚ-inverse a nonzero)

-- ---- the sign

-- what loses the same elsewhere, once for all
kept : (p q : Sample) (theta sigma : ℚ) (b c : ℕ → ℚ) → Minimises p theta b → loss q sigma c ≡ loss p theta b
    → ((other : ℕ → ℚ) → (d : ℕ → ℚ) × (loss q sigma other ≡ loss p theta d)) → Minimises q sigma c
kept p q theta sigma b c least here there other =
    let found = there other in
    subst (λ z. z ≤ℚ loss q sigma other) (sym here) (subst (λ z. loss p theta b ≤ℚ z) (sym found.1) (least found.0))

-- the parts of a negated number
positive_negated : (r : ℚ) → positive_ℚ (neg_ℚ r) ≡ negative_ℚ r
positive_negated r = by (le_ℚ (whole (pos 0)) r) refl
  where
    zero_is : neg_ℚ (whole (pos 0)) ≡ whole (pos 0)
    zero_is = ring_ℚ [] (minus (number (pos 0))) (number (pos 0)) refl

    by : (t : Bool) → le_ℚ (whole (pos 0)) r ≡ t → positive_ℚ (neg_ℚ r) ≡ negative_ℚ r
    by true e =
        let up : whole (pos 0) ≤ℚ r = record { le = e } in
        positive_below (neg_ℚ r) (subst (λ z. neg_ℚ r ≤ℚ z) zero_is (≤ℚ_neg (whole (pos 0)) r up)) ∙ sym (negative_when r up)
    by false e =
        let down = ≤ℚ_total (whole (pos 0)) r e in
        positive_when (neg_ℚ r) (subst (λ z. z ≤ℚ neg_ℚ r) zero_is (≤ℚ_neg r (whole (pos 0)) down)) ∙ sym (negative_below r down)

negative_negated : (r : ℚ) → negative_ℚ (neg_ℚ r) ≡ positive_ℚ r
negative_negated r = sym (positive_negated (neg_ℚ r)) ∙ ap positive_ℚ (ring_ℚ (r ∷ []) (minus (minus v0)) v0 refl)

module _ (p : Sample) (theta : ℚ) (mirrored : HasMirroredCosts p) where
  -- the costs at 1 - theta
  up_mirrored : (i : ℕ) → i < p.rows → up_cost p (whole (pos 1) -ℚ theta) i ≡ down_cost p theta i
  up_mirrored i l = sym (mirrored theta i l)

  down_mirrored : (i : ℕ) → i < p.rows → down_cost p (whole (pos 1) -ℚ theta) i ≡ up_cost p theta i
  down_mirrored i l = mirrored (whole (pos 1) -ℚ theta) i l ∙ ap (λ t. up_cost p t i) (ring_ℚ (theta ∷ []) (number (pos 1) ⊟ (number (pos 1) ⊟ v0)) v0 refl)

  residual_negated : (c d : ℕ → ℚ) → ((k : ℕ) → k < p.columns → d k ≡ neg_ℚ (c k)) → (i : ℕ) → residual (negated p) d i ≡ neg_ℚ (residual p c i)
  residual_negated c d e i =
      ap (λ z. neg_ℚ (p.y i) -ℚ z)
      (sum_ℚ-same p.columns (λ k. p.x i k *ℚ d k) (λ k. neg_ℚ (whole (pos 1)) *ℚ (p.x i k *ℚ c k)) (λ k l. ap (λ z. p.x i k *ℚ z) (e k l) ∙ ring_ℚ (p.x i k ∷ c k ∷ []) (v0 ⊠ minus v1) (minus (number (pos 1)) ⊠ (v0 ⊠ v1)) refl)
      ∙ sum_ℚ-scale p.columns (neg_ℚ (whole (pos 1))) (λ k. p.x i k *ℚ c k))
      ∙ ring_ℚ (p.y i ∷ fitted p c i ∷ []) (minus v0 ⊟ minus (number (pos 1)) ⊠ v1) (minus (v0 ⊟ v1)) refl

  loss_negated : (c d : ℕ → ℚ) → ((k : ℕ) → k < p.columns → d k ≡ neg_ℚ (c k)) → loss (negated p) (whole (pos 1) -ℚ theta) d ≡ loss p theta c
  loss_negated c d e =
      sum_ℚ-same p.rows (row_loss (negated p) (whole (pos 1) -ℚ theta) d) (row_loss p theta c)
      (λ i l. ap (λ r. (up_cost p (whole (pos 1) -ℚ theta) i *ℚ positive_ℚ r) +ℚ (down_cost p (whole (pos 1) -ℚ theta) i *ℚ negative_ℚ r)) (residual_negated c d e i)
      ∙ ap₂ (λ u v. (u *ℚ positive_ℚ (neg_ℚ (residual p c i))) +ℚ (v *ℚ negative_ℚ (neg_ℚ (residual p c i)))) (up_mirrored i l) (down_mirrored i l)
      ∙ ap₂ (λ x y. (down_cost p theta i *ℚ x) +ℚ (up_cost p theta i *ℚ y)) (positive_negated (residual p c i)) (negative_negated (residual p c i))
      ∙ ring_ℚ (up_cost p theta i ∷ down_cost p theta i ∷ positive_ℚ (residual p c i) ∷ negative_ℚ (residual p c i) ∷ []) (v1 ⊠ v3 ⊞ v0 ⊠ v2) (v0 ⊠ v2 ⊞ v1 ⊠ v3) refl)

pub sign : SignEquivariance
sign p theta b mirrored least =
    kept p (negated p) theta (whole (pos 1) -ℚ theta) b (λ k. neg_ℚ (b k)) least (loss_negated p theta mirrored b (λ k. neg_ℚ (b k)) (λ k l. refl))
    (λ other. (λ k. neg_ℚ (other k), loss_negated p theta mirrored (λ k. neg_ℚ (other k)) other (λ k l. ring_ℚ (other k ∷ []) v0 (minus (minus v0)) refl)))

pub negative : NegativeEquivariance
negative p theta a b h mirrored least = sign (scaled a p) theta (λ k. a *ℚ b k) mirrored (scale p theta a b h least)

pub mirrored : DataRowsAreMirrored
mirrored p rows theta i l =
    ap₂ (λ x y. x +ℚ (y *ℚ theta)) (rows i l).down0 (rows i l).down1
    ∙ ring_ℚ (p.up1 i ∷ theta ∷ []) (v0 ⊞ minus v0 ⊠ v1) (number (pos 0) ⊞ v0 ⊠ (number (pos 1) ⊟ v1)) refl
    ∙ ap (λ z. z +ℚ (p.up1 i *ℚ (whole (pos 1) -ℚ theta))) (sym (rows i l).up0)

-- ---- shifts and columns

-- equal residuals lose the same
loss_by : (p q : Sample) (theta : ℚ) (b c : ℕ → ℚ) → q.rows ≡ p.rows → ((i : ℕ) → i < p.rows → row_loss q theta c i ≡ row_loss p theta b i) → loss q theta c ≡ loss p theta b
loss_by p q theta b c rows same = ap (λ n. sum_ℚ n (row_loss q theta c)) rows ∙ sum_ℚ-same p.rows (row_loss q theta c) (row_loss p theta b) same

module _ (p : Sample) (theta : ℚ) (g : ℕ → ℚ) where
  loss_shifted : (c d : ℕ → ℚ) → ((k : ℕ) → k < p.columns → d k ≡ c k +ℚ g k) → loss (shifted g p) theta d ≡ loss p theta c
  loss_shifted c d e =
      loss_by p (shifted g p) theta c d refl
      (λ i l. ap (λ r. (up_cost p theta i *ℚ positive_ℚ r) +ℚ (down_cost p theta i *ℚ negative_ℚ r))
      (ap (λ z. (p.y i +ℚ fitted p g i) -ℚ z)
      (sum_ℚ-same p.columns (λ k. p.x i k *ℚ d k) (λ k. (p.x i k *ℚ c k) +ℚ (p.x i k *ℚ g k)) (λ k m. ap (λ z. p.x i k *ℚ z) (e k m) ∙ ring_ℚ (p.x i k ∷ c k ∷ g k ∷ []) (v0 ⊠ (v1 ⊞ v2)) (v0 ⊠ v1 ⊞ v0 ⊠ v2) refl)
      ∙ sum_ℚ-add p.columns (λ k. p.x i k *ℚ c k) (λ k. p.x i k *ℚ g k))
      ∙ ring_ℚ (p.y i ∷ fitted p g i ∷ fitted p c i ∷ []) ((v0 ⊞ v1) ⊟ (v2 ⊞ v1)) (v0 ⊟ v2) refl))

pub shift : ShiftEquivariance
shift p theta b g least =
    kept p (shifted g p) theta theta b (λ k. b k +ℚ g k) least (loss_shifted p theta g b (λ k. b k +ℚ g k) (λ k l. refl))
    (λ other. (λ k. other k -ℚ g k, loss_shifted p theta g (λ k. other k -ℚ g k) other (λ k l. ring_ℚ (other k ∷ g k ∷ []) v0 ((v0 ⊟ v1) ⊞ v1) refl)))

module _ (p : Sample) (theta : ℚ) (m : ℕ → ℕ → ℚ) where
  -- the fit of combined columns is that of combined coefficients
  fitted_combined : (c : ℕ → ℚ) (i : ℕ) → fitted (combined m p) c i ≡ fitted p (times p.columns m c) i
  fitted_combined c i =
      sum_ℚ-same p.columns (λ k. sum_ℚ p.columns (λ l. p.x i l *ℚ m l k) *ℚ c k) (λ k. sum_ℚ p.columns (λ l. p.x i l *ℚ (m l k *ℚ c k)))
      (λ k h. ring_ℚ (sum_ℚ p.columns (λ l. p.x i l *ℚ m l k) ∷ c k ∷ []) (v0 ⊠ v1) (v1 ⊠ v0) refl
      ∙ sym (sum_ℚ-scale p.columns (c k) (λ l. p.x i l *ℚ m l k))
      ∙ sum_ℚ-same p.columns (λ l. c k *ℚ (p.x i l *ℚ m l k)) (λ l. p.x i l *ℚ (m l k *ℚ c k)) (λ l h. ring_ℚ (c k ∷ p.x i l ∷ m l k ∷ []) (v0 ⊠ (v1 ⊠ v2)) (v1 ⊠ (v2 ⊠ v0)) refl))
      ∙ sum_ℚ-swap p.columns p.columns (λ k l. p.x i l *ℚ (m l k *ℚ c k))
      ∙ sum_ℚ-same p.columns (λ l. sum_ℚ p.columns (λ k. p.x i l *ℚ (m l k *ℚ c k))) (λ l. p.x i l *ℚ times p.columns m c l) (λ l h. sum_ℚ-scale p.columns (p.x i l) (λ k. m l k *ℚ c k))

  loss_combined : (c d : ℕ → ℚ) → ((k : ℕ) → k < p.columns → times p.columns m d k ≡ c k) → loss (combined m p) theta d ≡ loss p theta c
  loss_combined c d e =
      loss_by p (combined m p) theta c d refl
      (λ i l. ap (λ r. (up_cost p theta i *ℚ positive_ℚ r) +ℚ (down_cost p theta i *ℚ negative_ℚ r))
      (ap (λ z. p.y i -ℚ z) (fitted_combined d i ∙ sum_ℚ-same p.columns (λ k. p.x i k *ℚ times p.columns m d k) (λ k. p.x i k *ℚ c k) (λ k h. ap (λ z. p.x i k *ℚ z) (e k h)))))

-- a matrix times its inverse times a vector
undone : (n : ℕ) (m a : ℕ → ℕ → ℚ) (b : ℕ → ℚ) → AreInverse n m a → (k : ℕ) → k < n → times n m (times n a b) k ≡ b k
undone n m a b inverse k h =
    sum_ℚ-same n (λ l. m k l *ℚ sum_ℚ n (λ j. a l j *ℚ b j)) (λ l. sum_ℚ n (λ j. b j *ℚ (m k l *ℚ a l j)))
    (λ l g. sym (sum_ℚ-scale n (m k l) (λ j. a l j *ℚ b j)) ∙ sum_ℚ-same n (λ j. m k l *ℚ (a l j *ℚ b j)) (λ j. b j *ℚ (m k l *ℚ a l j)) (λ j f. ring_ℚ (m k l ∷ a l j ∷ b j ∷ []) (v0 ⊠ (v1 ⊠ v2)) (v2 ⊠ (v0 ⊠ v1)) refl))
    ∙ sum_ℚ-swap n n (λ l j. b j *ℚ (m k l *ℚ a l j))
    ∙ sum_ℚ-same n (λ j. sum_ℚ n (λ l. b j *ℚ (m k l *ℚ a l j))) (λ j. b j *ℚ delta j k)
    (λ j f. sum_ℚ-scale n (b j) (λ l. m k l *ℚ a l j) ∙ ap (λ z. b j *ℚ z) (inverse.left k j h f ∙ delta-turned k j))
    ∙ sum_ℚ-delta n b k h

pub design : DesignEquivariance
design p theta m a b inverse least =
    kept p (combined m p) theta theta b (times p.columns a b) least (loss_combined p theta m b (times p.columns a b) (undone p.columns m a b inverse))
    (λ other. (times p.columns m other, loss_combined p theta m (times p.columns m other) other (λ k h. refl)))

-- ---- dual values

-- what a dual value weighs in combined columns
balanced_combined : (p : Sample) (theta : ℚ) (e : ℕ → ℚ) (m : ℕ → ℕ → ℚ) → IsFeasible p theta e → (k : ℕ) → sum_ℚ p.rows (λ i. e i *ℚ sum_ℚ p.columns (λ l. p.x i l *ℚ m l k)) ≡ whole (pos 0)
balanced_combined p theta e m f k =
    sum_ℚ-same p.rows (λ i. e i *ℚ sum_ℚ p.columns (λ l. p.x i l *ℚ m l k)) (λ i. sum_ℚ p.columns (λ l. m l k *ℚ (e i *ℚ p.x i l)))
    (λ i h. sym (sum_ℚ-scale p.columns (e i) (λ l. p.x i l *ℚ m l k))
    ∙ sum_ℚ-same p.columns (λ l. e i *ℚ (p.x i l *ℚ m l k)) (λ l. m l k *ℚ (e i *ℚ p.x i l)) (λ l g. ring_ℚ (e i ∷ p.x i l ∷ m l k ∷ []) (v0 ⊠ (v1 ⊠ v2)) (v2 ⊠ (v0 ⊠ v1)) refl))
    ∙ sum_ℚ-swap p.rows p.columns (λ i l. m l k *ℚ (e i *ℚ p.x i l))
    ∙ sum_ℚ-same p.columns (λ l. sum_ℚ p.rows (λ i. m l k *ℚ (e i *ℚ p.x i l))) (λ l. whole (pos 0))
    (λ l g. sum_ℚ-scale p.rows (m l k) (λ i. e i *ℚ p.x i l) ∙ ap (λ z. m l k *ℚ z) (f.balanced l g) ∙ ring_ℚ (m l k ∷ []) (v0 ⊠ number (pos 0)) (number (pos 0)) refl)
    ∙ sum_ℚ-zero p.columns

pub duals_stay : DualEquivariance
duals_stay p theta b e d =
    record {
      scale = λ a h.
          let known = le_from_not (whole (pos 0)) a h in
          record {
            feasible = record { lower = d.feasible.lower; upper = d.feasible.upper; balanced = d.feasible.balanced };
            equal = loss_scaled p theta a known b (λ k. a *ℚ b k) (λ k l. refl) ∙ ap (λ z. a *ℚ z) d.equal
                ∙ sym (sum_ℚ-scale p.rows a (λ i. p.y i *ℚ e i))
                ∙ sum_ℚ-same p.rows (λ i. a *ℚ (p.y i *ℚ e i)) (λ i. (a *ℚ p.y i) *ℚ e i) (λ i l. ring_ℚ (a ∷ p.y i ∷ e i ∷ []) (v0 ⊠ (v1 ⊠ v2)) ((v0 ⊠ v1) ⊠ v2) refl);
          };
      shift = λ g.
          record {
            feasible = record { lower = d.feasible.lower; upper = d.feasible.upper; balanced = d.feasible.balanced };
            equal = loss_shifted p theta g b (λ k. b k +ℚ g k) (λ k l. refl) ∙ d.equal
                ∙ sym (sum_ℚ-same p.rows (λ i. (p.y i +ℚ fitted p g i) *ℚ e i) (λ i. (p.y i *ℚ e i) +ℚ (e i *ℚ fitted p g i)) (λ i l. ring_ℚ (p.y i ∷ fitted p g i ∷ e i ∷ []) ((v0 ⊞ v1) ⊠ v2) (v0 ⊠ v2 ⊞ v2 ⊠ v1) refl)
                ∙ sum_ℚ-add p.rows (λ i. p.y i *ℚ e i) (λ i. e i *ℚ fitted p g i)
                ∙ ap (λ z. dual_objective p e +ℚ z) (orthogonal p g e d.feasible.balanced)
                ∙ ring_ℚ (dual_objective p e ∷ []) (v0 ⊞ number (pos 0)) v0 refl);
          };
      design = λ m a inverse.
          record {
            feasible = record { lower = d.feasible.lower; upper = d.feasible.upper; balanced = λ k l. balanced_combined p theta e m d.feasible k };
            equal = loss_combined p theta m b (times p.columns a b) (undone p.columns m a b inverse) ∙ d.equal;
          };
    }

-- ---- responses

pub responses_may_move : ResponsesMayMove
responses_may_move p theta b e side y f sides on =
    by_sides (answered y p) theta b e side (record { lower = f.lower; upper = f.upper; balanced = f.balanced }) (λ i l. (on i l, sides i l))

pub residuals_may_stretch : ResidualsMayStretch
residuals_may_stretch p theta b e d dual known =
    shown (answered stretched p) theta b e (record { lower = dual.feasible.lower; upper = dual.feasible.upper; balanced = dual.feasible.balanced })
    (record { above = λ i l h. c.above i l (λ k. h (subst (λ z. z ≤ℚ whole (pos 0)) (sym (is i)) (under i l k))); below = λ i l h. c.below i l (λ k. h (subst (λ z. whole (pos 0) ≤ℚ z) (sym (is i)) (over i l k))) })
  where
    stretched : ℕ → ℚ
    stretched i = fitted p b i +ℚ (d i *ℚ residual p b i)

    c : IsComplementary p theta (residual p b) e
    c = complements p theta b e dual

    is : (i : ℕ) → residual (answered stretched p) b i ≡ d i *ℚ residual p b i
    is i = ring_ℚ (fitted p b i ∷ (d i *ℚ residual p b i) ∷ []) ((v0 ⊞ v1) ⊟ v0) v1 refl

    none : (x : ℚ) → x *ℚ whole (pos 0) ≡ whole (pos 0)
    none x = ring_ℚ (x ∷ []) (v0 ⊠ number (pos 0)) (number (pos 0)) refl

    under : (i : ℕ) → i < p.rows → residual p b i ≤ℚ whole (pos 0) → (d i *ℚ residual p b i) ≤ℚ whole (pos 0)
    under i l k = subst (λ z. (d i *ℚ residual p b i) ≤ℚ z) (none (d i)) (≤ℚ_mul (residual p b i) (whole (pos 0)) (d i) (known i l) k)

    over : (i : ℕ) → i < p.rows → whole (pos 0) ≤ℚ residual p b i → whole (pos 0) ≤ℚ (d i *ℚ residual p b i)
    over i l k = subst (λ z. z ≤ℚ (d i *ℚ residual p b i)) (none (d i)) (≤ℚ_mul (whole (pos 0)) (residual p b i) (d i) (known i l) k)
