-- What an exchange changes in the coefficients, the residuals and the totals.
use Rattle.std.specs.Prelude.{◌≡◌, ◌≢◌, ℕ, ◌<◌, Bool, true, false, ◌==◌, if◌then◌else◌, [], ◌∷◌, pos}
use Rattle.std.proofs.Common.{refl, sym, ap, ap₂, ◌∙◌}
use borrow.Author.Tests.{eqb-true, eqb-false}
use Rattle.rational_laws.specs.Solver.{var, number, negated, ◌⊞◌, ◌⊟◌, ◌⊠◌, v0, v1, v2, v3, v4, v5}
use Rattle.rational_laws.specs.Rational.{ℚ, ◌+ℚ◌, ◌-ℚ◌, ◌*ℚ◌, neg_ℚ, inverse, whole}
use Rattle.rational_laws.proofs.RationalLaws.{ring_ℚ, ring_by_ℚ, *ℚ-inverse}
use Rattle.rational_laws.specs.RationalSums.{sum_ℚ}
use Rattle.rational_laws.proofs.RationalSumLaws.{sum_ℚ-same, sum_ℚ-mix}
use Rattle.rational_laws.proofs.TermLaws.{sum_ℚ-replaced}
use Rattle.rational_laws.proofs.MatrixLaws.{inverse-unique}
use Rattle.rational_laws.specs.Exchange.{exchanged}
use Rattle.loss_model.specs.declared.vertex.Side.{Side}
use Rattle.loss_model.specs.declared.vertex.Side.TheVariants.{Basic}
use Rattle.loss_model.specs.Sample.{Sample, residual}
use Rattle.pivot_model.specs.declared.direction.Direction.{Direction}
use Rattle.pivot_model.specs.Part.{Part}
use Rattle.pivot_model.specs.Part.TheVariants.{Constant, Linear}
use Rattle.pivot_model.specs.Basis.{IsBasis, coord, coefficient, side_at, bound_part, nonbasic_total}
use Rattle.pivot_model.specs.Responses.{residual_for}
use Rattle.pivot_model.proofs.Among.{among_at}
use Rattle.pivot_model.proofs.Bounds.{is_basic}
use Rattle.pivot_model.proofs.Sides.{side_basic}
use Rattle.pivot_model.proofs.Exchanged.{residual_fit}
use Rattle.walk_model.specs.Walks.{IsFirstMover, side_towards, AreExchanged}
use Rattle.walk_model.proofs.Exchanges.{next_inverse, residual_next}
use Rattle.walk_model.proofs.Joint.{next_same, sides_stay, side_left}

-- the coefficients that fit the responses v in the basis
abbrev pub coefficient_for : Sample → (ℕ → ℕ) → (ℕ → ℕ → ℚ) → (ℕ → ℚ) → ℕ → ℚ
coefficient_for p at a v k = sum_ℚ p.columns (λ l. a k l *ℚ v (at l))

-- the residual of the problem is that of its responses
pub residual_is : (p : Sample) (at : ℕ → ℕ) (a : ℕ → ℕ → ℚ) (i : ℕ) → residual p (coefficient p at a) i ≡ residual_for p at a p.y i
residual_is p at a i = sym (residual_fit p at a p.y i)

module _ (p : Sample) (at next : ℕ → ℕ) (a b : ℕ → ℕ → ℚ) (j r : ℕ) (basis : IsBasis p at a) (after : IsBasis p next b) (ex : AreExchanged p.columns at next j r) (lj : j < p.columns) where
  module _ (some : coord p a r j ≢ whole (pos 0)) where
    pub residuals_change : (i : ℕ) → residual p (coefficient p next b) i ≡ residual p (coefficient p at a) i -ℚ ((coord p a i j *ℚ inverse (coord p a r j)) *ℚ residual p (coefficient p at a) r)
    residuals_change i =
        residual_is p next b i ∙ residual_next p at next a b j r basis after ex lj some p.y i
        ∙ ap₂ (λ x y. x -ℚ ((coord p a i j *ℚ inverse (coord p a r j)) *ℚ y)) (sym (residual_is p at a i)) (sym (residual_is p at a r))

    pub coefficients_after : (v : ℕ → ℚ) (k : ℕ) → k < p.columns → coefficient_for p next b v k ≡ coefficient_for p at a v k +ℚ ((a k j *ℚ inverse (coord p a r j)) *ℚ residual_for p at a v r)
    coefficients_after v k lk =
        sum_ℚ-same p.columns (λ l. b k l *ℚ v (next l)) (λ l. if l == j then (a k j *ℚ q) *ℚ v r else g l)
        (λ l ll. ap₂ (λ x y. x *ℚ y) (inverse-unique p.columns (λ k l. p.x (next k) l) b (exchanged p.columns a j (p.x r)) after.inverse (next_inverse p at next a b j r basis after ex lj some) k l lk ll) (ap v (ex l ll)) ∙ by l (l == j))
        ∙ sum_ℚ-replaced p.columns j g (λ l. (a k j *ℚ q) *ℚ v r) lj
        ∙ ap (λ z. (z -ℚ g j) +ℚ ((a k j *ℚ q) *ℚ v r)) total
        ∙ ring_by_ℚ (coefficient_for p at a v k ∷ a k j ∷ q ∷ sum_ℚ p.columns (λ l. coord p a r l *ℚ v (at l)) ∷ v r ∷ coord p a r j ∷ v (at j) ∷ [])
        (((v0 ⊞ negated (v1 ⊠ v2) ⊠ v3) ⊟ ((v1 ⊟ v5 ⊠ (v1 ⊠ v2)) ⊠ var 6)) ⊞ (v1 ⊠ v2) ⊠ v4)
        (v0 ⊞ (v1 ⊠ v2) ⊠ (v4 ⊟ v3)) (v1 ⊠ var 6) (v5 ⊠ v2) (number (pos 1)) refl (*ℚ-inverse (coord p a r j) some)
      where
        q : ℚ
        q = inverse (coord p a r j)

        g : ℕ → ℚ
        g l = (a k l -ℚ (coord p a r l *ℚ (a k j *ℚ q))) *ℚ v (at l)

        by : (l : ℕ) (t : Bool) → (if t then a k j *ℚ q else a k l -ℚ (coord p a r l *ℚ (a k j *ℚ q))) *ℚ v (if t then r else at l) ≡ (if t then (a k j *ℚ q) *ℚ v r else g l)
        by l true = refl
        by l false = refl

        total : sum_ℚ p.columns g ≡ coefficient_for p at a v k +ℚ (neg_ℚ (a k j *ℚ q) *ℚ sum_ℚ p.columns (λ l. coord p a r l *ℚ v (at l)))
        total =
            sum_ℚ-same p.columns g (λ l. (whole (pos 1) *ℚ (a k l *ℚ v (at l))) +ℚ (neg_ℚ (a k j *ℚ q) *ℚ (coord p a r l *ℚ v (at l))))
            (λ l ll. ring_ℚ (a k l ∷ coord p a r l ∷ a k j ∷ q ∷ v (at l) ∷ []) ((v0 ⊟ v1 ⊠ (v2 ⊠ v3)) ⊠ v4) (number (pos 1) ⊠ (v0 ⊠ v4) ⊞ negated (v2 ⊠ v3) ⊠ (v1 ⊠ v4)) refl)
            ∙ sum_ℚ-mix p.columns (whole (pos 1)) (neg_ℚ (a k j *ℚ q)) (λ l. a k l *ℚ v (at l)) (λ l. coord p a r l *ℚ v (at l))
            ∙ ring_ℚ (coefficient_for p at a v k ∷ (a k j *ℚ q) ∷ sum_ℚ p.columns (λ l. coord p a r l *ℚ v (at l)) ∷ []) (number (pos 1) ⊠ v0 ⊞ negated v1 ⊠ v2) (v0 ⊞ negated v1 ⊠ v2) refl

    pub coefficients_change : (k : ℕ) → k < p.columns → coefficient p next b k ≡ coefficient p at a k +ℚ ((a k j *ℚ inverse (coord p a r j)) *ℚ residual p (coefficient p at a) r)
    coefficients_change k lk =
        coefficients_after p.y k lk ∙ ap (λ z. coefficient p at a k +ℚ ((a k j *ℚ inverse (coord p a r j)) *ℚ z)) (sym (residual_is p at a r))

  module _ (d : Direction) (first : IsFirstMover p at a j d r) (part : Part) (k : ℕ) where
    basic_part : (i : ℕ) (part : Part) → bound_part p part i Basic ≡ whole (pos 0)
    basic_part i Constant = refl
    basic_part i Linear = refl

    old : ℕ → ℚ
    old i = p.x i k *ℚ bound_part p part i (side_at p at a i)

    new : ℕ → ℚ
    new i = p.x i k *ℚ bound_part p part i (side_towards d)

    pub totals_change : nonbasic_total p (side_at p next b) part k ≡ (nonbasic_total p (side_at p at a) part k -ℚ (p.x r k *ℚ bound_part p part r (side_at p at a r))) +ℚ (p.x (at j) k *ℚ bound_part p part (at j) (side_towards d))
    unfolding old new
    totals_change =
        sum_ℚ-same p.rows (λ i. p.x i k *ℚ bound_part p part i (side_at p next b i)) (λ i. if i == at j then new i else kept i) (λ i li. each i li (i == at j) refl (i == r) refl)
        ∙ sum_ℚ-replaced p.rows (at j) kept new (basis.distinct.within j lj)
        ∙ ap₂ (λ x y. (x -ℚ y) +ℚ new (at j)) (sum_ℚ-replaced p.rows r old (λ i. whole (pos 0)) first.row) gone
        ∙ ring_ℚ (sum_ℚ p.rows old ∷ old r ∷ new (at j) ∷ []) ((((v0 ⊟ v1) ⊞ number (pos 0)) ⊟ number (pos 0)) ⊞ v2) ((v0 ⊟ v1) ⊞ v2) refl
      where
        kept : ℕ → ℚ
        kept i = if i == r then whole (pos 0) else old i

        zero_times : (i : ℕ) (s : Side) → s ≡ Basic → p.x i k *ℚ bound_part p part i s ≡ whole (pos 0)
        zero_times i s e = ap (λ z. p.x i k *ℚ z) (ap (bound_part p part i) e ∙ basic_part i part) ∙ ring_ℚ (p.x i k ∷ []) (v0 ⊠ number (pos 0)) (number (pos 0)) refl

        gone : kept (at j) ≡ whole (pos 0)
        gone = by (at j == r)
          where
            by : (t : Bool) → (if t then whole (pos 0) else old (at j)) ≡ whole (pos 0)
            by true = refl
            by false = zero_times (at j) (side_at p at a (at j)) (side_basic p at a (at j) (among_at at p.columns j lj))

        each : (i : ℕ) → i < p.rows → (t : Bool) → (i == at j) ≡ t → (u : Bool) → (i == r) ≡ u → p.x i k *ℚ bound_part p part i (side_at p next b i) ≡ (if t then new i else if u then whole (pos 0) else old i)
        each i li true e u h = ap (λ s. p.x i k *ℚ bound_part p part i s) (ap (side_at p next b) (eqb-true i (at j) e) ∙ side_left p at a basis j d r first next b after ex lj)
        each i li false e true h =
            zero_times i (side_at p next b i) (side_basic p next b i (ap (is_basic p next b) (eqb-true i r h ∙ sym (next_same p at a basis j d r first next b after ex lj)) ∙ among_at next p.columns j lj))
        each i li false e false h = ap (λ s. p.x i k *ℚ bound_part p part i s) (sides_stay p at a basis j d r first next b after ex lj i li (eqb-false i r h) (eqb-false i (at j) e))
