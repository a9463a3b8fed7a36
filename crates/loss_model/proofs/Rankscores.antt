-- Rankscores lie in 0 to 1, and outside a basis they are its ends.
use Rattle.std.specs.Prelude.{◌≡◌, ◌≢◌, ℕ, [], ◌∷◌, slice_get, Option, Some, pos}
use Rattle.std.specs.Option.{option_map_or}
use Rattle.std.proofs.Common.{refl, ap, ap₂, subst, ◌∙◌}
use Rattle.std.specs.declared.cmp.Ordering.TheVariants.{Less}
use Rattle.rational_laws.specs.Solver.{number, negated, ◌⊞◌, ◌⊟◌, ◌⊠◌, v0, v1, v2, v3}
use Rattle.rational_laws.specs.Rational.{ℚ, ◌+ℚ◌, ◌-ℚ◌, ◌*ℚ◌, neg_ℚ, inverse, whole, ◌≤ℚ◌}
use Rattle.rational_laws.proofs.RationalLaws.{ring_by_ℚ, *ℚ-inverse, ≤ℚ_refl}
use Rattle.rational_laws.proofs.RationalSumLaws.{≤ℚ_from}
use Rattle.rational_laws.specs.Order.{cmp_ℚ}
use Rattle.rational_laws.proofs.OrderLaws.{cmp_ℚ-Less, le_from_not, ≤ℚ-minus, inverse_not_negative}
use Rattle.rational_laws.specs.Fraction.{Fraction}
use Rattle.rational_laws.proofs.Signs.{product_not_negative}
use Rattle.loss_model.specs.declared.problem.Problem.{Problem}
use Rattle.loss_model.specs.declared.vertex.Side.{Side}
use Rattle.loss_model.specs.declared.vertex.Side.TheVariants.{Up, Down}
use Rattle.loss_model.specs.declared.vertex.Vertex.{Vertex}
use Rattle.loss_model.specs.Sample.{Sample, up_cost, down_cost}
use Rattle.loss_model.specs.Dual.{IsDataRow}
use Rattle.loss_model.specs.Problem.{sample}
use Rattle.loss_model.specs.Vertex.{value_of_side, basic_value, dual_value}
use Rattle.loss_model.specs.Laws.{RankscoresAreBounded, AboveScoresOne, BelowScoresZero, SidesAreScores}

-- what comes before another value differs from it
less-ne : (x y : ℚ) → cmp_ℚ x y ≡ Less → y ≢ x
less-ne x y h e = (cmp_ℚ-Less x y).0 h (subst (λ z. y ≤ℚ z) e (≤ℚ_refl y))

-- the value e within the costs of weight w at t, over w
bounds : (w i t e d u : ℚ) → w *ℚ i ≡ whole (pos 1) → whole (pos 0) ≤ℚ i → neg_ℚ d ≤ℚ e → e ≤ℚ u → d ≡ w +ℚ (neg_ℚ w *ℚ t) → u ≡ whole (pos 0) +ℚ (w *ℚ t)
    → (whole (pos 0) ≤ℚ (((e *ℚ i) +ℚ whole (pos 1)) -ℚ t)) × ((((e *ℚ i) +ℚ whole (pos 1)) -ℚ t) ≤ℚ whole (pos 1))
bounds w i t e d u one known lower upper down up = (
  subst (λ z. whole (pos 0) ≤ℚ z)
      (ap (λ z. i *ℚ (e -ℚ neg_ℚ z)) down
      ∙ ring_by_ℚ (w ∷ i ∷ t ∷ e ∷ []) (v1 ⊠ (v3 ⊟ negated (v0 ⊞ negated v0 ⊠ v2))) ((v3 ⊠ v1 ⊞ number (pos 1)) ⊟ v2) (number (pos 1) ⊟ v2) (v0 ⊠ v1) (number (pos 1)) refl one)
      (product_not_negative i (e -ℚ neg_ℚ d) known ((≤ℚ-minus (neg_ℚ d) e).0 lower)),
  ≤ℚ_from (((e *ℚ i) +ℚ whole (pos 1)) -ℚ t) (whole (pos 1))
      (subst (λ z. whole (pos 0) ≤ℚ z)
      (ap (λ z. i *ℚ (z -ℚ e)) up
      ∙ ring_by_ℚ (w ∷ i ∷ t ∷ e ∷ []) (v1 ⊠ ((number (pos 0) ⊞ v0 ⊠ v2) ⊟ v3)) (number (pos 1) ⊟ ((v3 ⊠ v1 ⊞ number (pos 1)) ⊟ v2)) v2 (v0 ⊠ v1) (number (pos 1)) refl one)
      (product_not_negative i (u -ℚ e) known ((≤ℚ-minus e u).0 upper))),
)

pub bounded : RankscoresAreBounded
bounded p theta e i f l row =
    let w = p.up1 i in
    bounds w (inverse w) theta (e i) (down_cost p theta i) (up_cost p theta i)
    (*ℚ-inverse w (less-ne (whole (pos 0)) w row.weighted))
    (inverse_not_negative w (le_from_not (whole (pos 0)) w ((cmp_ℚ-Less (whole (pos 0)) w).0 row.weighted)))
    (f.lower i l) (f.upper i l)
    (ap (λ z. z +ℚ (p.down1 i *ℚ theta)) row.down0 ∙ ap (λ z. w +ℚ (z *ℚ theta)) row.down1)
    (ap (λ z. z +ℚ (w *ℚ theta)) row.up0)

-- ---- outside a basis

-- a weight is not 0
weight_some : (p : Sample) (i : ℕ) → IsDataRow p i → p.up1 i ≢ whole (pos 0)
weight_some p i row = less-ne (whole (pos 0)) (p.up1 i) row.weighted

-- the score of a value e at the weight w
abbrev score : ℚ → ℚ → ℚ → ℚ
score e w theta = ((e *ℚ inverse w) +ℚ whole (pos 1)) -ℚ theta

one : (w theta : ℚ) → w ≢ whole (pos 0) → score (whole (pos 0) +ℚ (w *ℚ theta)) w theta ≡ whole (pos 1)
one w theta h =
    ring_by_ℚ (w ∷ theta ∷ inverse w ∷ []) ((((number (pos 0) ⊞ (v0 ⊠ v1)) ⊠ v2) ⊞ number (pos 1)) ⊟ v1) (number (pos 1)) v1 (v0 ⊠ v2) (number (pos 1)) refl (*ℚ-inverse w h)

none : (w theta : ℚ) → w ≢ whole (pos 0) → score (neg_ℚ (w +ℚ (neg_ℚ w *ℚ theta))) w theta ≡ whole (pos 0)
none w theta h =
    ring_by_ℚ (w ∷ theta ∷ inverse w ∷ []) (((negated (v0 ⊞ (negated v0 ⊠ v1)) ⊠ v2) ⊞ number (pos 1)) ⊟ v1) (number (pos 0)) (v1 ⊟ number (pos 1)) (v0 ⊠ v2) (number (pos 1)) refl (*ℚ-inverse w h)

pub above : AboveScoresOne
above p theta e basic i row up =
    ap (λ x. score x (p.up1 i) theta) (up ∙ ap (λ x. x +ℚ (p.up1 i *ℚ theta)) row.up0) ∙ one (p.up1 i) theta (weight_some p i row)

pub below : BelowScoresZero
below p theta e basic i row down =
    ap (λ x. score x (p.up1 i) theta) (down ∙ ap₂ (λ x y. neg_ℚ (x +ℚ (y *ℚ theta))) row.down0 row.down1) ∙ none (p.up1 i) theta (weight_some p i row)

pub outside : {F : Type 0} (value : F → Fraction) (p : Problem F) (v : Vertex) → SidesAreScores value p v
outside {F} value p v theta basic i row = (
  λ up. above (sample value p) theta (dual_value value p v basic theta) (basic_value v basic) i row (on_side Up up),
  λ down. below (sample value p) theta (dual_value value p v basic theta) (basic_value v basic) i row (on_side Down down),
)
  where
    on_side : (s : Side) → slice_get v.sides i ≡ Some s → dual_value value p v basic theta i ≡ value_of_side (sample value p) theta (basic_value v basic) i s
    on_side s e = ap (λ (o : Option Side). option_map_or (value_of_side (sample value p) theta (basic_value v basic) i) o (whole (pos 0))) e
