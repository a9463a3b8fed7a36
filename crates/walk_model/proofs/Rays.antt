-- Where no row moves, the direction of the position that leaves is a ray.
use Rattle.std.specs.Prelude.{◌≡◌, ◌≢◌, ℕ, ◌<◌, Bool, true, false, ◌==◌, [], ◌∷◌, pos, negsuc}
use Rattle.std.specs.Ordering.{is_lt, is_gt}
use Rattle.std.specs.declared.cmp.Ordering.{Ordering}
use Rattle.std.specs.declared.cmp.Ordering.TheVariants.{Less, Equal, Greater}
use Rattle.std.proofs.lemmas.Int.{ints}
use Rattle.std.proofs.Common.{arith, refl, sym, ap, subst, ◌∙◌}
use borrow.Author.Tests.{eqb-true, eqb-false}
use Rattle.rational_laws.specs.Solver.{number, negated, ◌⊞◌, ◌⊟◌, ◌⊠◌, v0, v1, v2}
use Rattle.rational_laws.specs.Rational.{ℚ, ◌+ℚ◌, ◌-ℚ◌, ◌*ℚ◌, neg_ℚ, inverse, whole, ◌≤ℚ◌}
use Rattle.rational_laws.proofs.RationalLaws.{ring_ℚ, ring_by_ℚ, ≤ℚ_refl, ≤ℚ_mul, *ℚ-inverse}
use Rattle.rational_laws.proofs.RationalSumLaws.{sum_ℚ-same, sum_ℚ-scale}
use Rattle.rational_laws.proofs.Inverses.{inverse-neg}
use Rattle.rational_laws.proofs.WholeNumbers.{whole-le}
use Rattle.rational_laws.proofs.OrderLaws.{cmp_ℚ-Less, cmp_ℚ-Greater, le_from_not}
use Rattle.rational_laws.specs.Terms.{delta}
use Rattle.rational_laws.proofs.TermLaws.{if-same, if-other}
use Rattle.rational_laws.specs.Matrices.{coordinate}
use Rattle.rational_laws.proofs.MatrixLaws.{coordinate-delta}
use Rattle.loss_model.specs.declared.vertex.Side.{Side}
use Rattle.loss_model.specs.declared.vertex.Side.TheVariants.{Up, Down, Basic}
use Rattle.loss_model.specs.Sample.{Sample, up_cost, down_cost, fitted}
use Rattle.loss_model.specs.Complements.{IsComplementary, residual_change}
use Rattle.loss_model.specs.Vertex.{value_of_side}
use Rattle.pivot_model.specs.Perturbed.{side_of}
use Rattle.pivot_model.specs.declared.direction.Direction.{Direction}
use Rattle.pivot_model.specs.declared.direction.Direction.TheVariants.{Upward, Downward}
use Rattle.pivot_model.specs.Part.TheVariants.{Linear}
use Rattle.pivot_model.specs.Basis.{IsBasis, coord, side_at}
use Rattle.pivot_model.specs.Duals.{◌<ℚ◌}
use Rattle.pivot_model.specs.Steps.{is_towards, change, moves}
use Rattle.pivot_model.proofs.Among.{among_place}
use Rattle.pivot_model.proofs.Bounds.{is_basic}
use Rattle.pivot_model.proofs.Sides.{sign, side_outside}
use Rattle.pivot_model.proofs.Passing.{no}
use Rattle.walk_model.specs.Families.{by_weight, Family, rising_value, falling_value, basic_at, dual_in, slope_in, slope_part}
use Rattle.walk_model.specs.Walks.{Crosses}
use Rattle.walk_model.specs.Rays.{ray_up, ray_down}
use Rattle.walk_model.proofs.Lines.{positive_neg, negative_neg, le_by}
use Rattle.walk_model.proofs.Lists.{inverse_above}
use Rattle.walk_model.proofs.Slopes.{crossing}
use Rattle.walk_model.proofs.Balanced.{held, dual_at}
use Rattle.walk_model.proofs.Exchanges.{coord_own}
use Rattle.walk_model.proofs.Tested.{negated_entry}

one_above : whole (pos 0) ≤ℚ whole (pos 1)
one_above = whole-le (pos 0) (pos 1) (omega (arith, ints))

not_basic : (o : Ordering) → side_of o ≡ Basic → ⊥
not_basic Less h = absurd (cc h)
not_basic Equal h = absurd (cc h)
not_basic Greater h = absurd (cc h)

zero_le : whole (pos 0) ≤ℚ whole (pos 0)
zero_le = ≤ℚ_refl (whole (pos 0))

-- the sign of a change by that of its multiple
module _ (g x : ℚ) (above : whole (pos 0) <ℚ g) where
  g_least : whole (pos 0) ≤ℚ g
  g_least = le_from_not (whole (pos 0)) g above

  rising_from : whole (pos 0) <ℚ (x *ℚ g) → whole (pos 0) <ℚ x
  rising_from h k = h (le_by (g *ℚ x) (g *ℚ whole (pos 0)) (x *ℚ g) (whole (pos 0)) (≤ℚ_mul x (whole (pos 0)) g g_least k) (ring_ℚ (g ∷ x ∷ []) (v0 ⊠ number (pos 0) ⊟ v0 ⊠ v1) (number (pos 0) ⊟ v1 ⊠ v0) refl))

  falling_from : (x *ℚ g) <ℚ whole (pos 0) → x <ℚ whole (pos 0)
  falling_from h k = h (le_by (g *ℚ whole (pos 0)) (g *ℚ x) (whole (pos 0)) (x *ℚ g) (≤ℚ_mul (whole (pos 0)) x g g_least k) (ring_ℚ (g ∷ x ∷ []) (v0 ⊠ v1 ⊟ v0 ⊠ number (pos 0)) (v1 ⊠ v0 ⊟ number (pos 0)) refl))

module _ (p : Sample) (tau : ℚ) (right : ℕ → ℚ) (at : ℕ → ℕ) (a : ℕ → ℕ → ℚ) (basis : IsBasis p at a) (t : ℚ) (j : ℕ) (lj : j < p.columns) where
  abbrev f : Family
  f = record { sample = p; parameter = by_weight tau; right = right }

  abbrev e : ℕ → ℚ
  e = dual_in f at a t

  module _ (d : Direction) (meets : slope_in f at a t j d ≡ whole (pos 0)) (stuck : (i : ℕ) → i < p.rows → moves p at a j d i ≡ false)
      (dir : ℕ → ℚ) (g : ℚ) (above : whole (pos 0) <ℚ g) (changes : (i : ℕ) → residual_change p dir i ≡ change p at a j d i *ℚ g) where
    value : (i : ℕ) (s : Side) → side_at p at a i ≡ s → e i ≡ value_of_side p tau (held f at a basis t) i s
    value i s h = ap (value_of_side p tau (held f at a basis t) i) h

    -- the change of a row of the basis, which is that of the position alone
    still : (k : ℕ) → k < p.columns → k ≢ j → (d : Direction) → change p at a j d (at k) ≡ whole (pos 0)
    still k lk other Upward = coord_own p at a basis k j lk lj ∙ if-other k j (whole (pos 1)) (whole (pos 0)) other
    still k lk other Downward = ap neg_ℚ (coord_own p at a basis k j lk lj ∙ if-other k j (whole (pos 1)) (whole (pos 0)) other) ∙ ring_ℚ [] (negated (number (pos 0))) (number (pos 0)) refl

    own : coord p a (at j) j ≡ whole (pos 1)
    own = coord_own p at a basis j j lj lj ∙ if-same j j (whole (pos 1)) (whole (pos 0)) refl

    below_one : (x : ℚ) → x ≡ whole (pos 1) → x <ℚ whole (pos 0) → ⊥
    below_one x h k = k (subst (λ z. whole (pos 0) ≤ℚ z) (sym h) one_above)

    above_minus : (x : ℚ) → x ≡ whole (pos 1) → whole (pos 0) <ℚ neg_ℚ x → ⊥
    above_minus x h k = k (subst (λ z. neg_ℚ z ≤ℚ whole (pos 0)) (sym h) (le_by (whole (pos 0)) (whole (pos 1)) (neg_ℚ (whole (pos 1))) (whole (pos 0)) one_above
        (ring_ℚ [] (number (pos 1) ⊟ number (pos 0)) (number (pos 0) ⊟ negated (number (pos 1))) refl)))

    -- the row that leaves, by its direction
    left_up : (d : Direction) → slope_in f at a t j d ≡ whole (pos 0) → whole (pos 0) <ℚ change p at a j d (at j) → basic_at f at a t j ≡ up_cost p tau (at j)
    left_up Upward h k = ring_by_ℚ (basic_at f at a t j ∷ up_cost p tau (at j) ∷ []) v0 v1 (number (negsuc 0)) (v1 ⊟ v0) (number (pos 0)) refl h
    left_up Downward h k = absurd (above_minus (coord p a (at j) j) own k)

    left_down : (d : Direction) → slope_in f at a t j d ≡ whole (pos 0) → change p at a j d (at j) <ℚ whole (pos 0) → basic_at f at a t j ≡ neg_ℚ (down_cost p tau (at j))
    left_down Upward h k = absurd (below_one (coord p a (at j) j) own k)
    left_down Downward h k = ring_by_ℚ (basic_at f at a t j ∷ down_cost p tau (at j) ∷ []) v0 (negated v1) (number (pos 1)) (v1 ⊞ v0) (number (pos 0)) refl h

    place_of : (i : ℕ) → side_at p at a i ≡ Basic → (k : ℕ) × (k < p.columns) × (at k ≡ i)
    place_of i h = by (is_basic p at a i) refl
      where
        by : (s : Bool) → is_basic p at a i ≡ s → (k : ℕ) × (k < p.columns) × (at k ≡ i)
        by true b = among_place at p.columns i b
        by false b = absurd (not_basic (sign p at a i) (sym (side_outside p at a i b) ∙ h))

    above_is : (i : ℕ) → i < p.rows → whole (pos 0) <ℚ change p at a j d i → (s : Side) → side_at p at a i ≡ s → e i ≡ up_cost p tau i
    above_is i li h Up s = value i Up s
    above_is i li h Down s = absurd (no (sym (ap (λ s. is_towards s (change p at a j d i)) s ∙ ap is_gt ((cmp_ℚ-Greater (change p at a j d i) (whole (pos 0))).1 h)) ∙ stuck i li))
    above_is i li h Basic s = at_place (place_of i s)
      where
        at_place : (k : ℕ) × (k < p.columns) × (at k ≡ i) → e i ≡ up_cost p tau i
        at_place (k, lk, here) = by (k == j) refl
          where
            by : (b : Bool) → (k == j) ≡ b → e i ≡ up_cost p tau i
            by true q =
                let there : at j ≡ i = ap at (sym (eqb-true k j q)) ∙ here in
                ap e (sym there) ∙ dual_at f at a basis t j lj ∙ left_up d meets (subst (λ i. whole (pos 0) <ℚ change p at a j d i) (sym there) h) ∙ ap (up_cost p tau) there
            by false q = absurd (h (subst (λ z. z ≤ℚ whole (pos 0)) (sym (still k lk (eqb-false k j q) d) ∙ ap (change p at a j d) here) zero_le))

    below_is : (i : ℕ) → i < p.rows → change p at a j d i <ℚ whole (pos 0) → (s : Side) → side_at p at a i ≡ s → e i ≡ neg_ℚ (down_cost p tau i)
    below_is i li h Down s = value i Down s
    below_is i li h Up s = absurd (no (sym (ap (λ s. is_towards s (change p at a j d i)) s ∙ ap is_lt ((cmp_ℚ-Less (change p at a j d i) (whole (pos 0))).1 h)) ∙ stuck i li))
    below_is i li h Basic s = at_place (place_of i s)
      where
        at_place : (k : ℕ) × (k < p.columns) × (at k ≡ i) → e i ≡ neg_ℚ (down_cost p tau i)
        at_place (k, lk, here) = by (k == j) refl
          where
            by : (b : Bool) → (k == j) ≡ b → e i ≡ neg_ℚ (down_cost p tau i)
            by true q =
                let there : at j ≡ i = ap at (sym (eqb-true k j q)) ∙ here in
                ap e (sym there) ∙ dual_at f at a basis t j lj ∙ left_down d meets (subst (λ i. change p at a j d i <ℚ whole (pos 0)) (sym there) h) ∙ ap (λ i. neg_ℚ (down_cost p tau i)) there
            by false q = absurd (h (subst (λ z. whole (pos 0) ≤ℚ z) (sym (still k lk (eqb-false k j q) d) ∙ ap (change p at a j d) here) zero_le))

    pub ray : IsComplementary p tau (residual_change p dir) e
    ray =
        record {
          above = λ i li h. above_is i li (rising_from g (change p at a j d i) above (subst (λ z. whole (pos 0) <ℚ z) (changes i) h)) (side_at p at a i) refl;
          below = λ i li h. below_is i li (falling_from g (change p at a j d i) above (subst (λ z. z <ℚ whole (pos 0)) (changes i) h)) (side_at p at a i) refl;
        }

-- ---- the two walks

module _ (p : Sample) (tau : ℚ) (c : ℕ) (at : ℕ → ℕ) (a : ℕ → ℕ → ℚ) (basis : IsBasis p at a) (t : ℚ) (j : ℕ) (lc : c < p.columns) (lj : j < p.columns) where
  fit_up : (i : ℕ) → fitted p (ray_up a c j) i ≡ coord p a i j *ℚ inverse (a c j)
  fit_up i =
      sum_ℚ-same p.columns (λ k. p.x i k *ℚ (a k j *ℚ inverse (a c j))) (λ k. inverse (a c j) *ℚ (p.x i k *ℚ a k j)) (λ k lk. ring_ℚ (p.x i k ∷ a k j ∷ inverse (a c j) ∷ []) (v0 ⊠ (v1 ⊠ v2)) (v2 ⊠ (v0 ⊠ v1)) refl)
      ∙ sum_ℚ-scale p.columns (inverse (a c j)) (λ k. p.x i k *ℚ a k j)
      ∙ ring_ℚ (inverse (a c j) ∷ coord p a i j ∷ []) (v0 ⊠ v1) (v1 ⊠ v0) refl

  fit_down : (i : ℕ) → fitted p (ray_down a c j) i ≡ neg_ℚ (coord p a i j *ℚ inverse (a c j))
  fit_down i =
      sum_ℚ-same p.columns (λ k. p.x i k *ℚ neg_ℚ (a k j *ℚ inverse (a c j))) (λ k. neg_ℚ (inverse (a c j)) *ℚ (p.x i k *ℚ a k j))
      (λ k lk. ring_ℚ (p.x i k ∷ a k j ∷ inverse (a c j) ∷ []) (v0 ⊠ negated (v1 ⊠ v2)) (negated v2 ⊠ (v0 ⊠ v1)) refl)
      ∙ sum_ℚ-scale p.columns (neg_ℚ (inverse (a c j))) (λ k. p.x i k *ℚ a k j)
      ∙ ring_ℚ (inverse (a c j) ∷ coord p a i j ∷ []) (negated v0 ⊠ v1) (negated (v1 ⊠ v0)) refl

  rising_ray : (d : Direction) → Crosses (rising_value p tau c) at a t j d → ((i : ℕ) → i < p.rows → moves p at a j d i ≡ false) → IsComplementary p tau (residual_change p (ray_up a c j)) (dual_in (rising_value p tau c) at a t)
  rising_ray d cross stuck = by d cross stuck (((crossing (rising_value p tau c) at a j d t).0 cross).0)
    where
      by : (d : Direction) → Crosses (rising_value p tau c) at a t j d → ((i : ℕ) → i < p.rows → moves p at a j d i ≡ false) → slope_part (rising_value p tau c) at a Linear j d <ℚ whole (pos 0)
          → IsComplementary p tau (residual_change p (ray_up a c j)) (dual_in (rising_value p tau c) at a t)
      by Upward cross stuck falls =
          let below : a c j <ℚ whole (pos 0) = subst (λ z. z <ℚ whole (pos 0)) (ring_ℚ (coordinate p.columns a (λ k. neg_ℚ (delta c k)) j ∷ []) (number (pos 0) ⊟ (number (pos 0) ⊞ v0)) (negated v0) refl
          ∙ ap neg_ℚ (negated_entry p tau c at a j lc) ∙ ring_ℚ (a c j ∷ []) (negated (negated v0)) v0 refl) falls in
          ray p tau (λ k. neg_ℚ (delta c k)) at a basis t j lj Upward cross.meets stuck (ray_up a c j) (inverse (neg_ℚ (a c j))) (inverse_above (neg_ℚ (a c j)) (positive_neg (a c j) below))
          (λ i. ap neg_ℚ (fit_up i) ∙ ring_ℚ (coord p a i j ∷ inverse (a c j) ∷ []) (negated (v0 ⊠ v1)) (v0 ⊠ negated v1) refl ∙ ap (λ z. coord p a i j *ℚ z) (sym (inverse-neg (a c j))))
      by Downward cross stuck falls =
          let above : whole (pos 0) <ℚ a c j = negative_neg (a c j) (subst (λ z. z <ℚ whole (pos 0)) (ring_ℚ (coordinate p.columns a (λ k. neg_ℚ (delta c k)) j ∷ []) (number (pos 0) ⊞ (number (pos 0) ⊞ v0)) v0 refl
          ∙ negated_entry p tau c at a j lc) falls) in
          ray p tau (λ k. neg_ℚ (delta c k)) at a basis t j lj Downward cross.meets stuck (ray_up a c j) (inverse (a c j)) (inverse_above (a c j) above)
          (λ i. ap neg_ℚ (fit_up i) ∙ ring_ℚ (coord p a i j ∷ inverse (a c j) ∷ []) (negated (v0 ⊠ v1)) (negated v0 ⊠ v1) refl)

  pub rising_end : (d : Direction) → Crosses (rising_value p tau c) at a t j d → ((i : ℕ) → i < p.rows → moves p at a j d i ≡ false) → IsComplementary p tau (residual_change p (ray_up a c j)) (dual_in (rising_value p tau c) at a t)
  rising_end = rising_ray

  pub falling_end : (d : Direction) → Crosses (falling_value p tau c) at a t j d → ((i : ℕ) → i < p.rows → moves p at a j d i ≡ false) → IsComplementary p tau (residual_change p (ray_down a c j)) (dual_in (falling_value p tau c) at a t)
  falling_end d cross stuck = by d cross stuck (((crossing (falling_value p tau c) at a j d t).0 cross).0)
    where
      by : (d : Direction) → Crosses (falling_value p tau c) at a t j d → ((i : ℕ) → i < p.rows → moves p at a j d i ≡ false) → slope_part (falling_value p tau c) at a Linear j d <ℚ whole (pos 0)
          → IsComplementary p tau (residual_change p (ray_down a c j)) (dual_in (falling_value p tau c) at a t)
      by Upward cross stuck falls =
          let above : whole (pos 0) <ℚ a c j = negative_neg (a c j) (subst (λ z. z <ℚ whole (pos 0)) (ring_ℚ (coordinate p.columns a (delta c) j ∷ []) (number (pos 0) ⊟ (number (pos 0) ⊞ v0)) (negated v0) refl
          ∙ ap neg_ℚ (coordinate-delta p.columns a c j lc)) falls) in
          ray p tau (delta c) at a basis t j lj Upward cross.meets stuck (ray_down a c j) (inverse (a c j)) (inverse_above (a c j) above)
          (λ i. ap neg_ℚ (fit_down i) ∙ ring_ℚ (coord p a i j ∷ inverse (a c j) ∷ []) (negated (negated (v0 ⊠ v1))) (v0 ⊠ v1) refl)
      by Downward cross stuck falls =
          let below : a c j <ℚ whole (pos 0) = subst (λ z. z <ℚ whole (pos 0)) (ring_ℚ (coordinate p.columns a (delta c) j ∷ []) (number (pos 0) ⊞ (number (pos 0) ⊞ v0)) v0 refl ∙ coordinate-delta p.columns a c j lc) falls in
          ray p tau (delta c) at a basis t j lj Downward cross.meets stuck (ray_down a c j) (inverse (neg_ℚ (a c j))) (inverse_above (neg_ℚ (a c j)) (positive_neg (a c j) below))
          (λ i. ap neg_ℚ (fit_down i) ∙ ring_ℚ (coord p a i j ∷ inverse (a c j) ∷ []) (negated (negated (v0 ⊠ v1))) (negated v0 ⊠ negated v1) refl ∙ ap (λ z. neg_ℚ (coord p a i j) *ℚ z) (sym (inverse-neg (a c j))))

  -- a slope that falls has an entry that is not 0
  entry_some : (right : ℕ → ℚ) (d : Direction) → slope_part (record { sample = p; parameter = by_weight tau; right = right }) at a Linear j d <ℚ whole (pos 0) → coordinate p.columns a right j ≢ whole (pos 0)
  entry_some right Upward falls none = falls (subst (λ z. whole (pos 0) ≤ℚ z) (ring_ℚ [] (number (pos 0)) (number (pos 0) ⊟ (number (pos 0) ⊞ number (pos 0))) refl ∙ ap (λ z. whole (pos 0) -ℚ (whole (pos 0) +ℚ z)) (sym none)) zero_le)
  entry_some right Downward falls none = falls (subst (λ z. whole (pos 0) ≤ℚ z) (ring_ℚ [] (number (pos 0)) (number (pos 0) ⊞ (number (pos 0) ⊞ number (pos 0))) refl ∙ ap (λ z. whole (pos 0) +ℚ (whole (pos 0) +ℚ z)) (sym none)) zero_le)

  -- the ray is 1 or -1 at the column
  pub rising_scaled : (d : Direction) → Crosses (rising_value p tau c) at a t j d → ray_up a c j c ≡ whole (pos 1)
  rising_scaled d cross =
      *ℚ-inverse (a c j)
      (λ none. entry_some (λ k. neg_ℚ (delta c k)) d ((crossing (rising_value p tau c) at a j d t).0 cross).0 (negated_entry p tau c at a j lc ∙ ap neg_ℚ none ∙ ring_ℚ [] (negated (number (pos 0))) (number (pos 0)) refl))

  pub falling_scaled : (d : Direction) → Crosses (falling_value p tau c) at a t j d → ray_down a c j c ≡ neg_ℚ (whole (pos 1))
  falling_scaled d cross =
      ap neg_ℚ (*ℚ-inverse (a c j)
      (λ none. entry_some (delta c) d ((crossing (falling_value p tau c) at a j d t).0 cross).0 (coordinate-delta p.columns a c j lc ∙ none)))
