-- Slopes and dual values over a parameter.
use Rattle.std.specs.Prelude.{◌≡◌, ◌↔◌, ◌⊎◌, ℕ, [], ◌∷◌, pos}
use Rattle.std.proofs.Common.{refl, sym, ap, ap₂, subst, ◌∙◌, inl, inr}
use Rattle.rational_laws.specs.Solver.{number, ◌⊞◌, ◌⊟◌, ◌⊠◌, v0, v1, v2, v3, v4}
use Rattle.rational_laws.specs.Rational.{ℚ, ◌+ℚ◌, ◌-ℚ◌, ◌*ℚ◌, whole, ◌≤ℚ◌}
use Rattle.rational_laws.proofs.RationalLaws.{ring_ℚ, ≤ℚ_trans}
use Rattle.rational_laws.proofs.RationalSumLaws.{sum_ℚ-same, sum_ℚ-zero}
use Rattle.rational_laws.specs.Matrices.{coordinate}
use Rattle.loss_model.specs.Sample.{Sample, up_cost, down_cost}
use Rattle.loss_model.specs.Vertex.{value_of_side}
use Rattle.pivot_model.specs.Perturbed.{held_coordinate}
use Rattle.pivot_model.specs.declared.direction.Direction.{Direction}
use Rattle.pivot_model.specs.declared.direction.Direction.TheVariants.{Upward, Downward}
use Rattle.pivot_model.specs.Part.TheVariants.{Constant, Linear}
use Rattle.pivot_model.specs.Basis.{side_at, basic_dual, dual_value}
use Rattle.pivot_model.specs.Duals.{HasCosts, dual, ◌<ℚ◌}
use Rattle.pivot_model.specs.Steps.{slope}
use Rattle.walk_model.specs.Families.{Parameter, by_quantile, by_weight, theta_at, part_of, Family, over_quantiles, basic_at, dual_in, slope_in, value_part, slope_part, IsOptimalIn}
use Rattle.walk_model.specs.Walks.{Crosses, HasNoBreak, IsNextBreak}
use Rattle.walk_model.proofs.Lines.{decide, line, root, rises, falls, at_root, is_root, below_after, falling_from, keeps}

module _ (f : Family) (at : ℕ → ℕ) (a : ℕ → ℕ → ℚ) where
  -- a number that is affine in theta is affine in t
  pub affine_part : (q : Parameter) (n0 n1 t : ℚ) → n0 +ℚ (n1 *ℚ theta_at q t) ≡ part_of q Constant n0 n1 +ℚ (part_of q Linear n0 n1 *ℚ t)
  affine_part by_quantile n0 n1 t = refl
  affine_part (by_weight tau) n0 n1 t = ring_ℚ (n0 ∷ n1 ∷ tau ∷ t ∷ []) (v0 ⊞ v1 ⊠ v2) ((v0 ⊞ v1 ⊠ v2) ⊞ number (pos 0) ⊠ v3) refl

  pub affine_value : (t : ℚ) (j : ℕ) → basic_at f at a t j ≡ value_part f at a Constant j +ℚ (value_part f at a Linear j *ℚ t)
  affine_value t j =
      ap (λ z. z +ℚ (coordinate f.sample.columns a f.right j *ℚ t)) (affine_part f.parameter (basic_dual f.sample at a Constant j) (basic_dual f.sample at a Linear j) t)
      ∙ ring_ℚ (value_part f at a Constant j ∷ part_of f.parameter Linear (basic_dual f.sample at a Constant j) (basic_dual f.sample at a Linear j) ∷ coordinate f.sample.columns a f.right j ∷ t ∷ [])
      ((v0 ⊞ v1 ⊠ v3) ⊞ v2 ⊠ v3) (v0 ⊞ (v1 ⊞ v2) ⊠ v3) refl

  pub affine : (t : ℚ) (j : ℕ) (d : Direction) → slope_in f at a t j d ≡ slope_part f at a Constant j d +ℚ (slope_part f at a Linear j d *ℚ t)
  affine t j Upward =
      ap₂ (λ y z. y -ℚ z) (affine_part f.parameter (f.sample.up0 (at j)) (f.sample.up1 (at j)) t) (affine_value t j)
      ∙ ring_ℚ (part_of f.parameter Constant (f.sample.up0 (at j)) (f.sample.up1 (at j)) ∷ part_of f.parameter Linear (f.sample.up0 (at j)) (f.sample.up1 (at j)) ∷ value_part f at a Constant j ∷ value_part f at a Linear j ∷ t ∷ [])
      ((v0 ⊞ v1 ⊠ v4) ⊟ (v2 ⊞ v3 ⊠ v4)) ((v0 ⊟ v2) ⊞ (v1 ⊟ v3) ⊠ v4) refl
  affine t j Downward =
      ap₂ (λ y z. y +ℚ z) (affine_part f.parameter (f.sample.down0 (at j)) (f.sample.down1 (at j)) t) (affine_value t j)
      ∙ ring_ℚ (part_of f.parameter Constant (f.sample.down0 (at j)) (f.sample.down1 (at j)) ∷ part_of f.parameter Linear (f.sample.down0 (at j)) (f.sample.down1 (at j)) ∷ value_part f at a Constant j ∷ value_part f at a Linear j ∷ t ∷ [])
      ((v0 ⊞ v1 ⊠ v4) ⊞ (v2 ⊞ v3 ⊠ v4)) ((v0 ⊞ v2) ⊞ (v1 ⊞ v3) ⊠ v4) refl

  module _ (j : ℕ) (d : Direction) where
    abbrev c : ℚ
    c = slope_part f at a Constant j d

    abbrev l : ℚ
    l = slope_part f at a Linear j d

    crossing_falls : (t : ℚ) → Crosses f at a t j d → (l <ℚ whole (pos 0)) × (t ≡ root c l)
    crossing_falls t h =
        let meets : line c l t ≡ whole (pos 0) = sym (affine t j d) ∙ h.meets in
        let down : l <ℚ whole (pos 0) = falling_from c l t meets (λ later after below. h.beyond later after (subst (λ z. whole (pos 0) ≤ℚ z) (sym (affine later j d)) below)) in
        (down, is_root c l down t meets)

    pub crosses_at : (t : ℚ) → line c l t ≡ whole (pos 0) → l <ℚ whole (pos 0) → Crosses f at a t j d
    crosses_at t meets down =
        record {
          meets = affine t j d ∙ meets;
          beyond = λ later after below. below_after c l down t later meets after (subst (λ z. whole (pos 0) ≤ℚ z) (affine later j d) below);
        }

    pub crossing : (t : ℚ) → Crosses f at a t j d ↔ ((l <ℚ whole (pos 0)) × (t ≡ root c l))
    crossing t = (crossing_falls t, λ h. crosses_at t (ap (line c l) h.1 ∙ at_root c l h.0) h.0)

  pub optimal_to : (from to t : ℚ) → IsOptimalIn f at a from → HasNoBreak f at a from to → from ≤ℚ t → t ≤ℚ to → IsOptimalIn f at a t
  optimal_to from to t stop none lower upper j d lj =
      subst (λ z. whole (pos 0) ≤ℚ z) (sym (affine t j d))
      (keeps (c j d) (l j d) from to t (subst (λ z. whole (pos 0) ≤ℚ z) (affine from j d) (stop j d lj))
      (λ down first below. none (root (c j d) (l j d)) j d lj first below (crosses_at j d (root (c j d) (l j d)) (at_root (c j d) (l j d) down) down)) lower upper)

  pub none_before : (from t : ℚ) (j : ℕ) (d : Direction) → IsNextBreak f at a from t j d → HasNoBreak f at a from t
  none_before from t j d next u k e lk lower upper c = upper (next.least u k e lk lower c)

-- over quantiles nothing is added
module _ (p : Sample) (at : ℕ → ℕ) (a : ℕ → ℕ → ℚ) where
  pub nothing_added : (j : ℕ) → coordinate p.columns a (λ k. whole (pos 0)) j ≡ whole (pos 0)
  nothing_added j =
      sum_ℚ-same p.columns (λ k. whole (pos 0) *ℚ a k j) (λ k. whole (pos 0)) (λ k lk. ring_ℚ (a k j ∷ []) (number (pos 0) ⊠ v0) (number (pos 0)) refl)
      ∙ sum_ℚ-zero p.columns

  basic_is : (t : ℚ) (j : ℕ) → basic_at (over_quantiles p) at a t j ≡ dual_value p at a t j
  basic_is t j =
      ap (λ z. dual_value p at a t j +ℚ (z *ℚ t)) (nothing_added j)
      ∙ ring_ℚ (dual_value p at a t j ∷ t ∷ []) (v0 ⊞ number (pos 0) ⊠ v1) v0 refl

  pub slope_is : (t : ℚ) (j : ℕ) (d : Direction) → slope_in (over_quantiles p) at a t j d ≡ slope p at a t j d
  slope_is t j Upward = ap (λ z. up_cost p t (at j) -ℚ z) (basic_is t j)
  slope_is t j Downward = ap (λ z. down_cost p t (at j) +ℚ z) (basic_is t j)

  pub dual_is : (t : ℚ) (i : ℕ) → dual_in (over_quantiles p) at a t i ≡ dual p at a t i
  dual_is t i = ap (λ g. value_of_side p t (held_coordinate p.columns at g) i (side_at p at a i)) same
    where
      same : basic_at (over_quantiles p) at a t ≡ dual_value p at a t
      same = λ s. λ j. basic_is t j s

-- costs between two values of the parameter
between : (c l lo hi t : ℚ) → whole (pos 0) ≤ℚ line c l lo → whole (pos 0) ≤ℚ line c l hi → lo ≤ℚ t → t ≤ℚ hi → whole (pos 0) ≤ℚ line c l t
between c l lo hi t h k lower upper = by (decide (whole (pos 0)) l)
  where
    by : (whole (pos 0) ≤ℚ l) ⊎ ¬ (whole (pos 0) ≤ℚ l) → whole (pos 0) ≤ℚ line c l t
    by (inl up) = ≤ℚ_trans (whole (pos 0)) (line c l lo) (line c l t) h (rises c l lo t up lower)
    by (inr down) = ≤ℚ_trans (whole (pos 0)) (line c l hi) (line c l t) k (falls c l down t hi upper)

above_between : (c l lo hi t : ℚ) → whole (pos 0) <ℚ line c l lo → whole (pos 0) <ℚ line c l hi → lo ≤ℚ t → t ≤ℚ hi → whole (pos 0) <ℚ line c l t
above_between c l lo hi t h k lower upper none = by (decide (whole (pos 0)) l)
  where
    by : (whole (pos 0) ≤ℚ l) ⊎ ¬ (whole (pos 0) ≤ℚ l) → ⊥
    by (inl up) = h (≤ℚ_trans (line c l lo) (line c l t) (whole (pos 0)) (rises c l lo t up lower) none)
    by (inr down) = k (≤ℚ_trans (line c l hi) (line c l t) (whole (pos 0)) (falls c l down t hi upper) none)

pub costs_between : (p : Sample) (lo hi t : ℚ) → HasCosts p lo → HasCosts p hi → lo ≤ℚ t → t ≤ℚ hi → HasCosts p t
costs_between p lo hi t h k lower upper =
    record {
      up = λ i li. between (p.up0 i) (p.up1 i) lo hi t (h.up i li) (k.up i li) lower upper;
      down = λ i li. between (p.down0 i) (p.down1 i) lo hi t (h.down i li) (k.down i li) lower upper;
      some = λ i li none. above_between (p.up0 i +ℚ p.down0 i) (p.up1 i +ℚ p.down1 i) lo hi t
          (λ z. h.some i li (subst (λ z. z ≤ℚ whole (pos 0)) (both i lo) z)) (λ z. k.some i li (subst (λ z. z ≤ℚ whole (pos 0)) (both i hi) z)) lower upper
          (subst (λ z. z ≤ℚ whole (pos 0)) (sym (both i t)) none);
    }
  where
    both : (i : ℕ) (t : ℚ) → line (p.up0 i +ℚ p.down0 i) (p.up1 i +ℚ p.down1 i) t ≡ up_cost p t i +ℚ down_cost p t i
    both i t = ring_ℚ (p.up0 i ∷ p.down0 i ∷ p.up1 i ∷ p.down1 i ∷ t ∷ []) ((v0 ⊞ v1) ⊞ (v2 ⊞ v3) ⊠ v4) ((v0 ⊞ v2 ⊠ v4) ⊞ (v1 ⊞ v3 ⊠ v4)) refl
