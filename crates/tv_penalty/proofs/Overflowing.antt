-- Operations that overflow, and those that don't.
use Rattle.std.proofs.Common.{◌≡◌, ◌^◌, ◌-◌, ◌+◌, ◌<◌, ◌++◌, ℕ, zero, suc, List, append_assoc, append-nil, inl, inr, arith, [], ◌∷◌, pos, negsuc, Less, refl, sym, ap, ap₂, subst, ◌∙◌}
use Rattle.std.specs.List.{flat_map, range_with_len}
use Rattle.rational_laws.specs.Order.{cmp_ℚ}
use Rattle.rational_laws.proofs.OrderLaws.{cmp_ℚ-Less}
use Rattle.rational_laws.specs.Rational.{ℚ, ◌+ℚ◌, ◌-ℚ◌, ◌≤ℚ◌, inverse, neg_ℚ, whole}
use Rattle.rational_laws.proofs.RationalLaws.{≤ℚ_refl, ring_by_ℚ}
use Rattle.rational_laws.specs.Solver.{number, ◌⊟◌, v0, v1}
use Rattle.frac_core.specs.Overflow.{Overflows as OverflowsAt}
use Rattle.frac_core.specs.declared.exact.OpKind.{OpKind}
use Rattle.frac_core.specs.declared.exact.OpKind.TheVariants.{Sub}
use Rattle.frac_core.specs.declared.frac128.Frac128.{Frac128}
use Rattle.frac_core.specs.Values.{exact, value}
use Rattle.frac_core.proofs.Values.{same_number}
use Rattle.loss_model.specs.declared.spill.Site.{Site}
use Rattle.loss_model.specs.declared.spill.Spill.{Spill}
use Rattle.tv_penalty.specs.Operations.{IsSpillOf, NoneOverflows, SitedOperation, Overflows, OverflowsFirst, knot_site, operation_at}
use Rattle.tv_penalty.specs.Smoothings.{bend_of}
use Rattle.tv_penalty.specs.Views.{bend_seen}

-- where the operation on these numbers doesn't overflow, none of these operands does
pub fits : (site : Site) (l r : Frac128) (left right : ℚ) → exact l ≡ left → exact r ≡ right → (OverflowsAt (2 ^ 127 - 1) site.kind (value l) (value r) → ⊥) → Overflows (record { site = site; left = left; right = right }) → ⊥
fits site l r left right el er not o =
    let a : o.0.left ≡ l = same_number o.0.left l (o.1.is_left ∙ sym el) in
    let b : o.0.right ≡ r = same_number o.0.right r (o.1.is_right ∙ sym er) in
    not (subst (λ z. OverflowsAt (2 ^ 127 - 1) site.kind (value l) (value z)) b (subst (λ z. OverflowsAt (2 ^ 127 - 1) site.kind (value z) (value o.0.right)) a o.1.overflows))

-- the spill of an operation on these numbers, which overflows
pub spilt : (site : Site) (l r : Frac128) (left right : ℚ) (s : Spill Frac128) → exact l ≡ left → exact r ≡ right → s ≡ record { site = site; left = l; right = r } → OverflowsAt (2 ^ 127 - 1) site.kind (value l) (value r)
    → IsSpillOf (record { site = site; left = left; right = right }) s
spilt site l r left right s el er is over =
    subst (IsSpillOf (record { site = site; left = left; right = right })) (sym is)
    (record { named = refl_site; is_left = el; is_right = er; overflows = over })
  where
    refl_site : site ≡ site
    refl_site = λ i. site

-- at a site of a knot of a smooth
module _ (site : Site) (smooth knot term : ℕ) (kind : OpKind) (is : site ≡ knot_site smooth knot term Sub) (left right left' right' : ℚ) (l : left ≡ left') (r : right ≡ right') where
  same_operation : operation_at site kind left right ≡ record { site = knot_site smooth knot term kind; left = left'; right = right' }
  same_operation = λ i. record { site = record (is i) { kind = kind }; left = l i; right = r i }

  pub fits_at : (Overflows (operation_at site kind left right) → ⊥) → Overflows (record { site = knot_site smooth knot term kind; left = left'; right = right' }) → ⊥
  fits_at not o = not (subst Overflows (sym same_operation) o)

  pub spilt_at : (s : Spill Frac128) → IsSpillOf (operation_at site kind left right) s → IsSpillOf (record { site = knot_site smooth knot term kind; left = left'; right = right' }) s
  spilt_at s h = subst (λ op. IsSpillOf op s) same_operation h

-- a gap between ascending knots isn't 0
pub gap_nonzero : (below at_knot gap : Frac128) → cmp_ℚ (exact below) (exact at_knot) ≡ Less → exact gap ≡ exact at_knot -ℚ exact below → exact gap ≡ whole (pos 0) → ⊥
gap_nonzero below at_knot gap rising is none =
    (cmp_ℚ-Less (exact below) (exact at_knot)).0 rising
    (subst (λ z. z ≤ℚ exact below) (ring_by_ℚ (exact at_knot ∷ exact below ∷ []) v1 v0 (number (negsuc 0)) (v0 ⊟ v1) (number (pos 0)) refl (sym is ∙ none)) (≤ℚ_refl (exact below)))

-- the bend by its three numbers
pub made : (x y z below at_knot above : Frac128) → exact below ≡ inverse (exact y -ℚ exact x) → exact above ≡ inverse (exact z -ℚ exact y) → exact at_knot ≡ neg_ℚ (exact below +ℚ exact above)
    → bend_seen (record { below = below; at_knot = at_knot; above = above }) ≡ bend_of (exact x) (exact y) (exact z)
made x y z below at_knot above b a m = cc (m ∙ ap₂ (λ u v. neg_ℚ (u +ℚ v)) b a)

-- ---- along knots

pub fits_append : (xs ys : List SitedOperation) → NoneOverflows xs → NoneOverflows ys → NoneOverflows (xs ++ ys)
fits_append [] ys h k = k
fits_append (x ∷ xs) ys h k = (h.0, fits_append xs ys h.1 k)

first_here : (xs ys : List SitedOperation) (s : Spill Frac128) → OverflowsFirst xs s → OverflowsFirst (xs ++ ys) s
first_here [] ys s h = absurd h
first_here (x ∷ xs) ys s (inl h) = inl h
first_here (x ∷ xs) ys s (inr h) = inr (h.0, first_here xs ys s h.1)

first_behind : (xs ys : List SitedOperation) (s : Spill Frac128) → NoneOverflows xs → OverflowsFirst ys s → OverflowsFirst (xs ++ ys) s
first_behind [] ys s h k = k
first_behind (x ∷ xs) ys s h k = inr (h.0, first_behind xs ys s h.1 k)

module _ (f : ℕ → List SitedOperation) where
  range_split : (a k n : ℕ) → k < n → flat_map f (range_with_len a n) ≡ flat_map f (range_with_len a k) ++ (f (a + k) ++ flat_map f (range_with_len (a + k + 1) (n - (k + 1))))
  range_split a zero zero l = absurd (omega arith)
  range_split a zero (suc n) l = cc (
    ap f (let e : a ≡ a + zero = omega arith in e),
    ap (λ m. flat_map f (range_with_len m n)) (let e : a + 1 ≡ a + zero + 1 = omega arith in e),
    ap (λ m. flat_map f (range_with_len (a + zero + 1) m)) (let e : n ≡ suc n - (zero + 1) = omega arith in e),
  )
  range_split a (suc k) zero l = absurd (omega arith)
  range_split a (suc k) (suc n) l =
      ap (λ z. f a ++ z) (range_split (a + 1) k n (omega arith))
      ∙ sym (append_assoc (f a) (flat_map f (range_with_len (a + 1) k)) (f (a + 1 + k) ++ flat_map f (range_with_len (a + 1 + k + 1) (n - (k + 1)))))
      ∙ ap (λ m. (f a ++ flat_map f (range_with_len (a + 1) k)) ++ (f m ++ flat_map f (range_with_len (m + 1) (n - (k + 1))))) (let e : a + 1 + k ≡ a + suc k = omega arith in e)
      ∙ ap (λ m. (f a ++ flat_map f (range_with_len (a + 1) k)) ++ (f (a + suc k) ++ flat_map f (range_with_len (a + suc k + 1) m))) (let e : n - (k + 1) ≡ suc n - (suc k + 1) = omega arith in e)

  pub range_more : (k : ℕ) → flat_map f (range_with_len 0 (k + 1)) ≡ flat_map f (range_with_len 0 k) ++ f k
  range_more k =
      range_split 0 k (k + 1) (omega arith)
      ∙ ap (λ m. flat_map f (range_with_len 0 k) ++ (f (0 + k) ++ flat_map f (range_with_len (0 + k + 1) m))) (let e : (k + 1) - (k + 1) ≡ 0 = omega arith in e)
      ∙ ap (λ z. flat_map f (range_with_len 0 k) ++ z) (append-nil (f (0 + k)))
      ∙ ap (λ m. flat_map f (range_with_len 0 k) ++ f m) (let e : 0 + k ≡ k = omega arith in e)

  -- nothing overflows at one more
  pub fits_more : (k : ℕ) → NoneOverflows (flat_map f (range_with_len 0 k)) → NoneOverflows (f k) → NoneOverflows (flat_map f (range_with_len 0 (k + 1)))
  fits_more k h here = subst NoneOverflows (sym (range_more k)) (fits_append (flat_map f (range_with_len 0 k)) (f k) h here)

  -- the first that overflows is at k
  pub first_at : (k n : ℕ) (s : Spill Frac128) → k < n → NoneOverflows (flat_map f (range_with_len 0 k)) → OverflowsFirst (f k) s → OverflowsFirst (flat_map f (range_with_len 0 n)) s
  first_at k n s l h here =
      let e : 0 + k ≡ k = omega arith in
      subst (λ ops. OverflowsFirst ops s) (sym (range_split 0 k n l))
      (first_behind (flat_map f (range_with_len 0 k)) (f (0 + k) ++ flat_map f (range_with_len (0 + k + 1) (n - (k + 1)))) s h
      (first_here (f (0 + k)) (flat_map f (range_with_len (0 + k + 1) (n - (k + 1)))) s (subst (λ m. OverflowsFirst (f m) s) (sym e) here)))
