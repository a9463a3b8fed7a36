-- Sums of products, by their steps.
use Rattle.std.specs.Prelude.{◌≡◌, ◌↔◌, ℕ, ◌+◌, ◌<◌, true, List, [], ◌∷◌, length, get_or, Result, Ok, Err, IsErr, IfErr, pos}
use Rattle.std.specs.Option.{option_map_or}
use Rattle.std.proofs.Common.{refl, sym, ap, subst, ◌∙◌, add-one}
use Rattle.std.proofs.lemmas.Option.{slice_get_read}
use Rattle.rational_laws.specs.Solver.{number, ◌⊞◌, ◌⊠◌, v0, v1, v2}
use Rattle.rational_laws.specs.Rational.{ℚ, ◌+ℚ◌, ◌*ℚ◌, whole}
use Rattle.rational_laws.proofs.RationalLaws.{ring_ℚ}
use Rattle.rational_laws.specs.RationalSums.{sum_ℚ}
use Rattle.rational_laws.specs.Fraction.{Fraction, rational}
use Rattle.loss_model.specs.declared.spill.Site.{Site}
use Rattle.loss_model.specs.declared.spill.Spill.{Spill}
use Rattle.loss_model.specs.declared.sites.Sign.{Sign}
use Rattle.loss_model.specs.Sign.{signed}
use Rattle.loss_model.specs.Problem.{value_at}
use Rattle.loss_model.specs.Spill.{Products, partial_sum, IsTermSpill, IsSpillOf}

-- the value at a place where an item stands
pub value_at-item : {F : Type 0} (value : F → Fraction) (xs : List F) (k : ℕ) (x : F) → k < length xs → x ≡ get_or xs k x → value_at value xs k ≡ rational (value x)
value_at-item value xs k x l e = ap (λ o. option_map_or (λ x. rational (value x)) o (whole (pos 0))) (slice_get_read xs (length xs) k x refl l e)

-- the value of an item that was read
pub value_read : {F : Type 0} (value : F → Fraction) (xs : List F) (i : ℕ) (x : F) → i < length xs → x ≡ get_or xs i x → rational (value x) ≡ value_at value xs i
value_read value xs i x within is = sym (value_at-item value xs i x within is)

pub partial_sum-zero : (t : Products) → t.first ≡ partial_sum t 0
partial_sum-zero t = ring_ℚ (t.first ∷ []) v0 (v0 ⊞ number (pos 0)) refl

pub partial_sum-next : (t : Products) (k : ℕ) (sum product next : ℚ) → sum ≡ partial_sum t k → product ≡ t.left k *ℚ t.right k → next ≡ sum +ℚ product → next ≡ partial_sum t (k + 1)
partial_sum-next t k sum product next before now e =
    e ∙ ap (λ z. z +ℚ product) before ∙ ap (λ z. partial_sum t k +ℚ z) now
    ∙ ring_ℚ (t.first ∷ sum_ℚ k (λ k. t.left k *ℚ t.right k) ∷ (t.left k *ℚ t.right k) ∷ []) ((v0 ⊞ v1) ⊞ v2) (v0 ⊞ (v1 ⊞ v2)) refl
    ∙ ap (λ n. partial_sum t n) (sym (add-one k))

-- the product of two items, the left one taken by the sign
pub product_is : {F : Type 0} (value : F → Fraction) (sign : Sign) (xs ys : List F) (k : ℕ) (x y : F) (factor product : ℚ) → k < length xs → k < length ys → x ≡ get_or xs k x → y ≡ get_or ys k y
    → factor ≡ signed sign (rational (value x)) → product ≡ factor *ℚ rational (value y) → product ≡ signed sign (value_at value xs k) *ℚ value_at value ys k
product_is value sign xs ys k x y factor product l m e f h p =
    p ∙ ap (λ z. z *ℚ rational (value y)) (h ∙ ap (signed sign) (sym (value_at-item value xs k x l e)))
    ∙ ap (λ z. signed sign (value_at value xs k) *ℚ z) (sym (value_at-item value ys k y m f))

-- the answer of an operation at a site, where its refusal is a spill
pub refusal : {T E O : Type 0} (r : Result T E) (x : E) (P : E → Type 0) → IfErr r (λ s. s ≡ x) → (IsErr r ↔ O) → (O → P x) → IfErr r P
refusal (Ok v) x P h o f = tt
refusal (Err e) x P h o f = subst P (sym h) (f (o.0 (refl {a = true})))

-- a spill of one sum is that of an equal sum
pub same_spill : {F : Type 0} (value : F → Fraction) (range : ℕ) (site other : Site) (t u : Products) (r : Result F (Spill F)) → site ≡ other → t ≡ u → IfErr r (IsSpillOf value range site t) → IfErr r (IsSpillOf value range other u)
same_spill value range site other t u r e f h =
    subst (λ w. IfErr r (IsSpillOf value range other w)) f (subst (λ o. IfErr r (IsSpillOf value range o t)) e h)

-- a spill of a term is that of one of equal parts
pub same_term : {F : Type 0} (value : F → Fraction) (range : ℕ) (site : Site) (s : Spill F) (first next left by right of : ℚ) → first ≡ next → left ≡ by → right ≡ of → IsTermSpill value range site first left right s
    → IsTermSpill value range site next by of s
same_term value range site s first next left by right of e f g h =
    subst (λ z. IsTermSpill value range site z by of s) e (subst (λ z. IsTermSpill value range site first z of s) f (subst (λ z. IsTermSpill value range site first left z s) g h))

-- a product of which a factor is 0 adds nothing
pub plus_zero_left : (x a b : ℚ) → a ≡ whole (pos 0) → x ≡ x +ℚ (a *ℚ b)
plus_zero_left x a b h = ring_ℚ (x ∷ b ∷ []) v0 (v0 ⊞ number (pos 0) ⊠ v1) refl ∙ sym (ap (λ z. x +ℚ (z *ℚ b)) h)

pub plus_zero_right : (x a b : ℚ) → b ≡ whole (pos 0) → x ≡ x +ℚ (a *ℚ b)
plus_zero_right x a b h = ring_ℚ (x ∷ a ∷ []) v0 (v0 ⊞ v1 ⊠ number (pos 0)) refl ∙ sym (ap (λ z. x +ℚ (a *ℚ z)) h)

-- a spill of the product after the first k is one of them all
pub step_spill : {F : Type 0} (value : F → Fraction) (range : ℕ) (site : Site) (t : Products) (k n : ℕ) (first left right : ℚ) (s : Spill F) → n ≡ site.term + k → k < t.count → first ≡ partial_sum t k → left ≡ t.left k → right ≡ t.right k
    → IsTermSpill value range (record site { term = n }) first left right s → IsSpillOf value range site t s
step_spill value range site t k n first left right s terms within before l r h =
    record {
      at_product = (
        k,
        within,
        subst (λ (o : Site). IsTermSpill value range o (partial_sum t k) (t.left k) (t.right k) s) (ap (λ m. record site { term = m }) terms)
            (same_term value range (record site { term = n }) s first (partial_sum t k) left (t.left k) right (t.right k) before l r h),
      );
    }
