-- Products with one more factor.
use Rattle.std.proofs.Common.{◌≡◌, ◌<◌, ℕ, ◌+◌, List, [], ◌∷◌, ◌++◌, length, map, take, pos, refl, sym, ap, ◌∙◌, arith, get_or, Bool, true, false, leb, leb-true, leb-false, ◌^◌, ◌-◌}
use Rattle.std.proofs.lemmas.List.{get_or-map, length-map, take_more}
use Rattle.rational_laws.specs.Rational.{ℚ, ◌*ℚ◌, whole}
use Rattle.frac_core.specs.declared.frac128.Frac128.{Frac128}
use Rattle.frac_core.specs.Values.{exact, value}
use Rattle.design_matrix.specs.Products.{FitUpTo, IsValue, product, product_onto}
use Rattle.loss_model.specs.declared.spill.Site.{Site}
use Rattle.loss_model.specs.declared.spill.Spill.{Spill}
use Rattle.loss_model.specs.Spill.{IsOperation}
use Rattle.design_matrix.proofs.Steps.{map_map}

onto_push : (x : ℚ) (ys : List ℚ) (y : ℚ) → product_onto x (ys ++ (y ∷ [])) ≡ product_onto x ys *ℚ y
onto_push x [] y = refl
onto_push x (z ∷ zs) y = onto_push (x *ℚ z) zs y

pub product_more : (xs : List ℚ) (i : ℕ) (d : ℚ) → i < length xs → product (take (i + 1) xs) ≡ product (take i xs) *ℚ get_or xs i d
product_more xs i d h = ap product (take_more xs i d h) ∙ onto_push (whole (pos 1)) (take i xs) (get_or xs i d)

pub fits_none : (xs : List ℚ) (one : Frac128) → exact one ≡ whole (pos 1) → FitUpTo xs 0
fits_none xs one e t h = (one, e ∙ ap (λ n. product (take n xs)) (let z : 0 ≡ t = omega arith in z))

pub fits_more : (xs : List ℚ) (i : ℕ) (v : Frac128) → exact v ≡ product (take (i + 1) xs) → FitUpTo xs i → FitUpTo xs (i + 1)
fits_more xs i v e f t h = at (leb t i) refl
  where
    at : (b : Bool) → leb t i ≡ b → IsValue (product (take t xs))
    at true q = f t (leb-true t i q)
    at false q = let k : i < t = leb-false t i q in (v, e ∙ ap (λ n. product (take n xs)) (let z : i + 1 ≡ t = omega arith in z))

factor_at : {X Y : Type 0} (told : X → Y) (h : Y → ℚ) (ps : List X) (i : ℕ) (p : X) (d : ℚ) → i < length ps → p ≡ get_or ps i p
    → get_or (map h (map told ps)) i d ≡ h (told p)
factor_at told h ps i p d k e =
    ap (λ l. get_or l i d) (map_map h told ps)
    ∙ get_or-map (λ x. h (told x)) ps i p d k
    ∙ ap (λ x. h (told x)) (sym e)

pub length_maps : {X Y : Type 0} (told : X → Y) (h : Y → ℚ) (ps : List X) → length (map h (map told ps)) ≡ length ps
length_maps told h ps = length-map (map told ps) h ∙ length-map ps told

pub product_step : {X Y : Type 0} (told : X → Y) (h : Y → ℚ) (ps : List X) (i : ℕ) (p : X) (old new factor : ℚ) → i < length ps → p ≡ get_or ps i p
    → old ≡ product (take i (map h (map told ps))) → factor ≡ h (told p) → new ≡ old *ℚ factor → new ≡ product (take (i + 1) (map h (map told ps)))
product_step told h ps i p old new factor k e f g q =
    q
    ∙ ap (λ x. x *ℚ factor) f
    ∙ ap (λ x. product (take i (map h (map told ps))) *ℚ x) (g ∙ sym (factor_at told h ps i p factor k e))
    ∙ sym (product_more (map h (map told ps)) i factor (let n : length (map h (map told ps)) ≡ length ps = length_maps told h ps in omega arith))

pub spilt : {X Y : Type 0} (told : X → Y) (h : Y → ℚ) (ps : List X) (i : ℕ) (p : X) (site : Site) (left right : ℚ) (s : Spill Frac128)
    → i < length ps → p ≡ get_or ps i p → left ≡ product (take i (map h (map told ps))) → right ≡ h (told p)
    → IsOperation value (2 ^ 127 - 1) site left right s → IsOperation value (2 ^ 127 - 1) site (product (take i (map h (map told ps)))) (get_or (map h (map told ps)) i (whole (pos 0))) s
spilt told h ps i p site left right s k e f g o =
    record { named = o.named; is_left = o.is_left ∙ f; is_right = o.is_right ∙ g ∙ sym (factor_at told h ps i p (whole (pos 0)) k e); overflows = o.overflows }
