-- Lists that are filled item by item.
use Rattle.std.specs.Prelude.{◌≡◌, ℕ, ◌+◌, ◌<◌, List, [], ◌∷◌, ◌++◌, length, slice_get, Option, Some, unwrap_or, pos}
use Rattle.std.specs.Option.{option_map_or}
use Rattle.std.proofs.Common.{arith, sym, ap, ◌∙◌, below_more, length-append}
use Rattle.rational_laws.specs.Fraction.{Fraction, rational}
use Rattle.rational_laws.specs.Rational.{ℚ, whole}
use Rattle.rational_laws.proofs.Lists.{pushed_before, pushed_last}
use Rattle.loss_model.specs.declared.vertex.Side.{Side}
use Rattle.loss_model.specs.declared.vertex.Side.TheVariants.{Basic}
use Rattle.loss_model.specs.Problem.{value_at}
use Rattle.loss_model.specs.Sides.{side_in}

-- there are n items, and what is read at each place is what is wanted there
abbrev pub IsFilled : {X Y : Type 0} → (List X → ℕ → Y) → (ℕ → Y) → List X → ℕ → Type 0
IsFilled read want made n = record { size : length made ≡ n; each : (i : ℕ) → i < n → read made i ≡ want i }

-- one item more, of any items
filled_more : {X Y : Type 0} (read : Option X → Y) (want : ℕ → Y) (made next : List X) (x : X) (n : ℕ) → next ≡ made ++ x ∷ [] → IsFilled (λ xs i. read (slice_get xs i)) want made n → read (Some x) ≡ want n
    → IsFilled (λ xs i. read (slice_get xs i)) want next (n + 1)
filled_more {X} read want made next x n is before here =
    let at : ℕ → List X → Option X = λ i xs. slice_get xs i in
    record {
      size = omega (arith, ap length is, length-append made (x ∷ []), before.size);
      each = below_more (λ i. read (slice_get next i) ≡ want i) n
          (λ i l. ap read (ap (at i) is ∙ pushed_before made x i (omega (arith, l, before.size))) ∙ before.each i l)
          (ap read (ap (at n) is ∙ ap (slice_get (made ++ x ∷ [])) (sym before.size) ∙ pushed_last made x) ∙ here);
    }

-- one value more
pub values_more : {F : Type 0} (value : F → Fraction) {want : ℕ → ℚ} {n : ℕ} (made next : List F) (x : F) → next ≡ made ++ x ∷ [] → IsFilled (value_at value) want made n
    → rational (value x) ≡ want n → IsFilled (value_at value) want next (n + 1)
values_more value {want} {n} made next x = filled_more (λ o. option_map_or (λ x. rational (value x)) o (whole (pos 0))) want made next x n

-- one side more
pub sides_more : {want : ℕ → Side} {n : ℕ} (made next : List Side) (s : Side) → next ≡ made ++ s ∷ [] → IsFilled side_in want made n → s ≡ want n → IsFilled side_in want next (n + 1)
sides_more {want} {n} made next s = filled_more (λ o. unwrap_or o Basic) want made next s n
