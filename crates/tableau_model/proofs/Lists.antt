-- Items of a list that grows.
use Rattle.std.specs.Prelude.{◌≡◌, ◌≢◌, ℕ, zero, suc, ◌+◌, ◌<◌, Bool, true, false, ◌==◌, List, [], ◌∷◌, ◌++◌, length, slice_get, slice_index, get_or, Option, pos}
use Rattle.std.specs.Option.{option_map_or}
use Rattle.std.proofs.Common.{arith, refl, sym, ap, ◌∙◌}
use Rattle.std.proofs.lemmas.Option.{slice_get_read}
use borrow.Author.Tests.{eqb-true, eqb-false}
use Rattle.rational_laws.specs.Fraction.{Fraction, rational}
use Rattle.rational_laws.specs.Rational.{ℚ, whole}
use Rattle.rational_laws.proofs.Lists.{pushed_last}
use Rattle.loss_model.specs.Problem.{value_at}
use Rattle.tableau_model.specs.Rows.{HasValueAt}

pub get_front : {X : Type 0} (xs ys : List X) (k : ℕ) → k < length xs → slice_get (xs ++ ys) k ≡ slice_get xs k
get_front [] ys k l = absurd (omega arith)
get_front (x ∷ xs) ys zero l = refl
get_front (x ∷ xs) ys (suc k) l = get_front xs ys k (omega arith)

module _ {F : Type 0} (value : F → Fraction) where
  read : Option F → ℚ
  read o = option_map_or (λ x. rational (value x)) o (whole (pos 0))

  pub value_front : (xs : List F) (x : F) (k : ℕ) → k < length xs → value_at value (xs ++ x ∷ []) k ≡ value_at value xs k
  unfolding read
  value_front xs x k l = ap read (get_front xs (x ∷ []) k l)

  pub value_end : (xs : List F) (x : F) → value_at value (xs ++ x ∷ []) (length xs) ≡ rational (value x)
  unfolding read
  value_end xs x = ap read (pushed_last xs x)

  -- an item that was read
  pub value_read : (xs : List F) (i : ℕ) (x : F) → i < length xs → x ≡ get_or xs i x → value_at value xs i ≡ rational (value x)
  unfolding read
  value_read xs i x within is = ap read (slice_get_read xs (length xs) i x refl within is)

  -- one more value of the sorted basis
  pub values_more : (basis : List ℕ) (values : List F) (sorted : List ℕ) (basic next : List F) (x : F) (n j : ℕ) → length basic ≡ n
      → ((k : ℕ) → k < n → HasValueAt value basis values sorted basic k) → next ≡ basic ++ x ∷ [] → j < length basis → j < length values
      → x ≡ get_or values j x → slice_index basis j ≡ slice_index sorted n → (k : ℕ) → k < n + 1 → HasValueAt value basis values sorted next k
  values_more basis values sorted basic next x n j size each grown lj lv is holds k lk = by (k == n) refl
    where
      by : (t : Bool) → (k == n) ≡ t → HasValueAt value basis values sorted next k
      by true e =
          let here : k ≡ n = eqb-true k n e in
          record {
            position = j;
            within = lj;
            holds = holds ∙ ap (slice_index sorted) (sym here);
            same = ap (λ xs. value_at value xs k) grown ∙ ap (value_at value (basic ++ x ∷ [])) (here ∙ sym size) ∙ value_end basic x ∙ sym (value_read values j x lv is);
          }
      by false e =
          let other : k ≢ n = eqb-false k n e in
          let old = each k (omega arith) in
          record {
            position = old.position;
            within = old.within;
            holds = old.holds;
            same = ap (λ xs. value_at value xs k) grown ∙ value_front basic x k (omega (arith, size)) ∙ old.same;
          }
