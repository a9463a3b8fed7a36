-- The residual and the costs of a row by the row itself.
use Rattle.std.specs.Prelude.{◌≡◌, ℕ, ◌<◌, List, [], ◌∷◌, length, get_or, slice_get, Option, Some, Result, IfOk, IfErr, pos}
use Rattle.std.specs.Option.{option_map_or}
use Rattle.std.proofs.Common.{refl, sym, ap, subst, ◌∙◌}
use Rattle.std.proofs.lemmas.Option.{slice_get_read}
use Rattle.std.proofs.lemmas.List.Elements.{All-get_or}
use Rattle.std.proofs.lemmas.Result.{IfOk-weaker}
use Rattle.rational_laws.specs.Solver.{number, negated, ◌⊞◌, ◌⊟◌, ◌⊠◌, v0, v1}
use Rattle.rational_laws.specs.Rational.{ℚ, ◌+ℚ◌, ◌*ℚ◌, neg_ℚ, whole}
use Rattle.rational_laws.proofs.RationalLaws.{ring_ℚ}
use Rattle.rational_laws.proofs.RationalSumLaws.{sum_ℚ-same, sum_ℚ-scale}
use Rattle.rational_laws.specs.Fraction.{Fraction, rational}
use Rattle.loss_model.specs.declared.problem.Row.{Row}
use Rattle.loss_model.specs.declared.problem.Problem.{Problem}
use Rattle.loss_model.specs.declared.sites.Sign.TheVariants.{Minus}
use Rattle.loss_model.specs.Sample.{Sample, fitted, residual}
use Rattle.loss_model.specs.Problem.{value_at, of_row, sample, IsWellShaped}
use Rattle.loss_model.specs.Spill.{Products, total, residual_products}
use Rattle.loss_model.specs.Sign.{products_of}

-- the row that was read at a place stands there
pub row_is : {F : Type 0} (rows seen : List (Row F)) (i : ℕ) (d : Row F) → seen ≡ rows → i < length rows → d ≡ get_or seen i d → slice_get rows i ≡ Some d
row_is rows seen i d e l h = slice_get_read rows (length rows) i d refl l (h ∙ ap (λ r. get_or r i d) e)

-- it has an entry per column
pub width_is : {F : Type 0} (p : Problem F) (seen : List (Row F)) (i : ℕ) (d : Row F) → IsWellShaped p → seen ≡ p.rows → i < length p.rows → d ≡ get_or seen i d → length d.x ≡ p.columns
width_is p seen i d shaped e l h =
    subst (λ r. length r.x ≡ p.columns) (sym (h ∙ ap (λ r. get_or r i d) e)) (All-get_or (λ r. length r.x ≡ p.columns) p.rows i d l shaped.entries)

-- the products sum to the residual
pub residual-total : (p : Sample) (b : ℕ → ℚ) (i : ℕ) → total (residual_products p b i) ≡ residual p b i
residual-total p b i =
    ap (λ z. p.y i +ℚ z)
    (sum_ℚ-same p.columns (λ k. neg_ℚ (p.x i k) *ℚ b k) (λ k. neg_ℚ (whole (pos 1)) *ℚ (p.x i k *ℚ b k))
    (λ k l. ring_ℚ (p.x i k ∷ b k ∷ []) (negated v0 ⊠ v1) (negated (number (pos 1)) ⊠ (v0 ⊠ v1)) refl)
    ∙ sum_ℚ-scale p.columns (neg_ℚ (whole (pos 1))) (λ k. p.x i k *ℚ b k))
    ∙ ring_ℚ (p.y i ∷ fitted p b i ∷ []) (v0 ⊞ negated (number (pos 1)) ⊠ v1) (v0 ⊟ v1) refl

module _ {F : Type 0} (value : F → Fraction) (p : Problem F) (cs : List F) (i : ℕ) where
  -- the same products by the row, if there is one
  by_row : Option (Row F) → ℕ → Products
  by_row o n =
      record {
        first = option_map_or (λ r. rational (value r.y)) o (whole (pos 0));
        count = n;
        left = λ k. neg_ℚ (option_map_or (λ r. value_at value r.x k) o (whole (pos 0)));
        right = value_at value cs;
      }

  pub residual_products-row : (d : Row F) → slice_get p.rows i ≡ Some d → length d.x ≡ p.columns → products_of value d.y Minus d.x cs ≡ residual_products (sample value p) (value_at value cs) i
  unfolding by_row
  residual_products-row d h e = ap (λ n. by_row (Some d) n) e ∙ ap (λ o. by_row o p.columns) (sym h)

-- the products that are summed for a residual
pub products_at : {F : Type 0} (value : F → Fraction) (p : Problem F) (cs : List F) (i : ℕ) (seen : List (Row F)) (d : Row F) (xs : List F) → IsWellShaped p → seen ≡ p.rows → i < length p.rows → d ≡ get_or seen i d → xs ≡ d.x
    → products_of value d.y Minus xs cs ≡ residual_products (sample value p) (value_at value cs) i
products_at value p cs i seen d xs shaped e l h f =
    ap (λ xs. products_of value d.y Minus xs cs) f ∙ residual_products-row value p cs i d (row_is p.rows seen i d e l h) (width_is p seen i d shaped e l h)

pub residual_exact : {F E : Type 0} (value : F → Fraction) (p : Problem F) (cs : List F) (i : ℕ) (t : Products) (r : Result F E) → t ≡ residual_products (sample value p) (value_at value cs) i
    → IfOk r (λ x. rational (value x) ≡ total t) → IfOk r (λ x. rational (value x) ≡ residual (sample value p) (value_at value cs) i)
residual_exact value p cs i t r e h =
    IfOk-weaker r (λ x. rational (value x) ≡ total t) (λ x. rational (value x) ≡ residual (sample value p) (value_at value cs) i)
    (λ x same. same ∙ ap total e ∙ residual-total (sample value p) (value_at value cs) i) h

-- what is computed of two numbers of a row is computed of those of the sample
module _ {F E : Type 0} (value : F → Fraction) (rows : List (Row F)) (i : ℕ) (d : Row F) (at : slice_get rows i ≡ Some d) (constant linear : Row F → ℚ) (t : ℚ) (r : Result F E) where
  pub cost_exact : IfOk r (λ x. rational (value x) ≡ constant d +ℚ (linear d *ℚ t)) → IfOk r (λ x. rational (value x) ≡ of_row rows constant i +ℚ (of_row rows linear i *ℚ t))
  cost_exact h =
      subst (λ o. IfOk r (λ x. rational (value x) ≡ option_map_or constant o (whole (pos 0)) +ℚ (option_map_or linear o (whole (pos 0)) *ℚ t))) (sym at) h

  pub cost_spilled : (P : ℚ → ℚ → E → Type 0) → IfErr r (P (constant d) (linear d)) → IfErr r (P (of_row rows constant i) (of_row rows linear i))
  cost_spilled P h = subst (λ o. IfErr r (P (option_map_or constant o (whole (pos 0))) (option_map_or linear o (whole (pos 0))))) (sym at) h
