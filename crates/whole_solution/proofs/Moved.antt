-- Totals as rows change sides one after the other.
use Rattle.std.specs.Prelude.{◌≡◌, ℕ, ◌+◌, ◌<◌, ℤ, [], ◌∷◌, length, pos, ◌+ℤ◌, ◌*ℤ◌, neg_ℤ}
use Rattle.std.proofs.Common.{arith, refl, sym, ap, ap₂, subst, ◌∙◌}
use Rattle.rational_laws.specs.Solver.{number, negated, ◌⊞◌, ◌⊟◌, ◌⊠◌, v0, v1, v2, v3, v4, v5}
use Rattle.rational_laws.specs.Rational.{ℚ, ◌+ℚ◌, ◌-ℚ◌, ◌*ℚ◌, neg_ℚ, whole}
use Rattle.rational_laws.proofs.RationalLaws.{ring_ℚ, whole-add, whole-mul}
use Rattle.rational_laws.proofs.RationalSumLaws.{sum_ℚ-next, sum_ℚ-same, sum_ℚ-zero}
use Rattle.rational_laws.proofs.WholeNumbers.{whole-neg}
use Rattle.loss_model.specs.declared.vertex.Side.{Side}
use Rattle.loss_model.specs.declared.vertex.Side.TheVariants.{Basic}
use Rattle.loss_model.specs.Sample.{Sample}
use Rattle.basis_model.specs.declared.part.Part.{Part}
use Rattle.basis_model.specs.declared.part.Part.TheVariants.{Constant, Linear}
use Rattle.basis_model.specs.Basis.{bound_part}
use Rattle.rational_laws.specs.WholeLists.{whole_at}
use Rattle.whole_rows.specs.declared.rows.WholeRow.{WholeRow}
use Rattle.whole_solution.specs.declared.totals.Totals.{Totals}
use Rattle.whole_solution.specs.declared.totals.Weights.{Weights}
use Rattle.whole_solution.specs.Weighing.{bound_of, weighed, AreTotals, AreRaised, AreTurned}

-- a whole number raised by a product, in ℚ
pub raised_whole : (n t w x : ℤ) → n ≡ t +ℤ (w *ℤ x) → whole n ≡ whole t +ℚ (whole x *ℚ whole w)
raised_whole n t w x e =
    ap whole e ∙ whole-add t (w *ℤ x) ∙ ap (λ z. whole t +ℚ z) (whole-mul w x ∙ ring_ℚ (whole w ∷ whole x ∷ []) (v0 ⊠ v1) (v1 ⊠ v0) refl)

-- by a product with 0 it is not raised
pub raised_none : (t x w : ℚ) → whole (pos 0) ≡ w → t ≡ t +ℚ (x *ℚ w)
raised_none t x w none = ring_ℚ (t ∷ x ∷ []) v0 (v0 ⊞ (v1 ⊠ number (pos 0))) refl ∙ ap (λ w. t +ℚ (x *ℚ w)) none

-- the same of a difference
pub difference_whole : (n a b : ℤ) (x y : ℚ) → n ≡ a +ℤ neg_ℤ b → whole a ≡ x → whole b ≡ y → whole n ≡ x -ℚ y
difference_whole n a b x y e is_x is_y =
    ap whole e ∙ whole-add a (neg_ℤ b) ∙ ap₂ (λ x y. x +ℚ y) is_x (whole-neg b ∙ ap neg_ℚ is_y) ∙ ring_ℚ (x ∷ y ∷ []) (v0 ⊞ negated v1) (v0 ⊟ v1) refl

-- sides that were read
pub turned_read : (r : WholeRow ℤ) (o o' n n' : Side) (before after : Weights ℤ) → o ≡ o' → n ≡ n' → AreTurned r o n before after → AreTurned r o' n' before after
turned_read r o o' n n' before after eo en h = subst (λ (s : Side). AreTurned r s n' before after) eo (subst (λ (s : Side). AreTurned r o s before after) en h)

module _ (p : Sample) (old new : ℕ → Side) (part : Part) where
  -- what the first n rows weigh more on the new sides
  abbrev pub gained : (ℕ → ℚ) → ℕ → ℚ
  gained f n = weighed p new part f n -ℚ weighed p old part f n

  -- the totals after the first n rows have changed sides
  pub record AreMoved (before after : Totals ℤ) (n : ℕ) : Type 0 where
    pub size : length after.columns ≡ length before.columns
    pub columns : (k : ℕ) → k < length before.columns → whole_at after.columns k ≡ whole_at before.columns k +ℚ gained (λ i. p.x i k) n
    pub response : whole after.response ≡ whole before.response +ℚ gained p.y n

  none : (b : ℚ) (f : ℕ → ℚ) → b ≡ b +ℚ gained f 0
  none b f = ring_ℚ (b ∷ []) v0 (v0 ⊞ (number (pos 0) ⊟ number (pos 0))) refl

  pub moved_none : (before : Totals ℤ) → AreMoved before before 0
  moved_none before = record { size = refl; columns = λ k lk. none (whole_at before.columns k) (λ i. p.x i k); response = none (whole before.response) p.y }

  module _ (i : ℕ) where
    abbrev n : ℚ
    n = bound_part p part i (new i)

    abbrev o : ℚ
    o = bound_part p part i (old i)

    -- one row more
    more : (b t x w : ℚ) (f : ℕ → ℚ) → t ≡ b +ℚ gained f i → x ≡ f i → w ≡ n -ℚ o → t +ℚ (x *ℚ w) ≡ b +ℚ gained f (i + 1)
    more b t x w f h is weight =
        ap₂ (λ t m. t +ℚ m) h (ap₂ (λ x w. x *ℚ w) is weight)
        ∙ ring_ℚ (b ∷ weighed p new part f i ∷ weighed p old part f i ∷ f i ∷ n ∷ o ∷ []) ((v0 ⊞ (v1 ⊟ v2)) ⊞ (v3 ⊠ (v4 ⊟ v5))) (v0 ⊞ ((v1 ⊞ v3 ⊠ v4) ⊟ (v2 ⊞ v3 ⊠ v5))) refl
        ∙ ap₂ (λ x y. b +ℚ (x -ℚ y)) (sym (sum_ℚ-next i (λ i. f i *ℚ bound_part p part i (new i)))) (sym (sum_ℚ-next i (λ i. f i *ℚ bound_part p part i (old i))))

    pub moved_more : (before after next : Totals ℤ) (r : WholeRow ℤ) → ((k : ℕ) → whole_at r.x k ≡ p.x i k) → whole r.y ≡ p.y i → ((side : Side) → bound_of r part side ≡ bound_part p part i side)
        → AreMoved before after i → AreRaised r (bound_of r part (new i) -ℚ bound_of r part (old i)) after next → AreMoved before next (i + 1)
    moved_more before after next r x y bound m raised =
        let weight = ap₂ (λ n o. n -ℚ o) (bound (new i)) (bound (old i)) in
        record {
          size = raised.size ∙ m.size;
          columns = λ k lk. raised.columns k (omega (arith, m.size, lk)) ∙ more (whole_at before.columns k) (whole_at after.columns k) (whole_at r.x k) _ (λ i. p.x i k) (m.columns k lk) (x k) weight;
          response = raised.response ∙ more (whole before.response) (whole after.response) (whole r.y) _ p.y m.response y weight;
        }

    same : (t b : ℚ) (f : ℕ → ℚ) → new i ≡ old i → t ≡ b +ℚ gained f i → t ≡ b +ℚ gained f (i + 1)
    same t b f e h =
        ring_ℚ (t ∷ f i ∷ []) v0 (v0 ⊞ v1 ⊠ number (pos 0)) refl
        ∙ more b t (f i) (whole (pos 0)) f h refl (sym (ap (λ (side : Side). bound_part p part i side -ℚ o) e ∙ ring_ℚ (o ∷ []) (v0 ⊟ v0) (number (pos 0)) refl))

    -- a row that keeps its side
    pub moved_same : (before after : Totals ℤ) → new i ≡ old i → AreMoved before after i → AreMoved before after (i + 1)
    moved_same before after e m =
        record {
          size = m.size;
          columns = λ k lk. same (whole_at after.columns k) (whole_at before.columns k) (λ i. p.x i k) e (m.columns k lk);
          response = same (whole after.response) (whole before.response) p.y e m.response;
        }

  moved : (b t : ℚ) (f : ℕ → ℚ) → b ≡ weighed p old part f p.rows → t ≡ b +ℚ gained f p.rows → t ≡ weighed p new part f p.rows
  moved b t f before h =
      h ∙ ap (λ b. b +ℚ gained f p.rows) before ∙ ring_ℚ (weighed p old part f p.rows ∷ weighed p new part f p.rows ∷ []) (v0 ⊞ (v1 ⊟ v0)) v1 refl

  pub moved_all : (before after : Totals ℤ) → AreTotals p old part before → AreMoved before after p.rows → AreTotals p new part after
  moved_all before after are m =
      record {
        size = m.size ∙ are.size;
        columns = λ k lk. moved (whole_at before.columns k) (whole_at after.columns k) (λ i. p.x i k) (are.columns k lk) (m.columns k (omega (arith, are.size, lk)));
        response = moved (whole before.response) (whole after.response) p.y are.response m.response;
      }

-- rows none of which is counted weigh nothing
pub weighed_none : (p : Sample) (part : Part) (f : ℕ → ℚ) (n : ℕ) → weighed p (λ i. Basic) part f n ≡ whole (pos 0)
weighed_none p part f n =
    sum_ℚ-same n (λ i. f i *ℚ bound_part p part i Basic) (λ i. whole (pos 0)) (λ i li. by part i) ∙ sum_ℚ-zero n
  where
    by : (part : Part) (i : ℕ) → f i *ℚ bound_part p part i Basic ≡ whole (pos 0)
    by Constant i = ring_ℚ (f i ∷ []) (v0 ⊠ number (pos 0)) (number (pos 0)) refl
    by Linear i = ring_ℚ (f i ∷ []) (v0 ⊠ number (pos 0)) (number (pos 0)) refl

pub none_weigh : (p : Sample) (part : Part) (t : Totals ℤ) → length t.columns ≡ p.columns → ((k : ℕ) → k < p.columns → whole_at t.columns k ≡ whole (pos 0)) → t.response ≡ pos 0 → AreTotals p (λ i. Basic) part t
none_weigh p part t size columns response =
    record {
      size = size;
      columns = λ k lk. columns k lk ∙ sym (weighed_none p part (λ i. p.x i k) p.rows);
      response = ap whole response ∙ sym (weighed_none p part p.y p.rows);
    }
