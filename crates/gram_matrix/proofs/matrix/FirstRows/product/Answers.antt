use Rattle.std.specs.Prelude.{◌≡◌, ◌≤◌, ℕ, length, pos}
use Rattle.std.proofs.Common.{arith, ap, subst, sym, ◌∙◌, IfOk, IfErr}
use Rattle.std.proofs.lemmas.Result.{IfOk-weaker}
use Rattle.rational_laws.specs.Fraction.{rational}
use Rattle.rational_laws.specs.Rational.{ℚ, ◌+ℚ◌, ◌*ℚ◌, whole}
use Rattle.rational_laws.specs.RationalSums.{sum_ℚ}
use Rattle.loss_model.specs.declared.spill.Quantity.TheVariants.{Gram}
use Rattle.loss_model.specs.declared.spill.Site.{Site}
use Rattle.loss_model.specs.Problem.{value_at, sample}
use Rattle.loss_model.specs.Spill.{IsSpillOf, site_of}
use Rattle.gram_matrix.specs.Grams.{scaled}
use Rattle.gram_matrix.proofs.Rows.{column_is, column_size, gram_total}
use Rattle.gram_matrix.proofs.matrix.FirstRows.product.Goals as goal

pub sum_of_products-requires-clause-same : goal.sum_of_products-requires-clause-same
sum_of_products-requires-clause-same g c κs within =
    let value = g.F.Exact.value in
    let v = c.args.self.now in
    let left_is = rw (← c.index-self-k.is) at c.as_slice-left.ensures in
    let right_is = rw (← c.index-self-l.is) at c.as_slice-right.ensures in
    ap length left_is ∙ column_size value v.problem.now v.scaled.now c.args.k c.index-self-k.result c.requires.scaled c.requires.first c.index-self-k.is
    ∙ sym (ap length right_is ∙ column_size value v.problem.now v.scaled.now c.args.l c.index-self-l.result c.requires.scaled c.requires.second c.index-self-l.is)

pub sum_of_products-requires-clause-few : goal.sum_of_products-requires-clause-few
sum_of_products-requires-clause-few g c κs within =
    let value = g.F.Exact.value in
    let v = c.args.self.now in
    let left_is = rw (← c.index-self-k.is) at c.as_slice-left.ensures in
    let size : length c.as_slice-left.result.now ≡ length v.problem.now.rows = ap length left_is ∙ column_size value v.problem.now v.scaled.now c.args.k c.index-self-k.result c.requires.scaled c.requires.first c.index-self-k.is in
    let few : length v.problem.now.rows ≤ 16384 = c.requires.shaped.rows in
    let none : c.new-site.result.term ≡ 0 = ap (λ (s : Site). s.term) c.new-site.ensures in
    omega (arith, size, few, none)

pub returns-clause-exact : goal.returns-clause-exact
returns-clause-exact g c =
    let value = g.F.Exact.value in
    let v = c.args.self.now in
    let p = v.problem.now in
    let made = c.sum_of_products.result in
    let left_is = rw (← c.index-self-k.is) at c.as_slice-left.ensures in
    let right_is = rw (← c.index-self-l.is) at c.as_slice-right.ensures in
    let is : ℕ → (ℕ → ℚ) → (ℕ → ℚ) → Type 0 = λ n f h. IfOk made (λ e. rational (value e) ≡ whole (pos 0) +ℚ sum_ℚ n (λ i. f i *ℚ h i)) in
    let first : is (length c.as_slice-left.result.now) (value_at value c.as_slice-left.result.now) (value_at value c.as_slice-right.result.now) = rw c.zero.ensures at c.sum_of_products.ensures.exact in
    IfOk-weaker made _ _ (λ e h. h ∙ gram_total value p c.args.k c.args.l)
    (subst (λ n. is n (λ i. scaled (sample value p) i c.args.k) (λ i. scaled (sample value p) i c.args.l)) (ap length left_is
    ∙ column_size value p v.scaled.now c.args.k c.index-self-k.result c.requires.scaled c.requires.first c.index-self-k.is)
    (subst (λ f. is (length c.as_slice-left.result.now) f (λ i. scaled (sample value p) i c.args.l)) (ap (value_at value) left_is
    ∙ column_is value p v.scaled.now c.args.k c.index-self-k.result c.requires.scaled c.requires.first c.index-self-k.is)
    (subst (λ h. is (length c.as_slice-left.result.now) (value_at value c.as_slice-left.result.now) h) (ap (value_at value) right_is
    ∙ column_is value p v.scaled.now c.args.l c.index-self-l.result c.requires.scaled c.requires.second c.index-self-l.is) first)))

pub returns-clause-spill : goal.returns-clause-spill
returns-clause-spill g c =
    let value = g.F.Exact.value in
    let v = c.args.self.now in
    let p = v.problem.now in
    let made = c.sum_of_products.result in
    let left_is = rw (← c.index-self-k.is) at c.as_slice-left.ensures in
    let right_is = rw (← c.index-self-l.is) at c.as_slice-right.ensures in
    let is : ℕ → (ℕ → ℚ) → (ℕ → ℚ) → Type 0 = λ n f h. IfErr made (IsSpillOf value g.F.Exact.range (site_of Gram c.args.k c.args.l 0) (record { first = whole (pos 0); count = n; left = f; right = h })) in
    let first : is (length c.as_slice-left.result.now) (value_at value c.as_slice-left.result.now) (value_at value c.as_slice-right.result.now) = rw (c.new-site.ensures, c.zero.ensures) at c.sum_of_products.ensures.spilled in
    subst (λ n. is n (λ i. scaled (sample value p) i c.args.k) (λ i. scaled (sample value p) i c.args.l)) (ap length left_is
    ∙ column_size value p v.scaled.now c.args.k c.index-self-k.result c.requires.scaled c.requires.first c.index-self-k.is)
    (subst (λ f. is (length c.as_slice-left.result.now) f (λ i. scaled (sample value p) i c.args.l)) (ap (value_at value) left_is
    ∙ column_is value p v.scaled.now c.args.k c.index-self-k.result c.requires.scaled c.requires.first c.index-self-k.is)
    (subst (λ h. is (length c.as_slice-left.result.now) (value_at value c.as_slice-left.result.now) h) (ap (value_at value) right_is
    ∙ column_is value p v.scaled.now c.args.l c.index-self-l.result c.requires.scaled c.requires.second c.index-self-l.is) first))
