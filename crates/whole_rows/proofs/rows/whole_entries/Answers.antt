-- An entry more.
use Rattle.std.proofs.Common.{rules, ◌≡◌, ℕ, List, ◌++◌, ◌∷◌, [], ◌<◌, length, get_or, arith, refl, sym, ap, ap₂, ◌∙◌, ◌+◌}
use Rattle.std.specs.Prelude.{ℤ, Option, pos}
use Rattle.std.specs.Option.{option_map_or}
use Rattle.std.proofs.lemmas.List.{length_push}
use Rattle.std.proofs.lemmas.Option.{slice_get-get_or}
use Rattle.rational_laws.specs.Rational.{ℚ, ◌*ℚ◌, whole}
use Rattle.loss_model.specs.Problem.{value_at}
use Rattle.loss_model.proofs.Products.{value_read}
use Rattle.basis_inverse.proofs.Lists.{read_more}
use Rattle.whole_rows.specs.declared.factor.Factor.{Factor}
use Rattle.whole_rows.specs.Wholes.{factor_at, factor_value}
use Rattle.whole_rows.proofs.rows.whole_entries.Goals as goal

factor_read : (factors : List (Factor ℤ)) (k : ℕ) (d : Factor ℤ) → k < length factors → factor_value (get_or factors k d) ≡ factor_at factors k
factor_read factors k d inside = sym (ap (λ (o : Option (Factor ℤ)). option_map_or factor_value o (whole (pos 1))) (slice_get-get_or factors k d inside))

pub loop-k-preserved : goal.loop-k-preserved
loop-k-preserved g c =
    let value = g.F.Exact.value in
    let made = c.loop-k.made in
    let k = c.loop-k.k in
    let entry = c.in_ok-entry.entry in
    let factors = c.args.factors.now in
    let scaled : ℕ → ℚ = λ k. factor_at factors k *ℚ value_at value c.args.x.now k in
    let grown : c.push.new.self ≡ made ++ entry ∷ [] = search rules in
    let inside : k < length factors = omega (arith, c.requires.same, c.loop-k-test.true) in
    let is : whole entry ≡ scaled k = (c.in_ok-entry.ensures {u = tt})
    ∙ ap₂ ◌*ℚ◌ (factor_read factors k _ inside) (value_read value c.args.x.now k c.index-x-k.result c.loop-k-test.true c.index-x-k.is) in
    let before = c.loop-k.invariant in
    rw (grown) (record {
      size = length_push made entry ∙ ap (λ m. m + 1) before.size;
      each = read_more whole made (made ++ entry ∷ []) entry k scaled refl before.size before.each is;
    })
