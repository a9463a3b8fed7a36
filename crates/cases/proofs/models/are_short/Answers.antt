use Rattle.std.proofs.Common.{◌≡◌, ◌<◌, ◌^◌, All, List, ap, arith, length, subst, take_all}
use Rattle.std.proofs.lemmas.List.Elements.{All-more}
use Rattle.formula_parser.specs.declared.formula.Term.{Term}
use Rattle.cases.proofs.models.are_short.Goals as goal

pub loop-term-preserved : goal.loop-term-preserved
loop-term-preserved c =
    let P : Term → Type 0 = λ t. length t.variables < 2 ^ 32 in
    let same : length c.as_slice.result.now ≡ length c.term-item.result.variables = ap length c.as_slice.ensures in
    let few : length c.term-item.result.variables < 2 ^ 32 = omega arith in
    All-more P c.args.terms.now _ c.term-item.result c.loop-term-test.true c.loop-term.invariant (subst P c.term-item.is few)

pub returns : goal.returns
returns c said =
    let Q : List Term → Type 0 = λ l. All (λ t. length t.variables < 2 ^ 32) l in
    subst Q (take_all _ _ c.loop-term-test.false) c.loop-term.invariant
