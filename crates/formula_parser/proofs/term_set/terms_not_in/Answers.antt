use Rattle.std.proofs.Common.{◌∙◌, ◌≡◌, ◌++◌, ◌∷◌, [], ap, get_or}
use Rattle.formula_parser.specs.Terms.{Term, minus}
use Rattle.formula_parser.proofs.Unions.{term_left}
use Rattle.formula_parser.proofs.term_set.terms_not_in.Goals as goal

pub loop-term-preserved : goal.loop-term-preserved
loop-term-preserved c =
    let l = c.loop-term in
    let d = c.term-item.result in
    let copy = c.in_ok-copy.ensures.items ∙ c.as_slice.ensures ∙ c.term-item.is in
    let e : c.in_ok-left.left ≡ l.left ++ minus (get_or c.args.terms.now l.term-index d ∷ []) c.args.other.now =
    c.in_ok-left.ensures ∙ ap (λ (t : Term). l.left ++ minus (t ∷ []) c.args.other.now) copy in
    term_left c.args.terms.now c.args.other.now l.left c.in_ok-left.left _ l.term-index d c.loop-term-test.true e l.invariant
