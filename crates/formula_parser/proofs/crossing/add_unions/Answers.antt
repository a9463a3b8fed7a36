use Rattle.std.proofs.Common.{◌∙◌, ◌≡◌, ◌<◌, ◌+◌, ap, arith, drop, get_or, length, map}
use Rattle.formula_parser.specs.Terms.{union, with_term}
use Rattle.formula_parser.specs.declared.crossing.TheConstants.{MOST_TERMS}
use Rattle.formula_parser.proofs.Unions.{too_many, union_added}
use Rattle.formula_parser.proofs.crossing.add_unions.Goals as goal

pub returns-then-as_slice-gt-MOST_TERMS : goal.returns-then-as_slice-gt-MOST_TERMS
returns-then-as_slice-gt-MOST_TERMS c =
    let i = c.loop-second.second-index in
    let d = c.second-item.result in
    let e : c.in_ok-found.found ≡ with_term c.loop-second.found (union c.args.first.now (get_or c.args.right.now i d)) =
    c.in_ok-found.ensures ∙ ap (with_term c.loop-second.found) (c.in-Ok.ensures ∙ ap (union c.args.first.now) (c.as_slice.ensures ∙ c.second-item.is)) in
    let more : MOST_TERMS < length c.in_ok-found.found = omega (arith, c.if-as_slice-gt-MOST_TERMS.true, ap length c.as_slice-in-loop-second.ensures) in
    too_many c.in_ok-found.found (map (union c.args.first.now) (drop (i + 1) c.args.right.now)) _ MOST_TERMS more
    (union_added c.args.first.now c.args.right.now c.loop-second.found c.in_ok-found.found i d _ c.loop-second-test.true e c.loop-second.invariant)
