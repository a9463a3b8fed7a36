use Rattle.std.proofs.Common.{◌∙◌, ◌≡◌, ◌<◌, ap, get_or, length, map, subst}
use Rattle.formula_parser.specs.Terms.{Term, plus, union}
use Rattle.formula_parser.specs.declared.crossing.TheConstants.{MOST_TERMS}
use Rattle.formula_parser.proofs.Unions.{crossed_too_many, term_crossed}
use Rattle.formula_parser.proofs.crossing.add_crossed.Goals as goal

pub returns-in-None : goal.returns-in-None
returns-in-None c =
    let l = c.loop-first in
    let d = c.first-item.result in
    let is = c.as_slice.ensures ∙ c.first-item.is in
    let more = rw c.in-None.is at c.in_ok-add_unions.ensures in
    let many = subst (λ (t : Term). MOST_TERMS < length (plus l.found (map (union t) c.args.right.now))) is more in
    crossed_too_many c.args.left.now c.args.right.now l.found l.first-index d _ MOST_TERMS c.loop-first-test.true many l.invariant

pub loop-first-preserved : goal.loop-first-preserved
loop-first-preserved c =
    let l = c.loop-first in
    let d = c.first-item.result in
    let is = c.as_slice.ensures ∙ c.first-item.is in
    let found = rw c.in-Some.is at c.in_ok-add_unions.ensures in
    let e : c.in-Some.more ≡ plus l.found (map (union (get_or c.args.left.now l.first-index d)) c.args.right.now) =
    found ∙ ap (λ (t : Term). plus l.found (map (union t) c.args.right.now)) is in
    term_crossed c.args.left.now c.args.right.now l.found c.in-Some.more l.first-index d _ c.loop-first-test.true e l.invariant
