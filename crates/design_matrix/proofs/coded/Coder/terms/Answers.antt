use Rattle.std.proofs.Common.{◌≡◌, ◌<◌, ◌^◌, ap, arith, length, map, subst, sym, ◌∙◌, get_or}
use Rattle.formula_parser.specs.declared.formula.Term.{Term}
use Rattle.design_matrix.specs.CodedVariable.{coded_term}
use Rattle.design_matrix.specs.Lists.{each}
use Rattle.design_matrix.specs.Views.{coded_seen}
use Rattle.design_matrix.proofs.Lengths.{short_push}
use Rattle.design_matrix.proofs.Steps.{each_all, each_told}
use Rattle.design_matrix.proofs.coded.Coder.terms.Goals as goal

pub loop-number-preserved : goal.loop-number-preserved
loop-number-preserved c =
    let P : Term → Type 0 = λ t. length t.variables < 2 ^ 32 in
    let all : length c.as_slice-terms.result.now ≡ length c.args.self.now.model.now.terms = ap length c.as_slice-terms.ensures in
    let inside : c.loop-number.number < length c.args.self.now.model.now.terms = omega (arith, c.loop-number-test.true) in
    let few : length c.index-terms-number.result.variables < 2 ^ 32 =
    subst P (sym (c.index-terms-number.is ∙ ap (λ l. get_or l c.loop-number.number c.index-terms-number.result) c.as_slice-terms.ensures))
    (c.requires.short c.loop-number.number c.index-terms-number.result inside) in
    record {
      made = each_told (λ vs. map coded_seen vs.items)
          (coded_term c.args.self.now.frame.now c.args.self.now.model.now c.args.self.now.contrasts c.args.self.now.records.now)
          _ _ _ _ _ _ c.loop-number-test.true c.index-terms-number.is c.loop-number.invariant.made c.in_ok-push.ensures.items c.in_ok-term.ensures.coded;
      short = short_push _ _ _ c.loop-number.invariant.short c.in_ok-push.ensures.items (omega (arith, c.in_ok-term.ensures.counted));
    }

pub returns-clause-coded : goal.returns-clause-coded
returns-clause-coded c =
    each_all _ _ _ _ c.loop-number-test.false c.loop-number.invariant.made
    ∙ ap (λ l. each (coded_term c.args.self.now.frame.now c.args.self.now.model.now c.args.self.now.contrasts c.args.self.now.records.now) 0 l) c.as_slice-terms.ensures
