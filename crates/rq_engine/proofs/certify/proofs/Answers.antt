use Rattle.std.proofs.Common.{◌≡◌, suc, [], ◌∷◌, ◌++◌, ◌∙◌, All, Some, ap, append-nil, arith, length, map, subst, sym}
use Rattle.std.specs.Vec.Iter.{into_iter_items}
use Rattle.rank_walk_model.specs.Intervals.{statement}
use Rattle.rq_engine.specs.Intervals.{HasFactors}
use Rattle.rq_engine.proofs.Certifying.{nothing_left, stated_more}
use Rattle.rq_engine.proofs.certify.proofs.Goals as goal

pub proof_of-requires : goal.proof_of-requires
proof_of-requires c =
    let steps : into_iter_items c.loop-interval.interval-iterator ≡ c.in-Some.interval ∷ into_iter_items c.next.new.self = c.in-Some.ensures.steps.0 in
    subst (All HasFactors) steps c.loop-interval.invariant.listed 0 c.in-Some.interval (omega arith)

pub loop-interval-preserved : goal.loop-interval-preserved
loop-interval-preserved c =
    let at = c.loop-interval in
    let r = c.in-Some.interval in
    let left = into_iter_items c.next.new.self in
    let steps : into_iter_items at.interval-iterator ≡ r ∷ left = c.in-Some.ensures.steps.0 in
    let added : c.add.new.self ≡ at.proofs ++ c.proof_of.result ∷ [] = c.in_ok-add.ensures.added in
    record {
      all_stated = subst (λ made. map Some made ++ map statement left ≡ map statement c.args.intervals) (sym added)
          (stated_more at.proofs r c.proof_of.result left c.proof_of.ensures ∙ subst (λ items. map Some at.proofs ++ map statement items ≡ map statement c.args.intervals) steps at.invariant.all_stated);
      listed = λ k d l. subst (All HasFactors) steps at.invariant.listed (suc k) d (omega (arith, l));
      counted = let was = at.invariant.counted in let gone = c.in-Some.ensures.steps.1 in let short = ap length steps in omega (arith, was, gone, short);
    }

pub returns : goal.returns
returns c =
    let at = c.loop-interval in
    let done : into_iter_items at.interval-iterator ≡ [] = nothing_left _ (sym at.invariant.counted ∙ c.in-None.ensures.steps.0) in
    sym (append-nil (map Some at.proofs))
    ∙ subst (λ items. map Some at.proofs ++ map statement items ≡ map statement c.args.intervals) done at.invariant.all_stated
