use Rattle.std.proofs.Common.{◌≡◌, ◌∙◌, Ok, sym, rules, ap, unsigned_abs, to_z, of_z}
use mir.Syntax.{w128}
use mir.Val.{SFits}
use Rattle.std.specs.Str.Parse.{starts_with_minus, without_leading_sign}
use Rattle.std.proofs.lemmas.Result.{err_from_is_err_and}
use Rattle.frac_core.proofs.ReaderSteps.{number_err, number_ok, range_is_limit}
use Rattle.frac_core.proofs.number_reader.read_number.Goals as goal

pub returns-in_err-parts : goal.returns-in_err-parts
returns-in_err-parts g c =
    let p = err_from_is_err_and c.from_residual.result c.from_residual.ensures.1 in
    let fits : SFits w128 c.RANGE.result = search rules in
    let laws = g.met.F.Exact g.world.𝓛 g.world.𝓜 g.world.𝓡 ((λ s x. x), (λ x. x), (λ x. x), λ x. x) in
    let limit : unsigned_abs (to_z w128 (of_z w128 c.RANGE.result)) ≡ g.F.Exact.range = range_is_limit _ _ _ fits c.RANGE.ensures laws.range_is in
    rw (p.1, p.2) (number_err _ _ _ _ _ _ limit (c.split_sign-is_negative.ensures.sign ∙ ap starts_with_minus c.as_bytes.ensures.value) (c.split_sign-is_negative.ensures.body
    ∙ ap without_leading_sign c.as_bytes.ensures.value) c.in_err-parts.ensures.parts)

pub returns : goal.returns
returns g c =
    let fits : SFits w128 c.RANGE.result = search rules in
    let laws = g.met.F.Exact g.world.𝓛 g.world.𝓜 g.world.𝓡 ((λ s x. x), (λ x. x), (λ x. x), λ x. x) in
    let limit : unsigned_abs (to_z w128 (of_z w128 c.RANGE.result)) ≡ g.F.Exact.range = range_is_limit _ _ _ fits c.RANGE.ensures laws.range_is in
    number_ok _ _ _ _ _ _ limit (c.split_sign-is_negative.ensures.sign ∙ ap starts_with_minus c.as_bytes.ensures.value) (c.split_sign-is_negative.ensures.body ∙ ap without_leading_sign c.as_bytes.ensures.value) c.in_ok-parts.ensures.parts
    ∙ ap (λ v. Ok v) (sym c.value_of.ensures)
