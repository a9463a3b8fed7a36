use Rattle.std.proofs.Common.{sym, subst}
use Rattle.gram_check.specs.Sizes.{IsSquare}
use Rattle.rank_inversion.proofs.wholes.start_in_wholes.Goals as goal

pub whole_gram-requires : goal.whole_gram-requires
whole_gram-requires g c =
    let kept = (c.in_ok-reached.ensures {u = tt}).kept in
    rw (c.as_slice-rows.ensures, c.setting.ensures, c.problem.ensures) kept.setting.wide

pub returns-in-Ok : goal.returns-in-Ok
returns-in-Ok g c =
    let h = c.in_ok-reached.ensures {u = tt} in
    let made = c.in-Ok.ensures {u = tt} in
    record {
      reached = h;
      square = subst (λ n. IsSquare n c.in-Ok.gram) (sym made.square.rows) made.square;
      gram = rw (c.as_slice-rows.ensures, c.setting.ensures, c.problem.ensures) at made.gram;
    }
