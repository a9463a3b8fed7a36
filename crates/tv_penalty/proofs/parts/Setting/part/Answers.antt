use Rattle.std.proofs.Common.{length, map, arith, inl, inr, ap, ◌∙◌}
use Rattle.std.proofs.lemmas.Result.{err_from_is_err_and}
use Rattle.tv_penalty.specs.Views.{bend_seen, setting_seen}
use Rattle.tv_penalty.specs.Smoothings.{with_columns}
use Rattle.tv_penalty.proofs.Looked.{bends_at, is_fault, is_part, is_sound, too_many}
use Rattle.tv_penalty.proofs.parts.Setting.part.Goals as goal

pub returns-then-before-columns-clause-fault : goal.returns-then-before-columns-clause-fault
returns-then-before-columns-clause-fault c =
    let found = c.in_ok-found.ensures {u = tt} in
    let same = ap length (c.with_columns-columns.ensures ∙ ap (with_columns c.args.self.now.intercept) c.deref.ensures.value) in
    inr (inl (too_many (setting_seen c.args.self.now) c.args.number c.args.before c.args.smooth.now c.in_ok-found.found.knots.items found.knots found.sound (omega (arith, same, c.if-before-columns.true))))

pub returns-in_err-bends-clause-fault : goal.returns-in_err-bends-clause-fault
returns-in_err-bends-clause-fault c =
    let p = err_from_is_err_and c.from_residual-in_err-bends.result c.from_residual-in_err-bends.ensures.1 in
    let found = c.in_ok-found.ensures {u = tt} in
    let same = ap length (c.with_columns-columns.ensures ∙ ap (with_columns c.args.self.now.intercept) c.deref.ensures.value) in
    rw (p.1, p.2)
    (is_fault (setting_seen c.args.self.now) c.args.number c.args.before c.args.smooth.now c.deref-2.result.now (c.deref-2.ensures.value ∙ found.knots) c.has_rows-penalised.result c.has_rows-penalised.ensures
    c.in_err-bends.field-0.0 found.sound (let e = ap (λ z. length (with_columns c.args.self.now.intercept z)) c.deref-2.ensures.value in omega (arith, same, e, c.if-before-columns.false)) c.in_err-bends.ensures.fault)

pub returns-clause-seen : goal.returns-clause-seen
returns-clause-seen c =
    let found = c.in_ok-found.ensures {u = tt} in
    is_part (setting_seen c.args.self.now) c.args.number c.args.before c.args.smooth.now c.in_ok-found.found.knots.items found.knots c.has_rows-penalised.result c.has_rows-penalised.ensures
    c.in_ok-found.found.cells.now (map bend_seen c.in_ok-bends.bends.items) found.cells
    (c.in_ok-bends.ensures.exact ∙ bends_at c.has_rows-penalised.result c.deref-2.ensures.value)

pub returns-clause-sound : goal.returns-clause-sound
returns-clause-sound c =
    let found = c.in_ok-found.ensures {u = tt} in
    let same = ap length (c.with_columns-columns.ensures ∙ ap (with_columns c.args.self.now.intercept) c.deref.ensures.value) in
    is_sound (setting_seen c.args.self.now) c.args.number c.args.before c.args.smooth.now c.deref-2.result.now (c.deref-2.ensures.value ∙ found.knots) c.has_rows-penalised.result c.has_rows-penalised.ensures
    found.sound (let e = ap (λ z. length (with_columns c.args.self.now.intercept z)) c.deref-2.ensures.value in omega (arith, same, e, c.if-before-columns.false)) c.in_ok-bends.ensures.fits
