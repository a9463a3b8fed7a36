-- A row isn't passed before itself, and is before one whose ratio is surely greater.
use Rattle.std.proofs.Common.{rules, ◌≡◌, ◌&&◌, true, false, refl, sym, ap, ap₂, subst, ◌∙◌}
use Rattle.whole_steps.specs.Lines.{IsMover, IsMoverAt, is_moving, comes_before}
use Rattle.whole_steps.proofs.Later.{later}
use Rattle.whole_steps.proofs.Passed.{not_itself}
use Rattle.whole_steps.proofs.passing.Descent.is_passed.Goals as goal

pub returns-then-mover-target : goal.returns-then-mover-target
returns-then-mover-target c =
    let d = c.args.self.now in
    let l = d.full.line in
    let row = c.args.row in
    let mover = c.in-Some.mover in
    let made : IsMover l mover × (mover.row ≡ row) = subst (IsMoverAt l row) c.in-Some.is c.mover_at.ensures in
    let same : mover.row ≡ c.args.target.row = search rules in
    let moving : is_moving l row ≡ true = subst (λ i. is_moving l i ≡ true) made.1 made.0.moves in
    let before : comes_before l row c.args.target.row ≡ false = ap (comes_before l row) (sym same ∙ made.1) ∙ not_itself d c.requires.descent row in
    sym (ap₂ (λ m b. m && b) moving before)

pub returns-then-is_surely_less : goal.returns-then-is_surely_less
returns-then-is_surely_less c =
    let l = c.args.self.now.full.line in
    let made = c.in-Some.ensures {u = tt} in
    let before = later l c.requires.descent.full.line c.in-Some.mover c.args.target made.0 c.requires.target (c.if-is_surely_less.ensures {u = tt} refl) in
    sym (ap₂ (λ m b. m && b) (ap (is_moving l) (sym made.1) ∙ made.0.moves) (ap (λ i. comes_before l i c.args.target.row) (sym made.1) ∙ before))
