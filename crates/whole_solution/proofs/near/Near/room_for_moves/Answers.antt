-- A coefficient more, and both sums together.
use Rattle.std.proofs.Common.{rules, ◌≡◌, ◌+◌, ◌*◌, ◌+ℤ◌, ◌*ℤ◌, get_or, length, pos, unsigned_abs, to_z, of_z, sym, ap, subst, ◌∙◌, arith}
use Rattle.std.specs.Prelude.{slice_index}
use mir.Syntax.{w128}
use Rattle.rational_laws.specs.Rational.{whole}
use Rattle.frac_core.proofs.Signs.{unsigned_abs-signed}
use Rattle.wide_int.specs.Numbers.{joined, number_of}
use Rattle.whole_solution.specs.Far.{move_of, moves}
use Rattle.whole_solution.proofs.Within.{halves_more, middles_more, most_is}
use Rattle.whole_solution.proofs.near.Near.room_for_moves.Goals as goal

pub loop-k-preserved : goal.loop-k-preserved
loop-k-preserved c =
    let n = c.args.self.now in
    let coef = c.args.coef.now in
    let d = c.args.determinant in
    let k = c.loop-k.k in
    let middle = c.loop-k.middle in
    let rest = c.loop-k.rest in
    let moved = c.in_ok-moved.moved in
    let within = c.in_ok-within.within in
    let ed : to_z w128 (of_z w128 d) ≡ d = search rules in
    let before = rw (ed) at c.loop-k.invariant in
    let own : number_of moved ≡ move_of n k (get_or coef k (pos 0)) d = search rules in
    let product : number_of c.in_ok-at_middle.at_middle ≡ number_of moved *ℤ get_or n.ranges.middles k (pos 0) = search rules in
    let sum : number_of c.in_ok-middle.middle ≡ number_of middle +ℤ number_of c.in_ok-at_middle.at_middle = search rules in
    let part : joined within.low within.high ≡ joined moved.size.low moved.size.high * slice_index n.ranges.halves k = search rules in
    let sums : joined c.in_ok-rest.rest.low c.in_ok-rest.rest.high ≡ joined rest.low rest.high + joined within.low within.high = search rules in
    let size : unsigned_abs (move_of n k (get_or coef k (pos 0)) d) ≡ joined moved.size.low moved.size.high =
    ap unsigned_abs (sym own) ∙ unsigned_abs-signed moved.negative (joined moved.size.low moved.size.high) in
    rw (ed) (record {
      middle = middles_more n.ranges (λ k. move_of n k (get_or coef k (pos 0)) d) k (number_of middle) (number_of c.in_ok-middle.middle)
          (omega (arith, c.requires.middles, c.requires.size, c.loop-k-test.true)) before.middle (sum ∙ ap (λ z. number_of middle +ℤ z) (product ∙ ap (λ z. z *ℤ get_or n.ranges.middles k (pos 0)) own));
      rest = halves_more n.ranges (λ k. move_of n k (get_or coef k (pos 0)) d) k (joined rest.low rest.high) (joined c.in_ok-rest.rest.low c.in_ok-rest.rest.high)
          before.rest (sums ∙ ap (λ m. joined rest.low rest.high + m) (part ∙ ap (λ m. m * slice_index n.ranges.halves k) (sym size)));
    })

pub returns : goal.returns
returns c =
    let n = c.args.self.now in
    let coef = c.args.coef.now in
    let d = c.args.determinant in
    let middle = c.loop-k.middle in
    let rest = c.loop-k.rest in
    let sum = c.in_ok-sum.sum in
    let ed : to_z w128 (of_z w128 d) ≡ d = search rules in
    let at_end = rw (ed) at c.loop-k.invariant in
    let both : joined sum.low sum.high ≡ joined rest.low rest.high + joined middle.size.low middle.size.high = search rules in
    let all : c.loop-k.k ≡ length coef = omega (arith, c.loop-k-test.false, c.loop-k.auto.k-end, c.requires.short) in
    subst (λ k. whole (pos (joined sum.low sum.high)) ≡ moves n coef d k) all
    (most_is n.ranges (λ k. move_of n k (get_or coef k (pos 0)) d) c.loop-k.k (joined rest.low rest.high) (joined sum.low sum.high) (number_of middle) at_end.rest at_end.middle
    (both ∙ ap (λ m. joined rest.low rest.high + m) (sym (unsigned_abs-signed middle.negative (joined middle.size.low middle.size.high)))))
