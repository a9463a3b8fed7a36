use Rattle.std.proofs.Common.{rules, ◌≡◌, ◌<◌, length, unsigned_abs, pos, get_or, sym, subst, arith}
use Rattle.gram_check.proofs.Numbers.{projects}
use Rattle.gram_check.proofs.Products.{zero_read}
use Rattle.gram_check.proofs.equations.are_factors.Goals as goal

pub returns : goal.returns
returns c told =
    let f = c.args.factors.now in
    let none : unsigned_abs c.index-as_slice-column.result ≡ 0 = search rules in
    let is : c.index-as_slice-column.result ≡ get_or f.numerators c.args.column c.index-as_slice-column.result = search rules in
    let own : get_or f.numerators c.args.column (pos 0) ≡ pos 0 = zero_read f.numerators c.args.column c.index-as_slice-column.result c.requires.column is none in
    let all : c.loop-k.k ≡ length c.args.gram.now = omega arith in
    projects c.args.gram.now c.args.column f.numerators (pos f.denominator) c.requires.size c.requires.column own
    (λ k lk other. c.loop-k.invariant k (subst (λ n. k < n) (sym all) lk) other)
