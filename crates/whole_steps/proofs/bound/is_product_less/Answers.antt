-- By the reduced pairs.
use Rattle.std.proofs.Common.{◌≡◌, ◌*◌, ap, ap₂, ◌∙◌}
use Rattle.std.specs.Ordering.{is_lt, nat_cmp}
use Rattle.whole_steps.proofs.Bounded.{products_less, less_than}
use Rattle.whole_steps.proofs.bound.is_product_less.Goals as goal

pub returns : goal.returns
returns c =
    let p = c.reduced-one.result in
    let q = c.reduced-two.result in
    let r = c.reduced-three.result in
    let order : c.compare.result ≡ nat_cmp (p.left * q.left * r.left) (p.right * q.right * r.right) =
    c.compare.ensures ∙ ap₂ nat_cmp (c.in-Some.ensures {u = tt}) (c.in-Some-product_of_three.ensures {u = tt}) in
    let is : c.is_lt.result ≡ is_lt (nat_cmp (p.left * q.left * r.left) (p.right * q.right * r.right)) = c.is_lt.ensures ∙ ap is_lt order in
    λ t. products_less c.args.one c.args.two c.args.three p q r c.reduced-one.ensures c.reduced-two.ensures c.reduced-three.ensures
    (less_than (p.left * q.left * r.left) (p.right * q.right * r.right) (rw (is) at t))
