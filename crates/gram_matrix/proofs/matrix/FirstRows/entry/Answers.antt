use Rattle.std.specs.Prelude.{◌≡◌, ◌<◌, List, length, get_or}
use Rattle.std.proofs.Common.{arith, ap, ◌∙◌}
use Rattle.gram_matrix.proofs.Rows.{entry_above}
use Rattle.gram_matrix.proofs.matrix.FirstRows.entry.Goals as goal

pub returns-then-l-k-clause-exact : goal.returns-then-l-k-clause-exact
returns-then-l-k-clause-exact g c =
    let value = g.F.Exact.value in
    let v = c.args.self.now in
    let same : c.as_slice.result.now ≡ c.index-self-l.result.x = rw (← c.index-self-l.is) at c.as_slice.ensures in
    let read = c.index-as_slice-k.is ∙ ap (λ (xs : List g.row.F.Denot). get_or xs (length v.rows.now) c.index-as_slice-k.result) same in
    let before : c.args.l < length v.rows.now = omega (arith, c.if-l-k.true) in
    entry_above value v.problem.now v.rows.now (length v.rows.now) c.args.l c.index-self-l.result c.index-as_slice-k.result c.requires.rows before c.requires.more c.index-self-l.is read
