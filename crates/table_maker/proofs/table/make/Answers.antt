-- One more record; and how long they all are.
use Rattle.std.proofs.Common.{◌≡◌, ◌++◌, ◌≤◌, ◌^◌, length, subst, sym, ◌+◌, ◌*◌, arith, ap, ◌∙◌}
use Rattle.std.specs.List.{flat_map, range_with_len}
use Rattle.table_maker.specs.Tables.{number_after, header_line, record_of}
use Rattle.table_maker.proofs.Sizes.{table_length}
use Rattle.table_maker.proofs.Steps.{one_more}
use Rattle.table_maker.proofs.table.make.Goals as goal

pub loop-preserved : goal.loop-preserved
loop-preserved c =
    let number = c.args.number in
    let columns = c.args.columns in
    let made = c.loop.counter * (columns + 1) in (
      one_more (record_of number columns) 0 c.loop.counter c.loop.counter (header_line columns) _ _ (omega arith) c.loop.invariant.0
          (c.in_ok-put_record.ensures.text number made c.loop.invariant.1),
      c.in_ok-put_record.ensures.number number made c.loop.invariant.1 ∙ ap (number_after number) (omega arith),
    )

pub returns-clause-short : goal.returns-clause-short
returns-clause-short c =
    let number = c.args.number in
    let columns = c.args.columns in
    let all : c.loop.counter ≡ c.args.rows = omega (arith, c.loop-test.false, c.loop.auto.counter-end) in
    let made = c.loop.invariant.0 ∙ ap (λ n. header_line columns ++ flat_map (record_of number columns) (range_with_len 0 n)) all in
    subst (λ t. length t ≤ 2 ^ 26) (sym made) (table_length number c.args.rows columns c.requires.rows c.requires.columns)
