use Rattle.std.proofs.Common.{◌≡◌, ◌∙◌, ◌+◌, ◌-◌, [], ap, arith, drop, refl, sym}
use Rattle.csv.specs.Records.{fields_of}
use Rattle.data_frame.specs.Columns.{columns_from}
use Rattle.data_frame.specs.Reading.{left_of}
use Rattle.data_frame.proofs.Extending.{all_counted, all_taken, no_rows, one_more_row, split_at}
use Rattle.data_frame.proofs.Faults.{first_good, good_is_early, none_bad}
use Rattle.data_frame.proofs.rows.read_rows.Goals as goal

pub loop-records-init : goal.loop-records-init
loop-records-init c = record {
  reading = c.requires.reading;
  small = c.requires.small;
  left = refl;
  columns = c.in_ok-columns.ensures.empty ∙ sym (no_rows c.args.first _);
  many = c.in_ok-columns.ensures.many;
  within = omega arith;
  early = omega arith;
  faults = refl;
}

pub returns-then-not-branch : goal.returns-then-not-branch
returns-then-not-branch c =
    let inv = c.loop-records.invariant in
    let none = rw c.if-not-branch.true at c.in_ok-read_row.ensures in
    let all = left_of c.args.reader.now in
    let end : drop c.loop-records.records all ≡ [] = sym inv.left ∙ none in (
      inv.faults ∙ none_bad c.args.wanted (c.loop-records.records + 1) _ none,
      inv.columns ∙ ap (λ rows. columns_from rows c.args.first (c.args.wanted - c.args.first)) (all_taken all c.loop-records.records end),
      all_counted all c.loop-records.records inv.within end,
    )

pub loop-records-preserved : goal.loop-records-preserved
loop-records-preserved c =
    let inv = c.loop-records.invariant in
    let found = rw c.if-not-branch.false at c.in_ok-read_row.ensures in
    let takes = found.0 in
    let split = split_at (left_of c.args.reader.now) c.loop-records.records _ _ (sym inv.left ∙ takes.next) in
    let early = good_is_early c.args.wanted (c.loop-records.records + 1) _ found.1 in
    record {
      reading = takes.reading;
      small = omega (arith, takes.shorter, inv.small);
      left = sym split.back;
      columns = c.in_ok-add_row.ensures.added
          ∙ rw (inv.columns, split.front) (one_more_row _ (fields_of c.read_row.new.row) c.args.first _);
      many = c.in_ok-add_row.ensures.many ∙ inv.many;
      within = omega (arith, split.within);
      early = early;
      faults = inv.faults ∙ first_good c.args.wanted (c.loop-records.records + 1) _ _ _ takes.next found.1;
    }
