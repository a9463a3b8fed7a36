use Rattle.std.proofs.Common.{◌∙◌, ◌++◌, List, ap, arith, inl, inr, sym, append_assoc}
use Rattle.std.proofs.lemmas.List.{append-nil, drop_all}
use Rattle.std.proofs.lemmas.Result.{err_from_is_err_and}
use Rattle.csv.specs.Records.{fields_of}
use Rattle.data_frame.specs.Records.{Row, Text}
use Rattle.data_frame.proofs.Naming.{first_name_bad, first_name_good, named, next_field, no_names, too_wide_header}
use Rattle.data_frame.proofs.header.read_names.Goals as goal

pub returns-then-len-gt-MOST_COLUMNS : goal.returns-then-len-gt-MOST_COLUMNS
returns-then-len-gt-MOST_COLUMNS c = inr (too_wide_header (fields_of c.args.header.now) c.requires (omega arith))

pub returns-in_err-add_name : goal.returns-in_err-add_name
returns-in_err-add_name c =
    let p = err_from_is_err_and c.from_residual.result c.from_residual.ensures.1 in
    let h : Row = fields_of c.args.header.now in
    rw (p.1, p.2) (elim c.in_err-add_name.ensures [
      | inl memory ↦ inl memory
      | inr bad ↦ inr (named h c.requires (omega arith) ∙ c.loop-column.invariant.faults
          ∙ first_name_bad c.loop-column.column c.loop-column.texts _ _ _ _ (next_field h c.loop-column.column (omega arith)) (rw c.text_at-name.ensures at bad))
    ])

pub loop-column-preserved : goal.loop-column-preserved
loop-column-preserved c =
    let h : Row = fields_of c.args.header.now in
    let next = next_field h c.loop-column.column (omega arith) in
    let added = rw c.text_at-name.ensures at c.in_ok-add_name.ensures in
    record {
      names = rw (added.1, append_assoc, ← next) c.loop-column.invariant.names;
      keys = added.2;
      faults = c.loop-column.invariant.faults ∙ rw added.1 (first_name_good c.loop-column.column c.loop-column.texts _ _ _ next added.0);
    }

pub returns : goal.returns
returns c =
    let h : Row = fields_of c.args.header.now in
    let none = drop_all c.loop-column.column h (omega arith) in (
      named h c.requires (omega arith) ∙ c.loop-column.invariant.faults ∙ no_names c.loop-column.column c.loop-column.texts _ none,
      sym (append-nil c.loop-column.texts) ∙ ap (λ (left : List Text). c.loop-column.texts ++ left) (sym none) ∙ c.loop-column.invariant.names,
    )
