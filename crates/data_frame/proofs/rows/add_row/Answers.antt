use Rattle.std.proofs.Common.{◌≡◌, ◌∙◌, ◌+◌, [], ap, arith, get_or, map, refl, sym}
use Rattle.std.proofs.lemmas.List.{get_or-map, length-map, map-set}
use Rattle.csv.specs.Records.{fields_of}
use Rattle.data_frame.proofs.Extending.{column_extended, none_extended}
use Rattle.data_frame.proofs.rows.add_row.Goals as goal

pub loop-i-init : goal.loop-i-init
loop-i-init c = record {
  added = none_extended (map fields_of c.args.columns.now.items) c.args.first (fields_of c.args.row.now);
  many = refl;
}

pub loop-i-preserved : goal.loop-i-preserved
loop-i-preserved c =
    let cells = c.loop-i.columns.items in
    let before = map fields_of c.args.columns.now.items in
    let here : fields_of c.index_mut.result.now ≡ get_or (map fields_of cells) c.loop-i.i [] =
    ap fields_of c.index_mut.ensures.value ∙ sym (get_or-map fields_of cells c.loop-i.i c.index_mut.result.now [] (omega (arith, c.loop-i.columns.ok.0))) in
    record {
      added = map-set fields_of cells c.loop-i.i c.push_field.new.self
          ∙ column_extended before (map fields_of cells) c.args.first c.loop-i.i (c.args.first + c.loop-i.i) (fields_of c.args.row.now) (fields_of c.push_field.new.self)
          (omega (arith, length-map c.args.columns.now.items fields_of, c.args.columns.now.ok.0)) refl c.loop-i.invariant.added
          (c.in_ok-push_field.ensures.fields ∙ rw (c.text_at.ensures, here) refl);
      many = c.loop-i.invariant.many;
    }
