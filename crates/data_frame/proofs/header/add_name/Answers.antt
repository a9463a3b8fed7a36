use Rattle.std.proofs.Common.{◌≡◌, ◌∙◌, ◌++◌, ◌∷◌, [], ap, inr, map, rules, string_bytes, sym}
use Rattle.data_frame.proofs.Naming.{double_name, empty_name, good_name, key_added}
use Rattle.data_frame.proofs.header.add_name.Goals as goal

pub returns-then-is_empty : goal.returns-then-is_empty
returns-then-is_empty c = inr (empty_name c.args.column c.args.texts.now c.args.name.now (sym c.is_empty.ensures ∙ c.if-is_empty.true))

pub returns-then-not-is_new : goal.returns-then-not-is_new
returns-then-not-is_new c =
    inr (double_name c.args.column c.args.texts.now c.args.name.now c.in_ok-key.key c.args.places.now.keys c.in_ok-is_new.is_new
    (sym c.is_empty.ensures ∙ c.if-is_empty.false) c.in_ok-key.ensures.ok c.requires c.in_ok-is_new.ensures.added c.if-not-is_new.true)

pub returns : goal.returns
returns c =
    let pushed : c.add.new.self ≡ c.args.texts.now ++ c.args.name.now ∷ [] = search rules in
    let added = c.in_ok-is_new.ensures.added in (
      good_name c.args.column c.args.texts.now c.args.name.now c.in_ok-key.key c.args.places.now.keys c.in_ok-is_new.is_new
          (sym c.is_empty.ensures ∙ c.if-is_empty.false) c.in_ok-key.ensures.ok c.requires added c.if-not-is_new.false,
      pushed,
      ap (map string_bytes) c.in_ok-is_new.ensures.keys
          ∙ key_added c.args.texts.now c.args.name.now c.in_ok-key.key c.args.places.now.keys c.in_ok-is_new.is_new
          c.in_ok-key.ensures.ok c.requires added c.if-not-is_new.false
          ∙ sym pushed,
    )
