use Rattle.std.proofs.Common.{ap, sym, ◌+◌, ◌∙◌}
use Rattle.formula_grammar.specs.Numbers.{numeral_of}
use Rattle.formula_grammar.proofs.Lexing.{from, front, mark_lexeme, name_lexeme_is, number_here, number_lexeme_is, piece_here, piece_unsigned, quoted_lexeme, same_lexeme}
use Rattle.formula_grammar.proofs.lexer.lexeme_at.Goals as goal

pub range-requires-clause-end_boundary : goal.range-requires-clause-end_boundary
range-requires-clause-end_boundary c =
    let n = c.number_len-len.ensures in
    let here = number_here c.args.text.now c.as_bytes-bytes.result.now c.args.at c.number_len-len.result c.as_bytes-bytes.ensures.value c.utf8.text c.requires.inside n.len n.within n.ascii (sym c.begins_number.ensures
    ∙ c.if-begins_number.true) in
    here.cut

pub read_numeral-requires : goal.read_numeral-requires
read_numeral-requires c =
    rw c.range.ensures.value (piece_unsigned c.args.text.now c.as_bytes-bytes.result.now c.args.at c.number_len-len.result c.as_bytes-bytes.ensures.value c.requires.inside (sym c.begins_number.ensures ∙ c.if-begins_number.true))

pub returns-then-begins_number-clause-some : goal.returns-then-begins_number-clause-some
returns-then-begins_number-clause-some c =
    let n = c.number_len-len.ensures in
    let here = number_here c.args.text.now c.as_bytes-bytes.result.now c.args.at c.number_len-len.result c.as_bytes-bytes.ensures.value c.utf8.text c.requires.inside n.len n.within n.ascii (sym c.begins_number.ensures
    ∙ c.if-begins_number.true) in
    here.some

pub returns-then-first-eq96-clause-lexeme : goal.returns-then-first-eq96-clause-lexeme
returns-then-first-eq96-clause-lexeme c =
    quoted_lexeme c.args.at _ (from c.as_bytes-bytes.result.now (c.args.at + 1)) c.quoted.result (sym c.begins_name.ensures ∙ c.if-begins_name.false) (sym c.begins_number.ensures
    ∙ c.if-begins_number.false) c.if-first-eq96.true c.quoted.ensures
    ∙ same_lexeme c.args.text.now c.as_bytes-bytes.result.now c.args.at c.as_bytes-bytes.ensures.value c.requires.inside

pub returns-then-begins_number-clause-lexeme : goal.returns-then-begins_number-clause-lexeme
returns-then-begins_number-clause-lexeme c =
    let e = c.as_bytes-bytes.ensures.value in
    let text = c.args.text.now in
    let bytes = c.as_bytes-bytes.result.now in
    number_lexeme_is c.args.at _ c.number_len-len.result _ _ c.read_numeral.result (front text bytes c.args.at e c.requires.inside) (sym c.begins_name.ensures ∙ c.if-begins_name.false) (sym c.begins_number.ensures
    ∙ c.if-begins_number.true) c.number_len-len.ensures.len
    (c.read_numeral.ensures ∙ ap numeral_of (c.range.ensures.value ∙ piece_here text bytes c.args.at c.number_len-len.result e c.requires.inside))
    ∙ same_lexeme text bytes c.args.at e c.requires.inside

pub returns-then-begins_name-clause-lexeme : goal.returns-then-begins_name-clause-lexeme
returns-then-begins_name-clause-lexeme c =
    let e = c.as_bytes-bytes.ensures.value in
    name_lexeme_is c.args.at _ c.name_len-len.result _ _ c.name_or_word.result (front c.args.text.now c.as_bytes-bytes.result.now c.args.at e c.requires.inside) (sym c.begins_name.ensures
    ∙ c.if-begins_name.true) c.name_len-len.ensures.value c.name_len-len.ensures.within c.name_or_word.ensures
    ∙ same_lexeme c.args.text.now c.as_bytes-bytes.result.now c.args.at e c.requires.inside

pub returns-else-first-eq96-clause-lexeme : goal.returns-else-first-eq96-clause-lexeme
returns-else-first-eq96-clause-lexeme c =
    mark_lexeme c.args.at _ (from c.as_bytes-bytes.result.now (c.args.at + 1)) c.mark_of.result (sym c.begins_name.ensures ∙ c.if-begins_name.false) (sym c.begins_number.ensures
    ∙ c.if-begins_number.false) c.if-first-eq96.false c.mark_of.ensures
    ∙ same_lexeme c.args.text.now c.as_bytes-bytes.result.now c.args.at c.as_bytes-bytes.ensures.value c.requires.inside
