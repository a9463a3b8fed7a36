use Rattle.std.proofs.Common.{◌∙◌, sym, arith}
use Rattle.rq_words.proofs.Counts.{Digits, digits_none, digits_some, other_byte, parsed, too_long}
use Rattle.rq_words.proofs.numbers.digits.Goals as goal
use Rattle.rq_words.proofs.numbers.digits.Goals.{then-text-places-via-then-text-places, then-text-places-via-else-text-places+then-not-all_digits}

pub returns-then-text-places-clause-none : goal.returns-then-text-places-clause-none
returns-then-text-places-clause-none c = elim c.then-text-places.branch [
  | then-text-places-via-then-text-places w ↦ too_long c.args.places c.args.text.now (omega arith)
  | then-text-places-via-else-text-places+then-not-all_digits w ↦ other_byte c.args.places c.args.text.now (sym w.all_digits.ensures ∙ w.if-not-all_digits.true)
]

pub returns-clause-none : goal.returns-clause-none
returns-clause-none c =
    let found : Digits c.args.places c.args.text.now c.ok.result =
    rw c.ok.ensures.value (parsed c.args.places c.args.text.now c.parse.result c.parse.ensures.value.0 (sym c.all_digits.ensures ∙ c.if-not-all_digits.false) (omega arith) c.requires) in
    digits_none c.args.places c.args.text.now c.ok.result found

pub returns-clause-some : goal.returns-clause-some
returns-clause-some c =
    let found : Digits c.args.places c.args.text.now c.ok.result =
    rw c.ok.ensures.value (parsed c.args.places c.args.text.now c.parse.result c.parse.ensures.value.0 (sym c.all_digits.ensures ∙ c.if-not-all_digits.false) (omega arith) c.requires) in
    digits_some c.args.places c.args.text.now c.ok.result found
