use Rattle.std.proofs.Common.{◌≡◌, ◌≤◌, ◌<◌, ◌-◌, Some, take, slice_index}
use Rattle.formula_grammar.specs.Numbers.{Empty, part_behind}
use Rattle.formula_grammar.proofs.NumberTexts.{longest_below}
use Rattle.formula_grammar.proofs.number.number_len.Given as goal

abbrev pub invariant-loop-index : goal.invariant-loop-index
invariant-loop-index l = record {
  part : part_behind Empty (take l.index l.text) ≡ Some l.part;
  longest : l.longest ≡ longest_below l.text l.index;
  within : l.longest ≤ l.index;
  ascii : 0 < l.longest → slice_index l.text (l.longest - 1) < 128;
}
