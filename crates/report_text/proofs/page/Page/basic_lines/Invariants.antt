use Rattle.std.proofs.Common.{◌≡◌, ◌++◌, take}
use Rattle.std.specs.List.{flat_map}
use Rattle.report_text.specs.ReportText.{basic_line}
use Rattle.report_text.proofs.page.Page.basic_lines.Given as goal

abbrev pub invariant-loop-pair : goal.invariant-loop-pair
invariant-loop-pair l = l.self ≡ l.initial.self ++ flat_map basic_line (take l.pair-index l.pairs)
