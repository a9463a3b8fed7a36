use Rattle.std.proofs.Common.{◌≡◌, ◌++◌, take}
use Rattle.report_text.specs.ReportText.{numbered, wilcoxon_line}
use Rattle.report_text.proofs.page.Page.wilcoxon_lines.Given as goal

abbrev pub invariant-loop-index : goal.invariant-loop-index
invariant-loop-index l = l.self ≡ l.initial.self ++ numbered wilcoxon_line 1 (take l.index l.scores)
