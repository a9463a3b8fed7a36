use Rattle.std.proofs.Common.{◌≡◌, ◌++◌, take}
use Rattle.report_text.specs.ReportText.{coef_line, numbered}
use Rattle.report_text.proofs.page.Page.coef_lines.Given as goal

abbrev pub invariant-loop-index : goal.invariant-loop-index
invariant-loop-index l = l.self ≡ l.initial.self ++ numbered coef_line 1 (take l.index l.coef)
