use Rattle.std.proofs.Common.{◌≡◌, ◌++◌, take}
use Rattle.std.specs.List.{flat_map}
use Rattle.report_text.specs.ReportText.{prediction_text}
use Rattle.report_text.proofs.page.Page.prediction_lines.Given as goal

abbrev pub invariant-loop-prediction : goal.invariant-loop-prediction
invariant-loop-prediction l = l.self ≡ l.initial.self ++ flat_map prediction_text (take l.prediction-index l.predictions)
