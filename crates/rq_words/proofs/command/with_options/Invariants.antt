use Rattle.std.proofs.Common.{◌≡◌, take, map}
use Rattle.clap.specs.Words.{app_of}
use Rattle.rq_words.specs.Commands.{option_rule, with_rules}
use Rattle.rq_words.proofs.command.with_options.Given as goal

abbrev pub invariant-loop-name : goal.invariant-loop-name
invariant-loop-name l = app_of l.command ≡ with_rules (app_of l.initial.command) (map (λ name. option_rule name.now l.required) (take l.name-index l.names))
