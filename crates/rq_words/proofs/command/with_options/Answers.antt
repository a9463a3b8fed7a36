use Rattle.std.proofs.Common.{◌∙◌, ap₂, arith}
use Rattle.clap.specs.Words.{with_rule}
use Rattle.rq_words.proofs.ByClap.{all_options, one_more}
use Rattle.rq_words.proofs.command.with_options.Goals as goal

pub loop-name-preserved : goal.loop-name-preserved
loop-name-preserved c =
    c.in_ok-command.ensures.shape c.option.ensures.local ∙ ap₂ with_rule c.loop-name.invariant c.option.ensures.rule
    ∙ one_more _ c.args.names.now c.args.required c.loop-name.name-index _ c.loop-name-test.true

pub returns : goal.returns
returns c = c.loop-name.invariant ∙ all_options _ c.args.names.now c.args.required c.loop-name.name-index (omega arith)
