use Rattle.std.proofs.Common.{◌∙◌, inr, refl, map, string_bytes}
use Rattle.clap.specs.Words.{kind_of}
use Rattle.rq_words.proofs.ByClap.{refused, simple, taken}
use Rattle.rq_words.proofs.options.Options.read.Goals as goal

pub returns-in-Ok-try_get_matches_from : goal.returns-in-Ok-try_get_matches_from
returns-in-Ok-try_get_matches_from c =
    taken _ _ (map string_bytes c.args.words.now) c.in-Ok-try_get_matches_from.matches c.in-Ok.ensures (simple c.args.kind)
    c.in-Ok-try_get_matches_from.ensures.kinds c.in-Ok-try_get_matches_from.ensures.matches

pub returns : goal.returns
returns c =
    inr (
      refl,
      refused _ _ (map string_bytes c.args.words.now) (kind_of c.in-Err.e) c.in-Ok.ensures (simple c.args.kind) c.in-Err.ensures.kinds
          (λ e. c.in_default-kind.not-OutOfMemory (c.kind.ensures ∙ e)),
    )
