use Rattle.std.proofs.Common.{◌≡◌, ◌==◌, ◌++◌, ◌≤◌, length, map, drop, option_map}
use Rattle.std.specs.List.{slice_split}
use Rattle.frac_core.specs.Values.{exact}
use Rattle.rq_words.specs.Words.{all_read, number_text}
use Rattle.rq_words.proofs.numbers.quantiles.Given as goal

abbrev pub invariant-loop-piece : goal.invariant-loop-piece
invariant-loop-piece l = record {
  count : length l.taus ≡ length l.yielded;
  few : length l.taus ≤ 64;
  read : all_read number_text (slice_split (λ b. b == 44) l.text)
      ≡ option_map (λ rest. map exact l.taus ++ rest) (all_read number_text (drop (length l.yielded) (slice_split (λ b. b == 44) l.text)));
}
