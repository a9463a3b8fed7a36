use Rattle.std.proofs.Common.{◌≡◌, ℕ, ◌==◌, ◌++◌, ◌≤◌, length, map, drop, option_map}
use Rattle.std.specs.List.{slice_split}
use Rattle.rq_words.specs.Words.{all_read, count}
use Rattle.rq_words.proofs.numbers.column_numbers.Given as goal

abbrev pub invariant-loop-piece : goal.invariant-loop-piece
invariant-loop-piece l = record {
  size : length l.columns ≡ length l.yielded;
  few : length l.columns ≤ 128;
  read : all_read (count 3 0 999) (slice_split (λ b. b == 44) l.text)
      ≡ option_map (λ rest. map (λ (n : ℕ). n) l.columns ++ rest) (all_read (count 3 0 999) (drop (length l.yielded) (slice_split (λ b. b == 44) l.text)));
}
