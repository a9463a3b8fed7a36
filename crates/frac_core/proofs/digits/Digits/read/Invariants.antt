use Rattle.std.proofs.Common.{◌≡◌, ◌≤◌, ◌+◌, ◌++◌, ℕ, List, take, drop}
use Rattle.std.specs.List.{prefix_len}
use Rattle.std.specs.Char.{is_ascii_digit}
use Rattle.frac_core.specs.NumberReading.{HasRead}
use Rattle.frac_core.proofs.digits.Digits.read.Given as goal

abbrev pub invariant-loop-byte : goal.invariant-loop-byte
invariant-loop-byte l = record {
  count : l.count ≡ l.byte-index;
  digits : prefix_len is_ascii_digit l.text ≡ l.count + prefix_len is_ascii_digit (drop l.count l.text);
  read : (digits : List ℕ) → HasRead digits l.initial.self → HasRead (digits ++ take l.count l.text) l.self;
  limit : l.self.limit ≡ l.initial.self.limit;
  room : l.self.zeros ≤ l.initial.self.zeros + l.count;
}
