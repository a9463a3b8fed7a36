-- Inner. The sources and sinks as contracts see them: those in memory, and those over std.
use Rattle.std.specs.Prelude.{ℕ, List, []}

-- The bytes that are left, the most that a read gives, the numbers from 1 of the calls that fail,
-- and how many calls were made and failed.
pub record SourceState : Type 0 where
  pub left : List ℕ
  pub piece : ℕ
  pub fails : List ℕ
  pub calls : ℕ
  pub faults : ℕ

-- no call was made
abbrev pub new_source : List ℕ → ℕ → List ℕ → SourceState
new_source bytes piece fails = record { left = bytes; piece = piece; fails = fails; calls = 0; faults = 0 }

-- The bytes that were written, how many there is room for in all, the most that a write takes, the
-- numbers from 1 of the calls that fail, and how many calls were made and failed.
pub record SinkState : Type 0 where
  pub written : List ℕ
  pub room : ℕ
  pub piece : ℕ
  pub fails : List ℕ
  pub calls : ℕ
  pub faults : ℕ

-- nothing was written
abbrev pub new_sink : ℕ → ℕ → List ℕ → SinkState
new_sink room piece fails =
    record { written = []; room = room; piece = piece; fails = fails; calls = 0; faults = 0 }

-- a reader or a writer of std, and how many calls failed over it
pub record Counted (S : Type 0) : Type 0 where
  pub stream : S
  pub faults : ℕ
