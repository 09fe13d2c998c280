-- What passes between a client and the program, in order.
use Rattle.std.specs.Prelude.{◌≡◌, ℕ, List, [], ◌∷◌, ◌++◌, take, Result, MatchResult}
use Rattle.hg_base.specs.Lists.{Each}

-- Bytes were read, and no bytes say that nothing more comes; bytes were written; or a call failed.
pub data Event : Type 0 where
  Read : List ℕ → Event
  Wrote : List ℕ → Event
  ReadFailed : Event
  WriteFailed : Event

-- all bytes that were read, where the newest event is the first of these
abbrev pub read_of : List Event → List ℕ
read_of [] = []
read_of (Read bytes ∷ log) = read_of log ++ bytes
read_of (Wrote bytes ∷ log) = read_of log
read_of (ReadFailed ∷ log) = read_of log
read_of (WriteFailed ∷ log) = read_of log

-- all bytes that were written
abbrev pub written_of : List Event → List ℕ
written_of [] = []
written_of (Read bytes ∷ log) = written_of log
written_of (Wrote bytes ∷ log) = written_of log ++ bytes
written_of (ReadFailed ∷ log) = written_of log
written_of (WriteFailed ∷ log) = written_of log

-- for each read, also one that failed, all bytes that had been read before it and all that had been written
abbrev pub reads_in : List Event → List (List ℕ × List ℕ)
reads_in [] = []
reads_in (Read bytes ∷ log) = (read_of log, written_of log) ∷ reads_in log
reads_in (Wrote bytes ∷ log) = reads_in log
reads_in (ReadFailed ∷ log) = (read_of log, written_of log) ∷ reads_in log
reads_in (WriteFailed ∷ log) = reads_in log

-- before each read, P holds of all bytes that had been read and all that had been written
abbrev pub BeforeReads : (List ℕ → List ℕ → Type 0) → List Event → Type 0
BeforeReads P log = Each (λ p. P p.0 p.1) (reads_in log)

-- this is the newest event
pub record IsNewest (event : Event) (log : List Event) : Type 0 where
  pub before : List Event
  pub newest : log ≡ event ∷ before

-- a read into a buffer is logged, or that it failed
abbrev pub AddsRead : {E : Type 0} → List Event → List Event → Result ℕ E → List ℕ → Type 0
AddsRead before after result buffer = MatchResult result (λ n. after ≡ Read (take n buffer) ∷ before) (λ _. after ≡ ReadFailed ∷ before)

-- a write of a piece is logged, or that it failed
abbrev pub AddsWrite : {E : Type 0} → List Event → List Event → Result ℕ E → List ℕ → Type 0
AddsWrite before after result piece = MatchResult result (λ n. after ≡ Wrote (take n piece) ∷ before) (λ _. after ≡ WriteFailed ∷ before)

-- these bytes were written, and nothing was read
pub record HasWritten (before after : List Event) (bytes : List ℕ) : Type 0 where
  pub read : read_of after ≡ read_of before
  pub written : written_of after ≡ written_of before ++ bytes
  pub reads : reads_in after ≡ reads_in before
