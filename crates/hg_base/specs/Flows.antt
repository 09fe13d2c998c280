-- What a source and a sink tell of themselves.
use Rattle.std.specs.Prelude.{◌≡◌, ◌==◌, ◌&&◌, ℕ, nat_lt, Bool, List, ◌++◌, length, take, Option, Result, MatchResult}

-- Of a source: the bytes that it gave so far, whether the last read found the end, the bytes still to come, where they are told, and how
-- often it failed.
pub record Inflow : Type 0 where
  pub given : List ℕ
  pub is_over : Bool
  pub left : Option (List ℕ)
  pub faults : ℕ

-- of a sink: the bytes that it took so far, and how often it failed
pub record Outflow : Type 0 where
  pub taken : List ℕ
  pub faults : ℕ

-- a call that answers n adds the first n of some bytes, and one that fails adds none
abbrev pub AddsFirst : {E : Type 0} → List ℕ → List ℕ → Result ℕ E → List ℕ → Type 0
AddsFirst before now result bytes = MatchResult result (λ n. now ≡ before ++ take n bytes) (λ _. now ≡ before)

-- whether a read of so many bytes into a buffer says that nothing is left: of a buffer that is not empty, where there are none
abbrev pub finds_end : ℕ → List ℕ → Bool
finds_end n buffer = (n == 0) && nat_lt 0 (length buffer)
