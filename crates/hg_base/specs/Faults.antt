-- When a call of a source or a sink may fail.
use Rattle.std.specs.Prelude.{◌+◌, ◌-◌, ◌<◌, ◌≤◌, ◌^◌, ℕ, min, List, length, Result, OnErr, IfOk}

-- a counter of 64 bits after so many more, which stays at its last value
abbrev pub counted : ℕ → ℕ → ℕ
counted n more = min (n + more) (2 ^ 64 - 1)

-- the same after one more
abbrev pub next_count : ℕ → ℕ
next_count n = counted n 1

-- a count of faults rose, or is at its last value
abbrev pub Rose : ℕ → ℕ → Type 0
Rose before now = next_count before ≤ now

-- a call fails only where the count rose in it, and the count never falls
pub record HasCause {T E : Type 0} (before now : ℕ) (result : Result T E) : Type 0 where
  pub later : before ≤ now
  pub failed : OnErr result (Rose before now)

-- a write of some bytes takes at least one of them, and no more than there are
abbrev pub TakesSome : {E : Type 0} → Result ℕ E → List ℕ → Type 0
TakesSome r piece = IfOk r (λ n. (n ≤ length piece) × (0 < length piece → 0 < n))
