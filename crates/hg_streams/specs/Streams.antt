-- What a source and a sink tell of a call.
use Rattle.std.specs.Prelude.{◌≡◌, ℕ, ◌+◌, ◌≤◌, List, ◌++◌, length, true, Some}
use Rattle.std.specs.Io.KnownBytes.{Consumes, IsAtEnd}
use Rattle.hg_base.specs.Faults.{Rose}
use Rattle.hg_base.specs.Flows.{Inflow, Outflow}

-- what a source or a sink tells before a call and after it
pub record Change (F : Type 0) : Type 0 where
  pub old : F
  pub new : F

-- the change from one value of a source or a sink to another
abbrev pub change_of : {A F : Type 0} → (A → F) → A → A → Change F
change_of flow old new = record { old = flow old; new = flow new }

-- ---- a source

-- a read failed
abbrev pub ReadFailed : Change Inflow → Type 0
ReadFailed source = Rose source.old.faults source.new.faults

-- the source gave these bytes, which were the next of those that it had left, where it tells them
pub record Gave (source : Change Inflow) (bytes : List ℕ) : Type 0 where
  pub given : source.new.given ≡ source.old.given ++ bytes
  pub next : Consumes source.old.left source.new.left bytes

-- the last read found the end, and nothing is left
pub record IsOver (source : Inflow) : Type 0 where
  pub found : source.is_over ≡ true
  pub none : IsAtEnd source.left

-- the source tells that it has these bytes left, and no read failed
pub record Gives (source : Change Inflow) (bytes : List ℕ) : Type 0 where
  pub told : source.old.left ≡ Some bytes
  pub steady : ¬ ReadFailed source

-- the source gave some bytes, at most so many
pub record HasGiven (most : ℕ) (source : Change Inflow) : Type 0 where
  pub bytes : List ℕ
  pub gave : Gave source bytes
  pub few : length bytes ≤ most

-- the bytes are all that the source gave up to its end, and at most so many
pub record ReadsAll (most : ℕ) (source : Change Inflow) (bytes : List ℕ) : Type 0 where
  pub gave : Gave source bytes
  pub end : IsOver source.new
  pub short : length bytes ≤ most

-- the source gave one byte more than so many, and no more was read
pub record IsTooLong (most : ℕ) (source : Change Inflow) : Type 0 where
  pub bytes : List ℕ
  pub gave : Gave source bytes
  pub long : length bytes ≡ most + 1

-- a read failed, and before it the source had given at most so many bytes
pub record FailsToRead (most : ℕ) (source : Change Inflow) : Type 0 where
  pub failed : ReadFailed source
  pub within : HasGiven most source

-- ---- a sink

-- a write failed
abbrev pub WriteFailed : Change Outflow → Type 0
WriteFailed sink = Rose sink.old.faults sink.new.faults

-- the sink took these bytes
abbrev pub Took : Change Outflow → List ℕ → Type 0
Took sink bytes = sink.new.taken ≡ sink.old.taken ++ bytes
