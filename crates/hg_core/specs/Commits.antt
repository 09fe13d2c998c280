-- The commits of a history: how many there are, and whose.
use Rattle.std.specs.Prelude.{◌≡◌, ◌⊎◌, ℕ, ◌+◌, ◌<◌, List, [], ◌∷◌, length}
use Rattle.hg_base.specs.Lists.{Each}
use Rattle.hg_base.specs.History.{Group, History}
use Rattle.hg_core.specs.declared.log.LogEntry.{LogEntry}
use Rattle.hg_core.specs.Phases.{IsSession}

-- how many commits the groups have
abbrev pub commits_in : History → ℕ
commits_in [] = 0
commits_in (group ∷ groups) = length group + commits_in groups

-- each commit of session j is of an earlier transaction than x
abbrev pub AreEarlier : ℕ → ℕ → Group → Type 0
AreEarlier j x group = Each (λ c. c.session ≡ j → c.transaction < x) group

-- nobody but the board's sessions has a log
abbrev pub AloneHaveLogs : ℕ → (ℕ → List LogEntry) → Type 0
AloneHaveLogs sessions log = (j : ℕ) → IsSession sessions j ⊎ (log j ≡ [])
