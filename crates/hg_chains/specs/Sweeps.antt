-- What a sweep removes: versions that no reader sees, also in the middle of a chain.
use Rattle.std.specs.Prelude.{ℕ, ◌≤◌, List, [], ◌∷◌, map, filter, count_by, Bool, not, Option, None, ⊤}
use Rattle.hg_base.specs.Lists.{Each}
use Rattle.hg_base.specs.Lifetimes.{goes, MayStay}
use Rattle.hg_chains.specs.declared.version.Version.{Version}
use Rattle.hg_chains.specs.Versions.{number_in}

-- each number is at or below all that follow
abbrev pub Rises : List ℕ → Type 0
Rises [] = ⊤
Rises (a ∷ more) = Each (λ b. a ≤ b) more × Rises more

-- ---- the versions of a record

-- each version with its successor's number, where up is that of the first
abbrev pub with_successors : Option ℕ → List Version → List (Option ℕ × Version)
with_successors up [] = []
with_successors up (v ∷ vs) = (up, v) ∷ with_successors (number_in v.stamp) vs

-- whether a sweep removes a version, which is given with its successor's number
abbrev pub goes_after : ℕ → List ℕ → Option ℕ × Version → Bool
goes_after horizon snapshots p = goes horizon snapshots p.0 (number_in p.1.stamp)

-- what a sweep leaves, and how many versions it removes
abbrev pub swept : ℕ → List ℕ → List Version → List Version
swept horizon snapshots vs = map (λ p. p.1) (filter (λ p. not (goes_after horizon snapshots p)) (with_successors None vs))

-- how many versions a sweep removes
abbrev pub swept_away : ℕ → List ℕ → List Version → ℕ
swept_away horizon snapshots vs = count_by (goes_after horizon snapshots) (with_successors None vs)

-- each version may stay
abbrev pub IsClean : ℕ → List ℕ → List Version → Type 0
IsClean horizon snapshots vs = Each (λ p. MayStay horizon snapshots p.0 (number_in p.1.stamp)) (with_successors None vs)

-- the number of the last version
abbrev pub last_number : List Version → Option ℕ
last_number [] = None
last_number (v ∷ []) = number_in v.stamp
last_number (v ∷ w ∷ vs) = last_number (w ∷ vs)
