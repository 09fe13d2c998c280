-- Statements that lead to the next of their session.
use Rattle.std.specs.Prelude.{◌≡◌, ◌≢◌, ◌==◌, ℕ, zero, suc, ◌+◌, ◌<◌, ◌≤◌, List, [], ◌∷◌, length, map, drop, get_or, if◌then◌else◌, ⊤}
use Rattle.hg_base.specs.declared.limits.TheConstants.{MOST_SESSIONS}
use Rattle.hg_base.specs.declared.statement.Record.{Record}
use Rattle.hg_records.specs.declared.ends.Ends.{Ends}
use Rattle.hg_records.specs.declared.ends.TheConstants.{NOWHERE}
use Rattle.hg_records.specs.declared.statements.Entry.{Entry}

-- The index of the first of these that is of session j, counted from n, and `NOWHERE` if none is.
abbrev pub next_of : ℕ → ℕ → List ℕ → ℕ
next_of j n [] = NOWHERE
next_of j n (k ∷ ks) = if k == j then n else next_of j (n + 1) ks

-- the index of session j's first statement at or after i
abbrev pub next_from : ℕ → ℕ → List ℕ → ℕ
next_from j i sessions = next_of j i (drop i sessions)

-- the session of each entry, in order
abbrev pub sessions_in : List Entry → List ℕ
sessions_in entries = map (λ e. e.session) entries

-- each entry leads to the next of its session; the first entry has index n
abbrev pub AreLinked : ℕ → List Entry → Type 0
AreLinked n [] = ⊤
AreLinked n (e ∷ es) = (e.next ≡ next_of e.session (n + 1) (sessions_in es)) × AreLinked (n + 1) es

-- ---- the ends of each session

-- what the ends keep as the index of session j's first entry, and 0 where they keep nothing for j
abbrev pub first_in : Ends → ℕ → ℕ
first_in ends j = get_or ends.firsts j 0

-- what the ends keep as the index of session j's last entry, and 0 where they keep nothing for j
abbrev pub last_in : Ends → ℕ → ℕ
last_in ends j = get_or ends.lasts j 0

-- the entry at l is of session j, and leads nowhere
pub record IsLast (entries : List Entry) (j l : ℕ) : Type 0 where
  pub within : l < length entries
  pub session : (d : Entry) → (get_or entries l d).session ≡ j
  pub next : (d : Entry) → (get_or entries l d).next ≡ NOWHERE

-- the ends of session j
pub record KnowsEnds (ends : Ends) (entries : List Entry) (j : ℕ) : Type 0 where
  pub first : first_in ends j ≡ next_of j 0 (sessions_in entries)
  pub last : first_in ends j ≢ NOWHERE → IsLast entries j (last_in ends j)

-- the entries lead on, and each session's ends are known
pub record IsChained (ends : Ends) (entries : List Entry) : Type 0 where
  pub links : AreLinked 0 entries
  pub each : (j : ℕ) → j ≤ MOST_SESSIONS → KnowsEnds ends entries j

-- the entry at l leads to i
abbrev pub led : ℕ → ℕ → List Entry → List Entry
led l i [] = []
led zero i (e ∷ es) = record e { next = i } ∷ es
led (suc l) i (e ∷ es) = e ∷ led l i es

-- a record at i, if there is one, is one of session j
abbrev pub StandsAt : ℕ → ℕ → List Record → Type 0
StandsAt j i records = (d : Record) → i < length records → (get_or records i d).session ≡ j
