-- What the logs say: of begins, and of the order in which numbers stand.
use Rattle.std.specs.Prelude.{◌≡◌, ℕ, ◌<◌, ◌≤◌, List, [], ◌∷◌, length, filter, ◌==◌, IsSome, IsTrue, None, ⊤}
use Rattle.hg_base.specs.declared.rid.Rid.{Rid}
use Rattle.hg_base.specs.History.{History, Group, group_at}
use Rattle.hg_core.specs.declared.phase.Phase.{Phase}
use Rattle.hg_core.specs.declared.phase.Phase.TheVariants.{Idle, Declared, Probed, Entered, Fixed, Live}
use Rattle.hg_core.specs.declared.log.LogEntry.{LogEntry}
use Rattle.hg_core.specs.declared.log.LogEntry.TheVariants.{Began, Undid, Published, Over}
use Rattle.hg_core.specs.Logs.{current, open_in, begans, wrotes, is_plain, published, has_number, UpTo}
use Rattle.hg_core.specs.Phases.{IsSession, snapshot_in, MayHaveBegun}

-- a begin: no other transaction is open, and the snapshot is at or over every number that the session's log has
pub record IsBegin (h : History) (at : ℕ) (earlier : List LogEntry) : Type 0 where
  pub within : at ≤ length h
  pub over : UpTo at earlier
  pub alone : current earlier ≡ None

-- a commit: a transaction is open, and nothing of it was undone or published
pub record IsPublish (earlier : List LogEntry) : Type 0 where
  pub opened : IsSome (current earlier)
  pub plain : IsTrue (is_plain earlier)

-- an end: a transaction is open, and none of its writes is
pub record IsEnd (earlier : List LogEntry) : Type 0 where
  pub opened : IsSome (current earlier)
  pub none : (r : Rid) → open_in r earlier ≡ None

-- an entry after those before it: a transaction is open, unless the entry begins one
abbrev pub Judge : History → LogEntry → List LogEntry → Type 0
Judge h (Began at scope) earlier = IsBegin h at earlier
Judge h (Published number) earlier = IsPublish earlier
Judge h Over earlier = IsEnd earlier
Judge h _ earlier = IsSome (current earlier)

-- each entry of a log
abbrev pub Judged : History → List LogEntry → Type 0
Judged h [] = ⊤
Judged h (e ∷ earlier) = Judge h e earlier × Judged h earlier

-- a number that was fixed is at or over every number that the session's log has
abbrev pub FixedOver : Phase → List LogEntry → Type 0
FixedOver Idle log = ⊤
FixedOver (Declared scope) log = ⊤
FixedOver (Probed scope f) log = ⊤
FixedOver (Entered scope f) log = ⊤
FixedOver (Fixed scope f m) log = UpTo m log
FixedOver (Live at scope) log = ⊤

-- each write that was taken back was open
abbrev pub UndoesOpen : List LogEntry → Type 0
UndoesOpen [] = ⊤
UndoesOpen (Undid r ∷ earlier) = IsSome (open_in r earlier) × UndoesOpen earlier
UndoesOpen (_ ∷ earlier) = UndoesOpen earlier

-- the commits of session j in a group
abbrev pub of_session : ℕ → Group → Group
of_session j group = filter (λ c. c.session == j) group

-- the log of a session has the commit number n
abbrev pub IsNamed : ℕ → (ℕ → List LogEntry) → ℕ → Type 0
IsNamed sessions log n = (j : ℕ) × IsSession sessions j × IsTrue (has_number n (log j))

-- what the logs say agrees with the phases and with the history
pub record LogsAnswer (sessions quota : ℕ) (history : History) (phase : ℕ → Phase) (log : ℕ → List LogEntry) : Type 0 where
  -- a session reads at the snapshot of the transaction that its log has open
  pub reads : (j : ℕ) → current (log j) ≡ snapshot_in (phase j)
  pub room : (j : ℕ) → MayHaveBegun quota (phase j) (begans (log j))
  pub written : (j : ℕ) → wrotes (log j) ≤ quota
  pub fixed : (j : ℕ) → FixedOver (phase j) (log j)
  -- no number is over the mark
  pub within : (j : ℕ) → UpTo (length history) (log j)
  pub judged : (j : ℕ) → Judged history (log j)
  pub undone : (j : ℕ) → UndoesOpen (log j)
  -- the commits of each group are the transactions of the logs that have its number
  pub commits : (n j : ℕ) → of_session j (group_at history n) ≡ published n j (log j)
  -- and each group has one
  pub named : (n : ℕ) → 0 < n → n ≤ length history → IsNamed sessions log n
