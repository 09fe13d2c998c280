-- The replies are those of a table that never reclaims. Snapshot isolation; that a statement outside the declared
-- tables is refused, and that a deletion of what is not seen writes nothing, is own.
use Rattle.std.specs.Prelude.{◌≡◌, ℕ, ◌≤◌, ◌⊎◌, List, [], ◌∷◌, length, map, Bool, true, false, ◌&&◌, ◌==◌, IsTrue, IsFalse, Option, Some, None, is_some, IsSome, ⊤}
use Rattle.std.specs.List.{list_any}
use Rattle.std.specs.Bool.{MatchBool}
use Rattle.hg_base.specs.declared.rid.Rid.{Rid}
use Rattle.hg_base.specs.declared.rid.TableId.{TableId}
use Rattle.hg_base.specs.declared.image.Image.{Image}
use Rattle.hg_base.specs.declared.scope.Scope.{Scope}
use Rattle.hg_base.specs.declared.statement.Statement.{Statement}
use Rattle.hg_base.specs.declared.statement.Statement.TheVariants.{Begin, Get, Put, Del, Scan, CursorOpen, Fetch, CursorClose, Commit as CommitIt, Rollback, Gc}
use Rattle.hg_base.specs.declared.line.Answer.{Answer}
use Rattle.hg_base.specs.declared.line.Answer.TheVariants.{Begun, Stored, Found, Nothing, Gone, Rows, Committed, Ended, Undone, Newer, OpenBy, Undeclared, Swept, Beside}
use Rattle.hg_base.specs.declared.value.Value.{Value}
use Rattle.hg_base.specs.Lists.{Each, Ascends}
use Rattle.hg_base.specs.Script.{Mode, replay, run}
use Rattle.hg_base.specs.History.{Write, History, seen}
use Rattle.hg_base.specs.Transcript.{Said, Rest, has, passed, rest_in, stored, own_writes}

-- the answer to a begin
abbrev pub IsBegun : Answer → Type 0
IsBegun (Begun s) = ⊤
IsBegun _ = ⊥

-- the row that is seen, or `none` exactly where none is
abbrev pub IsGot : Image → Answer → Type 0
IsGot image (Found row) = image.row ≡ Some row
IsGot image Nothing = image.row ≡ None
IsGot image _ = ⊥

-- stored, or a conflict
abbrev pub IsPut : Answer → Type 0
IsPut Stored = ⊤
IsPut (Newer c) = ⊤
IsPut (OpenBy writer) = ⊤
IsPut _ = ⊥

-- `none` exactly where no row is seen, and else gone, or a conflict
abbrev pub IsDeleted : Image → Answer → Type 0
IsDeleted image Nothing = image.row ≡ None
IsDeleted image Gone = IsSome image.row
IsDeleted image (Newer c) = IsSome image.row
IsDeleted image (OpenBy writer) = IsSome image.row
IsDeleted image _ = ⊥

-- every key of the range that is seen as a row, with that row, by ascending key
pub record AreRows (look : ℕ → Image) (low : ℕ) (high : ℕ) (rows : List (ℕ × List Value)) : Type 0 where
  pub ascend : Ascends (map (λ p. p.0) rows)
  pub each : Each (λ p. (low ≤ p.0) × (p.0 ≤ high) × ((look p.0).row ≡ Some p.1)) rows
  pub every : (key : ℕ) → low ≤ key → key ≤ high → IsTrue (list_any (λ p. p.0 == key) rows) ⊎ ((look key).row ≡ None)

-- the answer to a scan: each row of the range that is seen
abbrev pub IsScanned : (ℕ → Image) → ℕ → ℕ → Answer → Type 0
IsScanned look low high (Rows rows) = AreRows look low high rows
IsScanned look low high _ = ⊥

-- The first n rows of a range, by ascending key, or all where it has fewer: those of every key up to the last that was passed.
pub record AreFirst (look : ℕ → Image) (n : ℕ) (low : ℕ) (high : ℕ) (rows : List (ℕ × List Value)) : Type 0 where
  pub few : length rows ≤ n
  pub within : passed n high rows ≤ high
  pub all : AreRows look low (passed n high rows) rows

-- the first n rows of what the open cursor has left
abbrev pub IsFetched : (Rid → Image) → ℕ → Option Rest → Answer → Type 0
IsFetched look n (Some rest) (Rows rows) = AreFirst (λ key. look (record { table = rest.table; key = key })) n rest.low rest.high rows
IsFetched look n rest answer = ⊥

-- the answer to the end of a cursor
abbrev pub IsEnded : Answer → Type 0
IsEnded Ended = ⊤
IsEnded _ = ⊥

-- a commit number exactly where the transaction wrote
abbrev pub IsCommitted : Bool → Answer → Type 0
IsCommitted wrote (Committed c) = IsTrue wrote
IsCommitted wrote Ended = IsFalse wrote
IsCommitted wrote _ = ⊥

-- the answer to a rollback
abbrev pub IsUndone : Answer → Type 0
IsUndone Undone = ⊤
IsUndone _ = ⊥

-- a collector's report
abbrev pub IsSwept : Answer → Type 0
IsSwept (Swept sweep) = ⊤
IsSwept _ = ⊥

-- the answer to a `gc` record in a run, whose collectors work on their own
abbrev pub IsBeside : Answer → Type 0
IsBeside Beside = ⊤
IsBeside _ = ⊥

-- a `gc` record is run in a replay, and left out in a run, where the records of session 0 stand for the collectors' rounds
abbrev pub IsCollected : Mode → ℕ → Answer → Type 0
IsCollected replay session answer = IsSwept answer
IsCollected (run rounds) session answer = MatchBool (session == 0) (IsSwept answer) (IsBeside answer)

-- the refusal of a statement on this table, which is not declared
abbrev pub IsUndeclared : TableId → Answer → Type 0
IsUndeclared table (Undeclared other) = other.0 ≡ table.0
IsUndeclared table _ = ⊥

-- refused as undeclared exactly where the scope is without the table
abbrev pub WithinScope : Scope → TableId → Answer → Type 0 → Type 0
WithinScope scope table answer Else = MatchBool (has scope table) Else (IsUndeclared table answer)

-- The answer to a statement, where `look` is what the transaction sees of a record, `wrote` whether it has a stored write, and
-- `rest` what its cursor has left.
abbrev pub IsAnswer : Mode → (Rid → Image) → Bool → Option Rest → Said → Statement → Type 0
IsAnswer mode look wrote rest now (Begin scope) = IsBegun now.reply.answer
IsAnswer mode look wrote rest now (Get r) = WithinScope now.scope r.table now.reply.answer (IsGot (look r) now.reply.answer)
IsAnswer mode look wrote rest now (Put r row) = WithinScope now.scope r.table now.reply.answer (IsPut now.reply.answer)
IsAnswer mode look wrote rest now (Del r) = WithinScope now.scope r.table now.reply.answer (IsDeleted (look r) now.reply.answer)
IsAnswer mode look wrote rest now (Scan table low high) = WithinScope now.scope table now.reply.answer (IsScanned (λ key. look (record { table = table; key = key })) low high now.reply.answer)
IsAnswer mode look wrote rest now (CursorOpen table low high) = IsBegun now.reply.answer
IsAnswer mode look wrote rest now (Fetch n) = IsFetched look n rest now.reply.answer
IsAnswer mode look wrote rest now CursorClose = IsEnded now.reply.answer
IsAnswer mode look wrote rest now CommitIt = IsCommitted wrote now.reply.answer
IsAnswer mode look wrote rest now Rollback = IsUndone now.reply.answer
IsAnswer mode look wrote rest now (Gc kind) = IsCollected mode now.session now.reply.answer

-- whether there is a write
abbrev pub is_written : List Write → Bool
is_written [] = false
is_written (w ∷ ws) = true

-- Of one line: `at` is printed exactly outside, `committed` ends the reply exactly where a write outside is stored, the
-- snapshot is at or below the number of groups, and the answer is the table's.
pub record IsReply (mode : Mode) (h : History) (earlier : List Said) (now : Said) : Type 0 where
  pub at : is_some now.reply.at ≡ now.alone
  pub number : is_some now.reply.number ≡ (now.alone && is_some (stored now))
  pub snapshot : now.at ≤ length h
  pub answer : IsAnswer mode (seen h (own_writes earlier now) now.at) (is_written (own_writes earlier now)) (rest_in now.session now.transaction earlier) now now.statement
