-- A log read as replies: which entries a session's statement leaves there, and which replies they fit.
use Rattle.std.specs.Prelude.{◌≡◌, ℕ, zero, suc, ◌+◌, ◌<◌, ◌≤◌, List, [], ◌∷◌, ◌++◌, map, length, Bool, true, false, ◌&&◌, if◌then◌else◌, Option, Some, None, is_some, unwrap_or, Contains}
use Rattle.std.specs.Prelude.{IsTrue, IsSome, IfSome, ⊤}
use Rattle.hg_base.specs.declared.rid.Rid.{Rid}
use Rattle.hg_base.specs.declared.rid.TableId.{TableId}
use Rattle.hg_base.specs.declared.scope.Scope.{Scope}
use Rattle.hg_base.specs.declared.scope.Snapshot.{Snapshot}
use Rattle.hg_base.specs.declared.statement.Statement.{Statement}
use Rattle.hg_base.specs.declared.statement.Statement.TheVariants.{Begin, Get, Put, Del, Scan, CursorOpen, Fetch, CursorClose, Commit as CommitIt, Rollback, Gc}
use Rattle.hg_base.specs.declared.statement.Record.{Record}
use Rattle.hg_base.specs.declared.line.Answer.{Answer}
use Rattle.hg_base.specs.declared.line.Answer.TheVariants.{Begun, Stored, Found, Nothing, Gone, Rows, Committed, Newer, OpenBy, Undeclared, Swept, Beside}
use Rattle.hg_base.specs.declared.line.Reply.{Reply}
use Rattle.hg_base.specs.declared.line.Line.{Line}
use Rattle.hg_base.specs.declared.value.Value.{Value}
use Rattle.hg_base.specs.Lists.{Each, Ascends}
use Rattle.hg_base.specs.History.{Write, nothing, image_in, is_among, NoneTwice}
use Rattle.hg_base.specs.Transcript.{Rest, only, has, passed, rest_after, table_of, stored_by}
use Rattle.hg_base.specs.Replies.{IsBegun, IsPut, IsEnded, IsCommitted, IsUndone, is_written}
use Rattle.hg_core.specs.declared.log.LogEntry.{LogEntry}
use Rattle.hg_core.specs.declared.log.LogEntry.TheVariants.{Began, Saw, Refused, Outside, Wrote, Undid, Published, Over}
use Rattle.hg_core.specs.Logs.{current, own_writes}
use Rattle.hg_core.specs.Contents.{bucket_of, has_own}
use Rattle.hg_core.specs.Events.{put}

-- What the entries of a statement hold and its reply doesn't print: the row that a `del` found, the rows that a `scan`
-- found in each bucket, the records whose writes a `rollback` removed, the last one first, and what the cursor of a `fetch` had
-- left. A fetch looks at so many buckets, and `part` counts them in the order in which it came to them.
pub record Unprinted : Type 0 where
  pub found : List Value
  pub part : ℕ → List (ℕ × List Value)
  pub undone : List Rid
  pub rest : Option Rest
  pub looked : ℕ

-- ---- the entries of a statement, newest first

-- a read of one key
abbrev pub saw : ℕ → Rid → List (ℕ × List Value) → LogEntry
saw buckets r rows = Saw r.table r.key r.key (bucket_of buckets r) rows

-- a read of a range in those of the first buckets that can have a key of it, in ascending order
abbrev pub saws : ℕ → TableId → ℕ → ℕ → (ℕ → List (ℕ × List Value)) → ℕ → List LogEntry
saws buckets table low high part zero = []
saws buckets table low high part (suc b) = if has_own buckets table low high b then Saw table low high b (part b) ∷ saws buckets table low high part b else saws buckets table low high part b

-- the bucket of the key that is so far from another
abbrev pub bucket_at : ℕ → TableId → ℕ → ℕ → ℕ
bucket_at buckets table low ahead = bucket_of buckets (record { table = table; key = low + ahead })

-- so many looks at a range: at the buckets of its first keys, in the order of these keys
abbrev pub looks : ℕ → TableId → ℕ → ℕ → (ℕ → List (ℕ × List Value)) → ℕ → List LogEntry
looks buckets table low high part zero = []
looks buckets table low high part (suc i) = Saw table low high (bucket_at buckets table low i) (part i) ∷ looks buckets table low high part i

-- a transaction ends, with or without a commit number
abbrev pub close : Option ℕ → List LogEntry
close None = Over ∷ []
close (Some number) = Over ∷ Published number ∷ []

-- what a begin leaves in the log
abbrev pub begin_entries : Scope → Answer → List LogEntry
begin_entries scope (Begun at) = Began at scope ∷ []
begin_entries scope _ = []

-- what a get leaves in the log
abbrev pub get_entries : ℕ → Rid → Answer → List LogEntry
get_entries buckets r (Found row) = saw buckets r ((r.key, row) ∷ []) ∷ []
get_entries buckets r Nothing = saw buckets r [] ∷ []
get_entries buckets r (Undeclared table) = Outside table ∷ []
get_entries buckets r _ = []

-- what a put leaves in the log
abbrev pub put_entries : Rid → List Value → Answer → List LogEntry
put_entries r row Stored = Wrote r (record { row = Some row }) ∷ []
put_entries r row (Newer number) = Refused r (Newer number) ∷ []
put_entries r row (OpenBy writer) = Refused r (OpenBy writer) ∷ []
put_entries r row (Undeclared table) = Outside table ∷ []
put_entries r row _ = []

-- what a del leaves in the log: it reads the row first, and then deletes it
abbrev pub del_entries : ℕ → List Value → Rid → Answer → List LogEntry
del_entries buckets found r Nothing = saw buckets r [] ∷ []
del_entries buckets found r Gone = Wrote r nothing ∷ saw buckets r ((r.key, found) ∷ []) ∷ []
del_entries buckets found r (Newer number) = Refused r (Newer number) ∷ saw buckets r ((r.key, found) ∷ []) ∷ []
del_entries buckets found r (OpenBy writer) = Refused r (OpenBy writer) ∷ saw buckets r ((r.key, found) ∷ []) ∷ []
del_entries buckets found r (Undeclared table) = Outside table ∷ []
del_entries buckets found r _ = []

-- what a scan leaves in the log: a read for each bucket that can have a key of its range
abbrev pub scan_entries : ℕ → (ℕ → List (ℕ × List Value)) → TableId → ℕ → ℕ → Answer → List LogEntry
scan_entries buckets part table low high (Rows rows) = saws buckets table low high part buckets
scan_entries buckets part table low high (Undeclared other) = Outside other ∷ []
scan_entries buckets part table low high _ = []

-- what a fetch leaves in the log: a read for each bucket that it looked at
abbrev pub fetch_entries : ℕ → Option Rest → (ℕ → List (ℕ × List Value)) → ℕ → Answer → List LogEntry
fetch_entries buckets (Some rest) part looked (Rows rows) = looks buckets rest.table rest.low rest.high part looked
fetch_entries buckets rest part looked answer = []

-- what a commit leaves in the log
abbrev pub commit_entries : Answer → List LogEntry
commit_entries (Committed number) = close (Some number)
commit_entries _ = close None

-- a statement's own entries
abbrev pub own_entries : ℕ → Unprinted → Statement → Answer → List LogEntry
own_entries buckets u (Begin scope) answer = begin_entries scope answer
own_entries buckets u (Get r) answer = get_entries buckets r answer
own_entries buckets u (Put r row) answer = put_entries r row answer
own_entries buckets u (Del r) answer = del_entries buckets u.found r answer
own_entries buckets u (Scan table low high) answer = scan_entries buckets u.part table low high answer
own_entries buckets u (CursorOpen table low high) answer = begin_entries (only (Some table)) answer
own_entries buckets u (Fetch n) answer = fetch_entries buckets u.rest u.part u.looked answer
own_entries buckets u CursorClose answer = close None
own_entries buckets u CommitIt answer = commit_entries answer
own_entries buckets u Rollback answer = Over ∷ map Undid u.undone
own_entries buckets u (Gc kind) answer = []

-- whether a statement reads or writes records
abbrev pub is_access : Statement → Bool
is_access (Get r) = true
is_access (Put r row) = true
is_access (Del r) = true
is_access (Scan table low high) = true
is_access _ = false

-- whether it is a transaction of its own: it reads or writes, and none is open
abbrev pub is_alone : Option Snapshot → Statement → Bool
is_alone None statement = is_access statement
is_alone (Some snapshot) statement = false

-- the log after a statement in a transaction, or after one that is a transaction of its own
abbrev pub log_with : Bool → ℕ → Unprinted → Statement → Reply → List LogEntry → List LogEntry
log_with false buckets u statement reply log = own_entries buckets u statement reply.answer ++ log
log_with true buckets u statement reply log = close reply.number ++ (own_entries buckets u statement reply.answer ++ (Began (unwrap_or reply.at 0) (only (table_of statement)) ∷ log))

-- the log after a statement
abbrev pub log_after : ℕ → Unprinted → Statement → Reply → List LogEntry → List LogEntry
log_after buckets u statement reply log = log_with (is_alone (current log) statement) buckets u statement reply log

-- ---- which replies fit

-- a bucket that can have a key of the range
abbrev pub IsReached : ℕ → TableId → ℕ → ℕ → ℕ → Type 0
IsReached buckets table low high b = (b < buckets) × IsTrue (has_own buckets table low high b)

-- the rows of the parts of these buckets, by ascending key
pub record Joins (Reached : ℕ → Type 0) (part : ℕ → List (ℕ × List Value)) (rows : List (ℕ × List Value)) : Type 0 where
  pub ascend : Ascends (map (λ p. p.0) rows)
  pub each : Each (λ p. (b : ℕ) × Reached b × Contains (part b) p) rows
  pub every : (b : ℕ) → Reached b → Each (λ p. Contains rows p) (part b)

-- The first n rows of the parts of so many looks, and nothing was left out before the last key that was passed: not in those
-- buckets, and in no other one.
pub record Picks (buckets n : ℕ) (table : TableId) (low high looked : ℕ) (part : ℕ → List (ℕ × List Value)) (rows : List (ℕ × List Value)) : Type 0 where
  pub few : length rows ≤ n
  pub within : passed n high rows ≤ high
  pub ascend : Ascends (map (λ p. p.0) rows)
  pub each : Each (λ p. ((i : ℕ) × (i < looked) × Contains (part i) p) × (p.0 ≤ passed n high rows)) rows
  pub every : (i : ℕ) → i < looked → Each (λ p. p.0 ≤ passed n high rows → Contains rows p) (part i)
  pub none_left : (k : ℕ) → low ≤ k → k ≤ passed n high rows → (i : ℕ) × (i < looked) × (bucket_of buckets (record { table = table; key = k }) ≡ bucket_at buckets table low i)

-- an answer to a get of a declared table
abbrev pub IsGetAnswer : Answer → Type 0
IsGetAnswer (Found row) = ⊤
IsGetAnswer Nothing = ⊤
IsGetAnswer _ = ⊥

-- an answer to a del on a declared table
abbrev pub IsDelAnswer : Answer → Type 0
IsDelAnswer Nothing = ⊤
IsDelAnswer Gone = ⊤
IsDelAnswer (Newer number) = ⊤
IsDelAnswer (OpenBy writer) = ⊤
IsDelAnswer _ = ⊥

-- an answer to a scan of a declared table: the rows that the reads of its buckets found
abbrev pub IsScanAnswer : (ℕ → Type 0) → (ℕ → List (ℕ × List Value)) → Answer → Type 0
IsScanAnswer Reached part (Rows rows) = Joins Reached part rows
IsScanAnswer Reached part _ = ⊥

-- an answer to a fetch: the first n rows that the reads of its buckets found
abbrev pub IsFetchAnswer : ℕ → ℕ → Option Rest → (ℕ → List (ℕ × List Value)) → ℕ → Answer → Type 0
IsFetchAnswer buckets n (Some rest) part looked (Rows rows) = Picks buckets n rest.table rest.low rest.high looked part rows
IsFetchAnswer buckets n rest part looked answer = ⊥

-- a statement on a table is refused as undeclared with that table, or else answered so
abbrev pub FitsTable : TableId → Answer → Type 0 → Type 0
FitsTable table (Undeclared other) Else = other.0 ≡ table.0
FitsTable table _ Else = Else

-- one `Undid` for each record written
abbrev pub UndoesAll : List Write → List Rid → Type 0
UndoesAll own undone = NoneTwice undone × ((r : Rid) → is_among r undone ≡ is_some (image_in r own))

-- a `gc` leaves nothing in a log
abbrev pub IsGcAnswer : Answer → Type 0
IsGcAnswer (Swept sweep) = ⊤
IsGcAnswer Beside = ⊤
IsGcAnswer _ = ⊥

-- the answer to a statement of a transaction with these stored writes
abbrev pub FitsAnswer : ℕ → Unprinted → List Write → Statement → Answer → Type 0
FitsAnswer buckets u own (Begin scope) answer = IsBegun answer
FitsAnswer buckets u own (Get r) answer = FitsTable r.table answer (IsGetAnswer answer)
FitsAnswer buckets u own (Put r row) answer = FitsTable r.table answer (IsPut answer)
FitsAnswer buckets u own (Del r) answer = FitsTable r.table answer (IsDelAnswer answer)
FitsAnswer buckets u own (Scan table low high) answer = FitsTable table answer (IsScanAnswer (IsReached buckets table low high) u.part answer)
FitsAnswer buckets u own (CursorOpen table low high) answer = IsBegun answer
FitsAnswer buckets u own (Fetch n) answer = IsFetchAnswer buckets n u.rest u.part u.looked answer
FitsAnswer buckets u own CursorClose answer = IsEnded answer
FitsAnswer buckets u own CommitIt answer = IsCommitted (is_written own) answer
FitsAnswer buckets u own Rollback answer = IsUndone answer × UndoesAll own u.undone
FitsAnswer buckets u own (Gc kind) answer = IsGcAnswer answer

-- rows are of a table in the scope, which a log doesn't say of an empty range: it has no look there
abbrev pub FitsScope : Scope → Statement → Answer → Type 0
FitsScope scope (Scan table low high) (Rows rows) = IsTrue (has scope table)
FitsScope scope statement answer = ⊤

-- a fetch belongs to a transaction
abbrev pub FitsIn : Option Snapshot → Statement → Type 0
FitsIn snapshot (Fetch n) = IsSome snapshot
FitsIn snapshot statement = ⊤

-- The reply to a statement after a log. Whether the answer is right is no matter here: the log's entries say that.
pub record Fits (buckets : ℕ) (u : Unprinted) (log : List LogEntry) (statement : Statement) (reply : Reply) : Type 0 where
  pub at : is_some reply.at ≡ is_alone (current log) statement
  pub number : is_some reply.number ≡ (is_alone (current log) statement && is_some (stored_by statement reply.answer))
  pub answer : FitsAnswer buckets u (own_writes log) statement reply.answer
  pub scope : IfSome (current log) (λ snapshot. FitsScope snapshot.scope statement reply.answer)
  pub inside : FitsIn (current log) statement

-- what a fetch finds left is what its session's cursor has left
abbrev pub HasRest : Statement → Option Rest → Option Rest → Type 0
HasRest (Fetch n) rest left = rest ≡ left
HasRest statement rest left = ⊤

-- ---- the lines that logs give

-- One session: from the log on, the lines are the replies to its records, and the log gains their entries alone. Besides, P
-- holds of each record with its line. The session's cursor has this left before them.
abbrev pub Tells : ℕ → (Record → Line → Type 0) → List LogEntry → Option Rest → List Record → List Line → List LogEntry → Type 0
Tells buckets P log left [] [] final = final ≡ log
Tells buckets P log left [] (line ∷ lines) final = ⊥
Tells buckets P log left (r ∷ rs) [] final = ⊥
Tells buckets P log left (r ∷ rs) (line ∷ lines) final =
    P r line × ((u : Unprinted) × Fits buckets u log r.statement line.reply
    × Tells buckets P (log_after buckets u r.statement line.reply log) (rest_after r.statement line.reply.answer left) rs lines final × HasRest r.statement u.rest left)

-- All sessions, in any order of their records. Besides, P holds of each record with its line and the logs before it.
abbrev pub Follows : ℕ → ((ℕ → List LogEntry) → Record → Line → Type 0) → (ℕ → List LogEntry) → (ℕ → Option Rest) → List Record → List Line → (ℕ → List LogEntry) → Type 0
Follows buckets P logs left [] [] final = (j : ℕ) → final j ≡ logs j
Follows buckets P logs left [] (line ∷ lines) final = ⊥
Follows buckets P logs left (r ∷ rs) [] final = ⊥
Follows buckets P logs left (r ∷ rs) (line ∷ lines) final =
    P logs r line × ((u : Unprinted) × Fits buckets u (logs r.session) r.statement line.reply
    × Follows buckets P (put logs r.session (log_after buckets u r.statement line.reply (logs r.session)))
    (put left r.session (rest_after r.statement line.reply.answer (left r.session))) rs lines final
    × HasRest r.statement u.rest (left r.session))

-- what each session's cursor has left after these lines
abbrev pub left_after : (ℕ → Option Rest) → List Record → List Line → ℕ → Option Rest
left_after left [] lines = left
left_after left (r ∷ rs) [] = left
left_after left (r ∷ rs) (line ∷ lines) = left_after (put left r.session (rest_after r.statement line.reply.answer (left r.session))) rs lines

-- and one session's cursor after its own
abbrev pub rest_over : Option Rest → List Record → List Line → Option Rest
rest_over left [] lines = left
rest_over left (r ∷ rs) [] = left
rest_over left (r ∷ rs) (line ∷ lines) = rest_over (rest_after r.statement line.reply.answer left) rs lines
