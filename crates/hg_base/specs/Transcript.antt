-- What a printed text says: the replies to the records, the transactions that they belong to, and the commits that they print.
-- Own: that a statement outside a transaction is a transaction of its own, which declares its one table.
use Rattle.std.specs.Prelude.{ℕ, suc, ◌/◌, ◌%◌, ◌^◌, List, [], ◌∷◌, ◌++◌, length, map, filter, filter_map, find, Bool, true, false, not, ◌&&◌, ◌||◌, ◌==◌, nat_lt, if◌then◌else◌, Option}
use Rattle.std.specs.Prelude.{Some, None, option_map, unwrap_or}
use Rattle.std.specs.List.{flat_map, cons_option}
use Rattle.hg_base.specs.declared.rid.TableId.{TableId}
use Rattle.hg_base.specs.declared.scope.Scope.{Scope}
use Rattle.hg_base.specs.declared.scope.Scope.TheVariants.{All, Declared}
use Rattle.hg_base.specs.declared.statement.Statement.{Statement}
use Rattle.hg_base.specs.declared.statement.Statement.TheVariants.{Begin, Get, Put, Del, Scan, CursorOpen, Fetch, CursorClose, Commit as CommitIt, Rollback, Gc}
use Rattle.hg_base.specs.declared.statement.Record.{Record}
use Rattle.hg_base.specs.declared.report.Kind.{Kind}
use Rattle.hg_base.specs.declared.report.Kind.TheVariants as kinds
use Rattle.hg_base.specs.declared.line.Answer.{Answer}
use Rattle.hg_base.specs.declared.line.Answer.TheVariants.{Begun, Stored, Gone, Rows, Committed}
use Rattle.hg_base.specs.declared.line.Reply.{Reply}
use Rattle.hg_base.specs.declared.line.Line.{Line}
use Rattle.hg_base.specs.declared.value.Value.{Value}
use Rattle.hg_base.specs.Lists.{numbers_from, greatest}
use Rattle.hg_base.specs.Script.{Mode, replay, run}
use Rattle.hg_base.specs.History.{Write, Commit, Group, History, same_rid, nothing}

-- ---- which records have lines

-- sessions run from 1 to the greatest that is named
abbrev pub sessions_of : List Record → List ℕ
sessions_of records = numbers_from 1 (greatest (map (λ r. r.session) records))

-- the records of session j
abbrev pub of_session : ℕ → List Record → List Record
of_session j records = filter (λ r. r.session == j) records

-- the reports of a collector's worker stand as `gc` records of session 0, one for each round
abbrev pub rounds_of : Kind → ℕ → List Record
rounds_of kind rounds = map (λ n. record { place = n; session = 0; statement = Gc kind }) (numbers_from 1 rounds)

-- The records in the order of their lines. In a replay they are those of the script. In a run they are those of
-- each session by session number, and then the rounds of the group, the table and the interval collector.
abbrev pub in_order : Mode → List Record → List Record
in_order replay records = records
in_order (run rounds) records = flat_map (λ j. of_session j records) (sessions_of records) ++ rounds_of kinds.Group rounds ++ rounds_of kinds.Table rounds ++ rounds_of kinds.Interval rounds

-- ---- the transaction that a record belongs to

-- A record with its reply, and the transaction that it belongs to: the number among the session's, counted from 1, its
-- snapshot and its scope, and whether the record is a transaction of its own. A `gc` belongs to none, with number 0.
pub record Said : Type 0 where
  pub session : ℕ
  pub place : ℕ
  pub transaction : ℕ
  pub at : ℕ
  pub scope : Scope
  pub alone : Bool
  pub statement : Statement
  pub reply : Reply

-- whether a statement ends its transaction
abbrev pub is_end : Statement → Bool
is_end CommitIt = true
is_end Rollback = true
is_end CursorClose = true
is_end _ = false

-- whether a line is the last of its transaction
abbrev pub ends : Said → Bool
ends said = said.alone || is_end said.statement

-- the session's last record that belongs to a transaction, of those before, newest first
abbrev pub last_of : ℕ → List Said → Option Said
last_of j earlier = find (λ said. (said.session == j) && nat_lt 0 said.transaction) earlier

-- the transaction that is open after a session's last record, as that record shows it
abbrev pub open_after : Option Said → Option Said
open_after None = None
open_after (Some last) = if ends last then None else Some last

-- the number of the session's next transaction
abbrev pub next_after : Option Said → ℕ
next_after None = 1
next_after (Some last) = suc last.transaction

-- the session's open transaction
abbrev pub open_of : ℕ → List Said → Option Said
open_of j earlier = open_after (last_of j earlier)

-- the snapshot that a `begin` or an `open` is answered
abbrev pub begun : Reply → ℕ
begun reply = elim reply.answer [ Begun s ↦ s | _ ↦ 0 ]

-- the table that a get, put, del or scan names
abbrev pub table_of : Statement → Option TableId
table_of (Get r) = Some r.table
table_of (Put r row) = Some r.table
table_of (Del r) = Some r.table
table_of (Scan table low high) = Some table
table_of _ = None

-- the one table as a declared set
abbrev pub only : Option TableId → Scope
only None = All
only (Some table) = Declared (2 ^ table.0)

-- whether a scope has the table
abbrev pub has : Scope → TableId → Bool
has All table = true
has (Declared mask) table = (mask / 2 ^ table.0) % 2 == 1

-- Every other statement but a `gc` belongs to the open transaction, and is one of its own, the next, where none is open.
abbrev pub standing : Option Said → ℕ → Record → Reply → Said
standing None next r reply = record {
  session = r.session;
  place = r.place;
  transaction = next;
  at = unwrap_or reply.at 0;
  scope = only (table_of r.statement);
  alone = true;
  statement = r.statement;
  reply = reply;
}
standing (Some opened) next r reply = record {
  session = r.session;
  place = r.place;
  transaction = opened.transaction;
  at = opened.at;
  scope = opened.scope;
  alone = false;
  statement = r.statement;
  reply = reply;
}

-- the record and its reply, after the session's last record that belongs to a transaction
abbrev pub said_after : Option Said → Record → Reply → Statement → Said
said_after last r reply (Begin scope) = record {
  session = r.session;
  place = r.place;
  transaction = next_after last;
  at = begun reply;
  scope = scope;
  alone = false;
  statement = r.statement;
  reply = reply;
}
said_after last r reply (CursorOpen table low high) = record {
  session = r.session;
  place = r.place;
  transaction = next_after last;
  at = begun reply;
  scope = only (Some table);
  alone = false;
  statement = r.statement;
  reply = reply;
}
said_after last r reply (Gc kind) = record { session = r.session; place = r.place; transaction = 0; at = 0; scope = All; alone = false; statement = r.statement; reply = reply }
said_after last r reply _ = standing (open_after last) (next_after last) r reply

-- the record and its reply, after the records before it, newest first
abbrev pub said : List Said → Record → Reply → Said
said earlier r reply = said_after (last_of r.session earlier) r reply r.statement

-- the records and their replies, in the order of the lines
abbrev pub said_from : List Said → List Record → List Line → List Said
said_from earlier [] lines = []
said_from earlier (r ∷ rs) [] = []
said_from earlier (r ∷ rs) (line ∷ lines) = let now = said earlier r line.reply in now ∷ said_from (now ∷ earlier) rs lines

-- whether the record belongs to transaction x of session j
abbrev pub is_of : ℕ → ℕ → Said → Bool
is_of j x said = (said.session == j) && (said.transaction == x)

-- ---- what a cursor has left

-- the keys of a table from one to another, both included
pub record Rest : Type 0 where
  pub table : TableId
  pub low : ℕ
  pub high : ℕ

-- the key of the last row, and another number where there is none
abbrev pub last_key : ℕ → List (ℕ × List Value) → ℕ
last_key none [] = none
last_key none (p ∷ []) = p.0
last_key none (p ∷ q ∷ rows) = last_key none (q ∷ rows)

-- The last key that a fetch of n rows up to `high` has passed: that of its last row where it returned n rows, and otherwise
-- `high`.
abbrev pub passed : ℕ → ℕ → List (ℕ × List Value) → ℕ
passed n high rows = if nat_lt (length rows) n then high else last_key high rows

-- what is left after the rows that a fetch of n returned
abbrev pub rest_behind : ℕ → List (ℕ × List Value) → Rest → Rest
rest_behind n rows rest = record { table = rest.table; low = suc (passed n rest.high rows); high = rest.high }

-- what the cursor of a transaction has left after a record of it, with its answer; a `begin` has none
abbrev pub rest_after : Statement → Answer → Option Rest → Option Rest
rest_after (Begin scope) answer rest = None
rest_after (CursorOpen table low high) answer rest = Some (record { table = table; low = low; high = high })
rest_after (Fetch n) (Rows rows) rest = option_map (rest_behind n rows) rest
rest_after _ _ rest = rest

-- what the cursor of transaction x of session j has left after these records, newest first
abbrev pub rest_in : ℕ → ℕ → List Said → Option Rest
rest_in j x [] = None
rest_in j x (said ∷ earlier) = if is_of j x said then rest_after said.statement said.reply.answer (rest_in j x earlier) else rest_in j x earlier

-- ---- what the records of a transaction write and commit

-- the write that a statement with this answer stored: a put that is answered `stored`, or a del that is answered `gone`
abbrev pub stored_by : Statement → Answer → Option Write
stored_by (Put r row) Stored = Some (record { rid = r; image = record { row = Some row } })
stored_by (Del r) Gone = Some (record { rid = r; image = nothing })
stored_by _ _ = None

-- the write that a line says was stored
abbrev pub stored : Said → Option Write
stored said = stored_by said.statement said.reply.answer

-- the stored writes of transaction x of session j, in the order of the list
abbrev pub stored_in : ℕ → ℕ → List Said → List Write
stored_in j x list = filter_map stored (filter (is_of j x) list)

-- the stored writes of the transaction of `now` before it, newest first
abbrev pub own_writes : List Said → Said → List Write
own_writes earlier now = stored_in now.session now.transaction earlier

-- the number that a `commit` is answered
abbrev pub committed_by : Statement → Answer → Option ℕ
committed_by CommitIt (Committed c) = Some c
committed_by _ _ = None

-- The commit number that a record prints for its transaction: by its `commit`, or outside by its one statement.
abbrev pub committed : Said → Option ℕ
committed said = if said.alone then said.reply.number else committed_by said.statement said.reply.answer

-- the commit numbers of transaction x of session j
abbrev pub numbers_in : ℕ → ℕ → List Said → List ℕ
numbers_in j x list = filter_map committed (filter (is_of j x) list)

-- of each record the first write, where the newest stand first: so its last image
abbrev pub last_images : List Write → List Write
last_images [] = []
last_images (w ∷ ws) = w ∷ filter (λ v. not (same_rid w.rid v.rid)) (last_images ws)

-- the transaction of `now` as a commit: each record that it writes, with the image of its last stored write
abbrev pub commit_by : List Said → Said → Commit
commit_by earlier now = record { session = now.session; transaction = now.transaction; at = now.at; images = last_images (own_writes (now ∷ earlier) now) }

-- the commit that `now` prints, with its number
abbrev pub commit_of : List Said → Said → Option (ℕ × Commit)
commit_of earlier now = option_map (λ c. (c, commit_by earlier now)) (committed now)

-- every commit that these lines print, after the earlier ones, with its number
abbrev pub commits_from : List Said → List Said → List (ℕ × Commit)
commits_from earlier [] = []
commits_from earlier (now ∷ later) = cons_option (commit_of earlier now) (commits_from (now ∷ earlier) later)

-- every commit that lines print, with its number
abbrev pub commits : List Said → List (ℕ × Commit)
commits all = commits_from [] all

-- the greatest commit number that lines print
abbrev pub greatest_commit : List Said → ℕ
greatest_commit all = greatest (filter_map committed all)

-- a commit put before the first of a greater session
abbrev pub put_by_session : Commit → Group → Group
put_by_session c [] = c ∷ []
put_by_session c (d ∷ ds) = if nat_lt d.session c.session then d ∷ put_by_session c ds else c ∷ d ∷ ds

-- group n: the commits that are printed with the number n, by session
abbrev pub group_of : List (ℕ × Commit) → ℕ → Group
group_of [] n = []
group_of (p ∷ printed) n = if p.0 == n then put_by_session p.1 (group_of printed n) else group_of printed n

-- the history that the printed numbers give, from 1 to the greatest
abbrev pub history_of : List Said → History
history_of all = let printed = commits all in map (group_of printed) (numbers_from 1 (greatest_commit all))
