-- What a transaction is answered, one equation a statement.
use Rattle.std.specs.Prelude.{ℕ, suc, List, [], ◌∷◌, ◌++◌, map, filter_map, take, Bool, false, ◌&&◌, ◌==◌, nat_lt, nat_le, if◌then◌else◌, Option, Some, None, option_map, is_some}
use Rattle.std.specs.List.{flat_map}
use Rattle.hg_base.specs.declared.rid.Rid.{Rid}
use Rattle.hg_base.specs.declared.rid.TableId.{TableId}
use Rattle.hg_base.specs.declared.image.Image.{Image}
use Rattle.hg_base.specs.declared.writer.Writer.{Writer}
use Rattle.hg_base.specs.declared.value.Value.{Value}
use Rattle.hg_base.specs.declared.report.Kind.{Kind}
use Rattle.hg_base.specs.declared.report.Told.{Told}
use Rattle.hg_base.specs.declared.report.Sweep.{Sweep}
use Rattle.hg_base.specs.declared.statement.Statement.{Statement}
use Rattle.hg_base.specs.declared.statement.Statement.TheVariants.{Begin, Get, Put, Del, Scan, CursorOpen, Fetch, CursorClose, Commit as CommitIt, Rollback, Gc}
use Rattle.hg_base.specs.declared.line.Answer.{Answer}
use Rattle.hg_base.specs.declared.line.Answer.TheVariants.{Begun, Stored, Found, Nothing, Gone, Rows, Committed, Ended, Undone, Newer, OpenBy, Undeclared, Swept}
use Rattle.hg_base.specs.Lists.{numbers_from, greatest}
use Rattle.hg_base.specs.History.{History, writes, seen, image_in, rids_of, group_rids}
use Rattle.hg_base.specs.Transcript.{Rest, has}
use Rattle.hg_base.specs.Replies.{is_written}
use Rattle.hg_exact.specs.State.{Open, State, mark}

-- ---- what is read

-- what it sees of a record: its own last write, or else the table at its snapshot
abbrev pub sees : State → Open → Rid → Image
sees s o r = seen s.history o.wrote o.at r

-- the answer to a get, by the row that the transaction sees
abbrev pub found : Option (List Value) → Answer
found None = Nothing
found (Some row) = Found row

-- a key in its place among some that ascend, none twice
abbrev pub placed : ℕ → List ℕ → List ℕ
placed k [] = k ∷ []
placed k (m ∷ ms) = if nat_lt k m then k ∷ m ∷ ms else if k == m then m ∷ ms else m ∷ placed k ms

-- the keys of a table among some records, ascending
abbrev pub keys_in : TableId → List Rid → List ℕ
keys_in table [] = []
keys_in table (r ∷ rs) = if r.table.0 == table.0 then placed r.key (keys_in table rs) else keys_in table rs

-- the row of a key, if the key is in a range and seen as a row
abbrev pub row_within : (ℕ → Image) → ℕ → ℕ → ℕ → Option (ℕ × List Value)
row_within look low high key = if nat_le low key && nat_le key high then option_map (λ row. (key, row)) (look key).row else None

-- the rows that it sees of a table, from one key to another
abbrev pub rows_seen : State → Open → TableId → ℕ → ℕ → List (ℕ × List Value)
rows_seen s o table low high = filter_map (row_within (λ key. sees s o (record { table = table; key = key })) low high) (keys_in table (flat_map group_rids s.history ++ rids_of o.wrote))

-- the first n rows of what its cursor has left
abbrev pub fetched : State → Open → ℕ → Option Rest → Answer
fetched s o n None = Rows []
fetched s o n (Some rest) = Rows (take n (rows_seen s o rest.table rest.low rest.high))

-- ---- what is written

-- whether a transaction has written a record
abbrev pub has_written : Rid → Open → Bool
has_written r o = is_some (image_in r o.wrote)

-- session j's open transaction, if it has written the record
abbrev pub writer_of : Rid → ℕ → Option Open → Option Writer
writer_of r j None = None
writer_of r j (Some o) = if has_written r o then Some (record { session = j; transaction = o.transaction }) else None

-- the open transactions that have written a record, by session
abbrev pub writers : State → Rid → List Writer
writers s r = filter_map (λ j. writer_of r j (s.opened j)) (numbers_from 1 s.sessions)

-- the number of the newest group that writes a record, and 0 where there is none
abbrev pub newest : History → Rid → ℕ
newest h r = greatest (map (λ w. w.0) (writes h r))

-- A first write is refused for another's open write, or else for a group over the snapshot.
abbrev pub unless_refused : List Writer → ℕ → ℕ → Answer → Answer
unless_refused (w ∷ ws) c at answer = OpenBy w
unless_refused [] c at answer = if nat_lt at c then Newer c else answer

-- a write of what it has written itself is never refused
abbrev pub written : State → Open → Rid → Answer → Answer
written s o r answer = if has_written r o then answer else unless_refused (writers s r) (newest s.history r) o.at answer

-- ---- what is reported

-- how a report names session j's open transaction: by its snapshot, not moved
abbrev pub told_of : ℕ → Option Open → Option Told
told_of j None = None
told_of j (Some o) = Some (record { session = j; number = o.at; moved = false })

-- A collector's report: at the newest commit, with the snapshots of all that is open. What it removes and moves is left out.
abbrev pub report : State → Kind → Sweep
report s kind = record { kind = kind; mark = mark s; horizon = mark s; removed = 0; held = filter_map (λ j. told_of j (s.opened j)) (numbers_from 1 s.sessions) }

-- ---- any statement

-- the answer where the table is declared, and else the refusal
abbrev pub declared : Open → TableId → Answer → Answer
declared o table answer = if has o.scope table then answer else Undeclared table

-- the answer to a statement in a transaction
abbrev pub answer_in : State → Open → Statement → Answer
answer_in s o (Begin scope) = Begun (mark s)
answer_in s o (CursorOpen table low high) = Begun (mark s)
answer_in s o (Get r) = declared o r.table (found (sees s o r).row)
answer_in s o (Scan table low high) = declared o table (Rows (rows_seen s o table low high))
answer_in s o (Fetch n) = fetched s o n o.rest
answer_in s o CursorClose = Ended
answer_in s o (Put r row) = declared o r.table (written s o r Stored)
answer_in s o (Del r) = declared o r.table (if is_some (sees s o r).row then written s o r Gone else Nothing)
answer_in s o CommitIt = if is_written o.wrote then Committed (suc (mark s)) else Ended
answer_in s o Rollback = Undone
answer_in s o (Gc kind) = Swept (report s kind)
