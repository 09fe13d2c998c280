-- What a statement asks, without its key and its values.
use Rattle.std.specs.Prelude.{ℕ, Option, Some, None}
use Rattle.hg_base.specs.declared.rid.TableId.{TableId}
use Rattle.hg_base.specs.declared.statement.Record.{Record}
use Rattle.hg_base.specs.declared.statement.Statement.{Statement}
use Rattle.hg_base.specs.declared.statement.Statement.TheVariants as say
use Rattle.hg_records.specs.declared.asked.Asked.{Asked}
use Rattle.hg_records.specs.declared.asked.Asked.TheVariants.{Begin, Get, Put, Del, Scan, CursorOpen, Fetch, CursorClose, Commit, Rollback, Gc}

-- what a statement asks, where `cursor` is the table of the cursor that its session opened last
abbrev pub asked_by : Option TableId → Statement → Asked
asked_by cursor (say.Begin scope) = Begin
asked_by cursor (say.Get r) = Get r.table
asked_by cursor (say.Put r row) = Put r.table
asked_by cursor (say.Del r) = Del r.table
asked_by cursor (say.Scan table low high) = Scan table
asked_by cursor (say.CursorOpen table low high) = CursorOpen table
asked_by cursor (say.Fetch n) = Fetch cursor
asked_by cursor say.CursorClose = CursorClose
asked_by cursor say.Commit = Commit
asked_by cursor say.Rollback = Rollback
asked_by cursor (say.Gc kind) = Gc

-- the table of a get, put, del or scan
abbrev pub table_asked : Asked → Option TableId
table_asked (Get table) = Some table
table_asked (Put table) = Some table
table_asked (Del table) = Some table
table_asked (Scan table) = Some table
table_asked _ = None

-- the session of a record, and what it asks, where `cursor` is the table of that session's last cursor
abbrev pub said_by : Option TableId → Record → ℕ × Asked
said_by cursor r = (r.session, asked_by cursor r.statement)
