-- The tables of a lawful script's statements have one to eight columns.
use Rattle.std.proofs.Common.{◌<◌, ◌≤◌, ℕ, zero, suc, List, [], ◌∷◌, length, Bool, true, false, ◌==◌, ◌&&◌, nat_lt, Option, Some, None, if◌then◌else◌, inl, inr, arith}
use Rattle.std.specs.Prelude.{find, IfSome}
use Rattle.std.specs.List.{slice_get}
use Rattle.std.specs.Option.{option_map_or, option_or}
use Rattle.std.proofs.lemmas.Bool.{cases_Bool}
use Rattle.hg_base.specs.declared.rid.TableId.{TableId}
use Rattle.hg_base.specs.declared.statement.Statement.{Statement}
use Rattle.hg_base.specs.declared.statement.Statement.TheVariants.{Get, Put, Del, Scan, CursorOpen}
use Rattle.hg_base.specs.declared.statement.Record.{Record}
use Rattle.hg_base.specs.declared.limits.TheConstants.{MOST_COLUMNS}
use Rattle.hg_base.specs.declared.value.Column.{Column}
use Rattle.hg_base.specs.Lists.{Each}
use Rattle.hg_base.specs.Script.{Declaration, Script}
use Rattle.hg_base.specs.Transcript.{table_of}
use Rattle.hg_base.specs.Text.{cursor_before, kinds_of, opens}
use Rattle.hg_script.specs.Lawful.{IsLawful, IsTable, IsStatement, FitsTables}
use Rattle.hg_report.specs.Guess.{statement_at}

pub record AreFew (kinds : List Column) : Type 0 where
  pub some : 1 ≤ length kinds
  pub most : length kinds ≤ MOST_COLUMNS

among : (tables : List Declaration) (i : ℕ) → Each IsTable tables → i < length tables → AreFew (option_map_or (λ d. d.kinds) (slice_get tables i) [])
among [] i h lt = absurd (omega arith)
among (d ∷ ds) zero h lt = record { some = h.0.some; most = h.0.most }
among (d ∷ ds) (suc i) h lt = among ds i h.1 (omega arith)

-- the table, if there is one, has 1 to 8 columns
abbrev HasFew : List Declaration → Option TableId → Type 0
HasFew tables o = IfSome o (λ table. AreFew (kinds_of tables table))

-- so does the table that a statement names, and the table of its session's cursor
abbrev pub HasColumns : List Declaration → Option TableId → Statement → Type 0
HasColumns tables cursor statement = HasFew tables (table_of statement) × HasFew tables cursor

of : (tables : List Declaration) (statement : Statement) → Each IsTable tables → FitsTables tables statement → HasFew tables (table_of statement)
of tables (Get r) h k = among tables r.table.0 h k
of tables (Put r row) h k = among tables r.table.0 h k.0
of tables (Del r) h k = among tables r.table.0 h k
of tables (Scan table low high) h k = among tables table.0 h k
of tables statement h k = tt

statement_columns : (tables : List Declaration) (r : Record) → Each IsTable tables → IsStatement tables r → HasFew tables (table_of r.statement)
statement_columns tables r h k = of tables r.statement h k.fits

module _ (session place : ℕ) where
  abbrev is_it : Record → Bool
  is_it r = (r.place == place) && (r.session == session)

  found : (tables : List Declaration) (records : List Record) → Each IsTable tables → Each (IsStatement tables) records →
      IfSome (option_map_or (λ r. Some r.statement) (find is_it records) None) (λ statement. HasFew tables (table_of statement))
  found tables [] h k = tt
  found tables (r ∷ rs) h k = elim (cases_Bool (is_it r)) [
    | inl it ↦ rw it (statement_columns tables r h k.0)
    | inr other ↦ rw other (found tables rs h k.1)
  ]

-- ---- the table of a cursor

opened : (tables : List Declaration) (statement : Statement) → Each IsTable tables → FitsTables tables statement → HasFew tables (opens statement)
opened tables (CursorOpen table low high) h k = among tables table.0 h k
opened tables statement h k = tt

either : (tables : List Declaration) (a b : Option TableId) → HasFew tables a → HasFew tables b → HasFew tables (option_or a b)
either tables None b h k = k
either tables (Some table) b h k = h

where_so : (tables : List Declaration) (b : Bool) (o : Option TableId) → HasFew tables o → HasFew tables (if b then o else None)
where_so tables true o h = h
where_so tables false o h = tt

cursor_fits : (tables : List Declaration) (records : List Record) (session place : ℕ) → Each IsTable tables → Each (IsStatement tables) records → HasFew tables (cursor_before records session place)
cursor_fits tables [] session place h k = tt
cursor_fits tables (r ∷ rs) session place h k =
    either tables (cursor_before rs session place) (if (r.session == session) && nat_lt r.place place then opens r.statement else None) (cursor_fits tables rs session place h k.1)
    (where_so tables ((r.session == session) && nat_lt r.place place) (opens r.statement) (opened tables r.statement h k.0.fits))

and_cursor : (tables : List Declaration) (cursor : Option TableId) (o : Option Statement) → HasFew tables cursor → IfSome o (λ statement. HasFew tables (table_of statement)) →
    IfSome o (HasColumns tables cursor)
and_cursor tables cursor None h k = tt
and_cursor tables cursor (Some statement) h k = (k, h)

pub columns_fit : (script : Script) (session place : ℕ) → IsLawful script → IfSome (statement_at script.records session place) (HasColumns script.tables (cursor_before script.records session place))
columns_fit script session place h =
    and_cursor script.tables (cursor_before script.records session place) (statement_at script.records session place) (cursor_fits script.tables script.records session place h.tables h.statements)
    (found session place script.tables script.records h.tables h.statements)
