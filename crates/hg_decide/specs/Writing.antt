-- How an example is written down: each record of the script with the line that answers it.
use Rattle.std.specs.Prelude.{ℕ, ℤ, List, [], ◌∷◌, ◌++◌, map, true, false, Some, None, codes}
use Rattle.hg_base.specs.declared.rid.TableId.{TableId}
use Rattle.hg_base.specs.declared.value.Value.TheVariants.{Number}
use Rattle.hg_base.specs.declared.value.Column.TheVariants as columns
use Rattle.hg_base.specs.declared.statement.Statement.{Statement}
use Rattle.hg_base.specs.declared.statement.Statement.TheVariants.{Get, Put, Del}
use Rattle.hg_base.specs.declared.statement.Record.{Record}
use Rattle.hg_base.specs.declared.report.Kind.{Kind}
use Rattle.hg_base.specs.declared.report.Told.{Told}
use Rattle.hg_base.specs.declared.line.Answer.{Answer}
use Rattle.hg_base.specs.declared.line.Answer.TheVariants.{Found, Rows, Swept}
use Rattle.hg_base.specs.declared.line.Line.{Line}
use Rattle.hg_base.specs.declared.line.Totals.{Totals}
use Rattle.hg_base.specs.declared.line.Printed.{Printed}
use Rattle.hg_base.specs.Script.{Declaration, Script}
use Rattle.hg_base.specs.Text.{Field}

-- a script with what is printed for it
pub record Example : Type 0 where
  pub script : Script
  pub printed : Printed

-- a record of a script with the line that answers it
abbrev pub Exchange : Type 0
Exchange = Record × Line

-- the script and the printed text of these exchanges
abbrev pub example : List Declaration → List Exchange → Totals → Example
example tables exchanges sums = record { script = record { version = 1; tables = tables; records = map (λ e. e.0) exchanges }; printed = record { lines = map (λ e. e.1) exchanges; totals = sums } }

-- made, undone, removed by the group, the table and the interval collector, and left
abbrev pub totals : ℕ → ℕ → ℕ → ℕ → ℕ → ℕ → Totals
totals made undone group table interval left = record { made = made; undone = undone; group = group; table = table; interval = interval; left = left }

-- ---- tables and statements

-- the first table, declared by `table,t,1`
abbrev pub t : TableId
t = record { 0 = 0 }

-- the second table, declared by `table,u,1`
abbrev pub u : TableId
u = record { 0 = 1 }

-- the declaration of table t
abbrev pub only_t : List Declaration
only_t = record { name = codes "t"; kinds = columns.Number ∷ [] } ∷ []

-- the declarations of both tables
abbrev pub t_and_u : List Declaration
t_and_u = record { name = codes "t"; kinds = columns.Number ∷ [] } ∷ record { name = codes "u"; kinds = columns.Number ∷ [] } ∷ []

-- a get of this key
abbrev pub get : TableId → ℕ → Statement
get table key = Get (record { table = table; key = key })

-- a put of one number at this key
abbrev pub put : TableId → ℕ → ℤ → Statement
put table key value = Put (record { table = table; key = key }) (Number value ∷ [])

-- a del of this key
abbrev pub del : TableId → ℕ → Statement
del table key = Del (record { table = table; key = key })

-- ---- answers

-- a row of one number, as a get finds it
abbrev pub row : ℤ → Answer
row value = Found (Number value ∷ [])

-- the rows of one number that a scan finds, each with its key
abbrev pub rows : List (ℕ × ℤ) → Answer
rows found = Rows (map (λ p. (p.0, Number p.1 ∷ [])) found)

-- the report of a pass: its mark, its horizon, how many versions it removed, and the snapshots that it met
abbrev pub swept : Kind → ℕ → ℕ → ℕ → List Told → Answer
swept kind mark horizon removed held = Swept (record { kind = kind; mark = mark; horizon = horizon; removed = removed; held = held })

-- a held snapshot that was moved
abbrev pub moved_of : ℕ → ℕ → Told
moved_of session number = record { session = session; number = number; moved = true }

-- a held snapshot that was not moved
abbrev pub unmoved_of : ℕ → ℕ → Told
unmoved_of session number = record { session = session; number = number; moved = false }

-- ---- lines: the session, the place of the record, and the answer

-- a line that prints its answer alone: that of a statement in a transaction, or of a `gc`
abbrev pub line : ℕ → ℕ → Answer → Line
line session place answer = record { session = session; place = place; reply = record { at = None; answer = answer; number = None } }

-- a statement in a transaction with its answer
abbrev pub inside : ℕ → ℕ → Statement → Answer → Exchange
inside session place statement answer = (record { place = place; session = session; statement = statement }, line session place answer)

-- outside a transaction, at a snapshot
abbrev pub outside : ℕ → ℕ → Statement → ℕ → Answer → Exchange
outside session place statement at answer =
    (record { place = place; session = session; statement = statement }, record { session = session; place = place; reply = record { at = Some at; answer = answer; number = None } })

-- the same, of a write that is committed with a number
abbrev pub outside_commit : ℕ → ℕ → Statement → ℕ → Answer → ℕ → Exchange
outside_commit session place statement at answer number =
    (record { place = place; session = session; statement = statement }, record { session = session; place = place; reply = record { at = Some at; answer = answer; number = Some number } })

-- ---- the bytes

-- a record of a text: fields joined by commas, and a line feed
abbrev pub plain_row : List Field → List ℕ
plain_row [] = codes "\n"
plain_row (f ∷ []) = f ++ codes "\n"
plain_row (f ∷ g ∷ more) = f ++ codes "," ++ plain_row (g ∷ more)
