-- The script that is made from a seed: three tables, and 16,000 statements that sessions 1 to 8 make in turn, by numbers that are drawn.
use Rattle.std.specs.Prelude.{◌≡◌, ℕ, zero, suc, pos, ◌+◌, ◌*◌, ◌/◌, ◌%◌, ◌^◌, List, [], ◌∷◌, ◌++◌, length, map, fold, codes, Bool, ◌==◌, nat_le, if◌then◌else◌, ⊤}
use Rattle.hg_base.specs.declared.rid.Rid.{Rid}
use Rattle.hg_base.specs.declared.rid.TableId.{TableId}
use Rattle.hg_base.specs.declared.scope.Scope.TheVariants.{All, Declared}
use Rattle.hg_base.specs.declared.report.Kind.{Kind}
use Rattle.hg_base.specs.declared.report.Kind.TheVariants as kinds
use Rattle.hg_base.specs.declared.statement.Record.{Record}
use Rattle.hg_base.specs.declared.statement.Statement.{Statement}
use Rattle.hg_base.specs.declared.statement.Statement.TheVariants as say
use Rattle.hg_base.specs.declared.value.Column.TheVariants as columns
use Rattle.hg_base.specs.declared.value.Value.{Value}
use Rattle.hg_base.specs.declared.value.Value.TheVariants.{Number}
use Rattle.hg_base.specs.Lists.{numbers_from}
use Rattle.hg_base.specs.Script.{Declaration, Script}
use Rattle.hg_base.specs.Text.{kinds_of}
use Rattle.hg_seed.specs.declared.choice.Choice.{Choice}
use Rattle.hg_seed.specs.declared.choice.Choice.TheVariants.{Begin, BeginC, Get, Put, Del, Scan, Commit, Rollback, Gc}
use Rattle.hg_script.specs.Draft.{table_at}
use Rattle.hg_script.specs.Numbered.{records_before}
use Rattle.hg_script.specs.Rules.{is_open}

-- ---- numbers that are drawn

-- each draw makes a new state of the last, of 64 bits
unfoldable pub next_state : ℕ → ℕ
next_state x = (x * 6364136223846793005 + 1442695040888963407) % 2 ^ 64

-- the number below a bound that a state gives: that of its upper 31 bits
unfoldable pub below : ℕ → ℕ → ℕ
below bound x = (x / 2 ^ 33) % bound

-- the state after n draws
abbrev pub state_after : ℕ → ℕ → ℕ
state_after zero x = x
state_after (suc n) x = next_state (state_after n x)

-- the nth number drawn, counted from 1, below a bound
abbrev pub drawn : ℕ → ℕ → ℕ → ℕ
drawn n bound x = below bound (state_after n x)

-- ---- what is chosen

-- The choice by a number below 16, outside of a transaction. A row takes the numbers up to its own that no row above it takes.
abbrev pub outside : List (ℕ × Choice)
outside =
    (5, Begin)
    ∷ (7, BeginC)
    ∷ (9, Get)
    ∷ (12, Put)
    ∷ (13, Del)
    ∷ (14, Scan)
    ∷ (15, Gc)
    ∷ []

-- the choice by a number below 16, inside a transaction
abbrev pub inside : List (ℕ × Choice)
inside =
    (4, Put)
    ∷ (7, Get)
    ∷ (8, Del)
    ∷ (9, Scan)
    ∷ (13, Commit)
    ∷ (14, Rollback)
    ∷ (15, Gc)
    ∷ []

-- the choice that a list gives to a number
abbrev pub chosen_in : List (ℕ × Choice) → ℕ → Choice
chosen_in [] r = Gc
chosen_in ((last, choice) ∷ more) r = if nat_le r last then choice else chosen_in more r

-- where a transaction is open, or not
abbrev pub chosen : Bool → ℕ → Choice
chosen within r = chosen_in (if within then inside else outside) r

-- ---- statements

-- tables a, b and c, of one, two and one columns of numbers
abbrev pub made_tables : List Declaration
made_tables = (record { name = codes "a"; kinds = columns.Number ∷ [] }) ∷ (record { name = codes "b"; kinds = columns.Number ∷ columns.Number ∷ [] }) ∷
    (record { name = codes "c"; kinds = columns.Number ∷ [] }) ∷ []

-- The table that is drawn. The first draw makes the choice, the second gives the table, and the third the key.
abbrev pub table_drawn : ℕ → TableId
table_drawn x = table_at (drawn 2 3 x)

-- the record that is drawn
abbrev pub rid_drawn : ℕ → Rid
rid_drawn x = record { table = table_drawn x; key = drawn 3 256 x }

-- a draw for each column
abbrev pub row_drawn : ℕ → ℕ → List Value
row_drawn columns x = map (λ n. Number (pos (drawn n 1000 x))) (numbers_from 1 columns)

-- the kind of collector by a number below 3
abbrev pub kind_at : ℕ → Kind
kind_at n = if n == 0 then kinds.Group else (if n == 1 then kinds.Table else kinds.Interval)

-- what is asked by a choice, where the state was x before it was made
abbrev pub statement_by : ℕ → Choice → Statement
statement_by x Begin = say.Begin All
statement_by x BeginC = say.Begin (Declared (2 ^ 2))
statement_by x Get = say.Get (rid_drawn x)
statement_by x Put = say.Put (rid_drawn x) (row_drawn (length (kinds_of made_tables (table_drawn x))) (state_after 3 x))
statement_by x Del = say.Del (rid_drawn x)
statement_by x Scan = say.Scan (table_drawn x) (drawn 3 256 x) (drawn 3 256 x + 15)
statement_by x Commit = say.Commit
statement_by x Rollback = say.Rollback
statement_by x Gc = say.Gc (kind_at (drawn 2 3 x))

-- the statement of a session whose transaction is open, or not
abbrev pub statement_at : ℕ → Bool → Statement
statement_at x within = statement_by x (chosen within (drawn 1 16 x))

-- how many numbers are drawn for a statement; a made script has no cursors
abbrev pub draws_of : Statement → ℕ
draws_of (say.Begin scope) = 1
draws_of (say.Get rid) = 3
draws_of (say.Put rid row) = 3 + length row
draws_of (say.Del rid) = 3
draws_of (say.Scan table low high) = 3
draws_of (say.CursorOpen table low high) = 0
draws_of (say.Fetch n) = 0
draws_of say.CursorClose = 0
draws_of say.Commit = 1
draws_of say.Rollback = 1
draws_of (say.Gc kind) = 2

-- ---- the script

-- the script with what a session adds to it where the state is x
abbrev pub with_drawn : ℕ → ℕ → Script → Script
with_drawn session x s = record s {
  records = s.records ++ (record {
    place = records_before s + length s.records + 1;
    session = session;
    statement = statement_at x (is_open session s.records);
  }) ∷ [];
}

-- the state after what a session added
abbrev pub state_drawn : ℕ → ℕ → Script → ℕ
state_drawn session x s = state_after (draws_of (statement_at x (is_open session s.records))) x

-- the state when the numbers for these records are drawn
abbrev pub state_behind : ℕ → List Record → ℕ
state_behind seed records = fold (λ x r. state_after (draws_of r.statement) x) seed records

-- The record after these. Sessions follow one another, and places go on from the tables.
abbrev pub record_after : ℕ → List Record → Record
record_after seed before =
    let session = length before % 8 + 1 in
    record { place = length before + 4; session = session; statement = statement_at (state_behind seed before) (is_open session before) }

-- each record is the one after those before it
abbrev pub AreMade : ℕ → List Record → List Record → Type 0
AreMade seed before [] = ⊤
AreMade seed before (r ∷ rs) = (r ≡ record_after seed before) × AreMade seed (before ++ r ∷ []) rs

-- the script of a seed: there is one
pub record IsMade (seed : ℕ) (s : Script) : Type 0 where
  pub version : s.version ≡ 1
  pub tables : s.tables ≡ made_tables
  pub many : length s.records ≡ 16000
  pub each : AreMade seed [] s.records
