-- A replay with a conflict, a rollback and a collector's pass; and a run.
use Rattle.std.specs.Prelude.{ℕ, List, [], ◌∷◌, ◌==◌, if◌then◌else◌, Option, Some, None, pos}
use Rattle.hg_base.specs.declared.value.Value.TheVariants.{Number}
use Rattle.hg_base.specs.declared.rid.Rid.{Rid}
use Rattle.hg_base.specs.declared.image.Image.{Image}
use Rattle.hg_base.specs.declared.scope.Scope.TheVariants.{All}
use Rattle.hg_base.specs.declared.report.Kind.{Kind}
use Rattle.hg_base.specs.declared.report.Kind.TheVariants as kinds
use Rattle.hg_base.specs.declared.report.Report.{Report}
use Rattle.hg_base.specs.declared.statement.Record.{Record}
use Rattle.hg_base.specs.declared.statement.Statement.{Statement}
use Rattle.hg_base.specs.declared.statement.Statement.TheVariants.{Begin, Put, Rollback, Gc}
use Rattle.hg_base.specs.declared.line.Answer.{Answer}
use Rattle.hg_base.specs.declared.line.Answer.TheVariants.{Begun, Stored, OpenBy, Undone, Swept}
use Rattle.hg_base.specs.declared.line.Line.{Line}
use Rattle.hg_base.specs.declared.line.Totals.{Totals}
use Rattle.hg_base.specs.History.{History}

-- the one record that is written
abbrev pub five : Rid
five = record { table = record { 0 = 0 }; key = 5 }

-- an image of that record, with the number n
abbrev pub image : ℕ → Image
image n = record { row = Some (Number (pos n) ∷ []) }

-- a record of the script
abbrev pub asked : ℕ → ℕ → Statement → Record
asked place session statement = record { place = place; session = session; statement = statement }

-- the script: session 1 writes the record; session 2 writes it in a transaction, so session 1 may not; session 2 rolls back
abbrev pub records : List Record
records = asked 1 1 (Put five (Number (pos 7) ∷ [])) ∷ asked 2 2 (Begin All) ∷ asked 3 2 (Put five (Number (pos 8) ∷ [])) ∷ asked 4 1
    (Put five (Number (pos 9) ∷ [])) ∷ asked 5 2 Rollback ∷ asked 6 1 (Gc kinds.Interval) ∷ []

-- a line of the printed text
abbrev pub line : ℕ → ℕ → Option ℕ → Answer → Option ℕ → Line
line place session at answer number = record { session = session; place = place; reply = record { at = at; answer = answer; number = number } }

-- the lines of the replay
abbrev pub lines : List Line
lines =
    line 1 1 (Some 0) Stored (Some 1) ∷ line 2 2 None (Begun 1) None ∷ line 3 2 None Stored None ∷ line 4 1 (Some 1) (OpenBy (record { session = 2; transaction = 1 })) None ∷ line 5 2 None Undone None
    ∷ line 6 1 None (Swept (record { kind = kinds.Interval; mark = 1; horizon = 1; removed = 0; held = [] })) None ∷ []

-- the history after it: one group, of session 1
abbrev pub history : History
history = (record { session = 1; transaction = 1; at = 0; images = record { rid = five; image = image 7 } ∷ [] } ∷ []) ∷ []

-- its totals: two versions were made, one was taken back, and one is left
abbrev pub totals : Totals
totals = record { made = 2; undone = 1; group = 0; table = 0; interval = 0; left = 1 }

-- ---- a run of one record, with one round of each collector

-- the script of the run: session 1 writes the record
abbrev pub run_records : List Record
run_records = asked 1 1 (Put five (Number (pos 7) ∷ [])) ∷ []

-- the lines of session j in the run
abbrev pub session_lines : ℕ → List Line
session_lines j = if 1 == j then line 1 1 (Some 0) Stored (Some 1) ∷ [] else []

-- the report of a collector's one round, which met no session and removed nothing
abbrev pub report : Kind → Report
report kind = record { kind = kind; mark = 1; horizon = 1; removed = 0; entries = record { list = []; room = 0 } }
