-- Which lines a command prints, and in which order.
use Rattle.std.specs.Prelude.{◌≡◌, List, [], ◌∷◌, Bool, true, false, ◌==◌, IsTrue, Option, Some, None, ⊤}
use Rattle.std.specs.Bool.{MatchBool}
use Rattle.hg_base.specs.declared.statement.Statement.{Statement}
use Rattle.hg_base.specs.declared.statement.Statement.TheVariants.{Gc}
use Rattle.hg_base.specs.declared.statement.Record.{Record}
use Rattle.hg_base.specs.declared.report.Kind.{Kind}
use Rattle.hg_base.specs.declared.report.Kind.TheVariants as kinds
use Rattle.hg_base.specs.declared.report.Sweep.{Sweep}
use Rattle.hg_base.specs.declared.line.Answer.{Answer}
use Rattle.hg_base.specs.declared.line.Answer.TheVariants.{Swept}
use Rattle.hg_base.specs.declared.line.Reply.{Reply}
use Rattle.hg_base.specs.declared.line.Line.{Line}

-- whether two collectors are of one kind
abbrev pub same_kind : Kind → Kind → Bool
same_kind kinds.Group kinds.Group = true
same_kind kinds.Table kinds.Table = true
same_kind kinds.Interval kinds.Interval = true
same_kind _ _ = false

-- the report that a reply gives, if it does
abbrev pub report_of : Reply → Option Sweep
report_of reply = elim reply.answer [ Swept sweep ↦ Some sweep | _ ↦ None ]

-- the report of the collector that the record names
abbrev pub IsReportOf : Statement → Answer → Type 0
IsReportOf (Gc kind) (Swept sweep) = IsTrue (same_kind sweep.kind kind)
IsReportOf _ _ = ⊥

-- The line of a record: its session and place. A record of session 0 stands for a collector's round, and is answered by its report.
pub record IsLineOf (r : Record) (line : Line) : Type 0 where
  pub session : line.session ≡ r.session
  pub place : line.place ≡ r.place
  pub report : MatchBool (r.session == 0) (IsReportOf r.statement line.reply.answer) ⊤

-- a line for each record, in order
abbrev pub HasShape : List Record → List Line → Type 0
HasShape [] [] = ⊤
HasShape [] (line ∷ lines) = ⊥
HasShape (r ∷ rs) [] = ⊥
HasShape (r ∷ rs) (line ∷ lines) = IsLineOf r line × HasShape rs lines
