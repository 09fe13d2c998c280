-- Snapshots, marks, horizons and held snapshots are in order. Own.
use Rattle.std.specs.Prelude.{◌≡◌, ℕ, ◌≤◌, List, [], ◌∷◌, length, map, filter, filter_map, Bool, true, false, ◌&&◌, ◌==◌, if◌then◌else◌, IsTrue, Option, Some, None, IfSome, ⊤}
use Rattle.std.specs.List.{flat_map, list_any}
use Rattle.std.specs.Option.{option_map_or}
use Rattle.std.specs.Bool.{MatchBool}
use Rattle.hg_base.specs.declared.scope.Scope.{Scope}
use Rattle.hg_base.specs.declared.scope.Scope.TheVariants.{All, Declared}
use Rattle.hg_base.specs.declared.statement.Statement.{Statement}
use Rattle.hg_base.specs.declared.report.Kind.{Kind}
use Rattle.hg_base.specs.declared.report.Told.{Told}
use Rattle.hg_base.specs.declared.report.Sweep.{Sweep}
use Rattle.hg_base.specs.declared.line.Answer.TheVariants.{Begun, Newer, Swept}
use Rattle.hg_base.specs.Lists.{Each, Ascends, numbers_from, greatest, present}
use Rattle.hg_base.specs.Script.{Mode}
use Rattle.hg_base.specs.History.{History}
use Rattle.hg_base.specs.Transcript.{Said, open_of, committed, greatest_commit}
use Rattle.hg_base.specs.Shape.{same_kind, report_of, IsReportOf}
use Rattle.hg_base.specs.Conflicts.{OnReplay}

-- the snapshot that a line prints
abbrev pub snapshot_of : Said → Option ℕ
snapshot_of said = elim said.reply.answer [ Begun s ↦ Some s | _ ↦ said.reply.at ]

-- the number of the newer commit for which a line refuses a write
abbrev pub newer_of : Said → Option ℕ
newer_of said = elim said.reply.answer [ Newer c ↦ Some c | _ ↦ None ]

-- every snapshot, commit number and `newer` number of a line
abbrev pub numbers_of : Said → List ℕ
numbers_of said = present (snapshot_of said ∷ committed said ∷ newer_of said ∷ [])

-- every such number of the earlier lines of session j
abbrev pub known : ℕ → List Said → List ℕ
known j earlier = flat_map numbers_of (filter (λ said. said.session == j) earlier)

-- a session with the snapshot of its open transaction
abbrev pub open_snapshot : ℕ → Option Said → Option (ℕ × ℕ)
open_snapshot j None = None
open_snapshot j (Some said) = Some (j, said.at)

-- the sessions with an open transaction, each with its snapshot, by ascending session
abbrev pub open_snapshots : List Said → List (ℕ × ℕ)
open_snapshots earlier = filter_map (λ j. open_snapshot j (open_of j earlier)) (numbers_from 1 (greatest (map (λ said. said.session) earlier)))

-- in a replay a report is that of its `gc` record, at the newest commit, with exactly the open snapshots
pub record IsReplayed (earlier : List Said) (statement : Statement) (sweep : Sweep) : Type 0 where
  pub kind : IsReportOf statement (Swept sweep)
  pub mark : sweep.mark ≡ greatest_commit earlier
  pub horizon : sweep.horizon ≡ sweep.mark
  pub held : map (λ told. (told.session, told.number)) sweep.held ≡ open_snapshots earlier

-- in a replay each snapshot is the newest commit, and each `newer` number was printed before
pub record IsExact (earlier : List Said) (now : Said) : Type 0 where
  pub snapshot : IfSome (snapshot_of now) (λ s. s ≡ greatest_commit earlier)
  pub newer : IfSome (newer_of now) (λ c. IsTrue (list_any (λ n. n == c) (filter_map committed earlier)))
  pub report : IfSome (report_of now.reply) (IsReplayed earlier now.statement)

-- whether a scope names its tables
abbrev pub is_declared : Scope → Bool
is_declared All = false
is_declared (Declared mask) = true

-- whether the line prints that snapshot of that session
abbrev pub prints : Told → Said → Bool
prints told said = (said.session == told.session) && option_map_or (λ s. s == told.number) (snapshot_of said) false

-- a held snapshot was printed by its session, and one that was moved by a transaction that declared its tables
pub record IsHeld (all : List Said) (told : Told) : Type 0 where
  pub printed : IsTrue (list_any (prints told) all)
  pub declared : MatchBool told.moved (IsTrue (list_any (λ said. prints told said && is_declared said.scope) all)) ⊤

-- the mark of a report of that collector
abbrev pub mark_of : Kind → Said → Option ℕ
mark_of kind said = elim (report_of said.reply) [ None ↦ None | Some sweep ↦ if same_kind sweep.kind kind then Some sweep.mark else None ]

-- the marks of a collector do not fall, a horizon is at most its mark, and a mark at most the number of groups
pub record IsReported (h : History) (all : List Said) (earlier : List Said) (sweep : Sweep) : Type 0 where
  pub rising : Each (λ mark. mark ≤ sweep.mark) (filter_map (mark_of sweep.kind) earlier)
  pub horizon : sweep.horizon ≤ sweep.mark
  pub mark : sweep.mark ≤ length h
  pub sessions : Ascends (map (λ told. told.session) sweep.held)
  pub held : Each (IsHeld all) sweep.held

-- of one line: a snapshot is at least every number that its session's earlier lines print
pub record IsFresh (mode : Mode) (h : History) (all : List Said) (earlier : List Said) (now : Said) : Type 0 where
  pub rising : IfSome (snapshot_of now) (λ s. Each (λ n. n ≤ s) (known now.session earlier))
  pub exact : OnReplay mode (IsExact earlier now)
  pub report : IfSome (report_of now.reply) (IsReported h all earlier)
