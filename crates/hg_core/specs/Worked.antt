-- Runs of two sessions and a pass. In each, session 2 commits a write, so that the mark grows from 0 to 1.
use Rattle.std.specs.Prelude.{List, [], ◌∷◌, ◌++◌, Some, None, pos}
use Rattle.hg_base.specs.declared.rid.Rid.{Rid}
use Rattle.hg_base.specs.declared.value.Value.TheVariants.{Number}
use Rattle.hg_base.specs.declared.image.Image.{Image}
use Rattle.hg_base.specs.declared.scope.Scope.TheVariants.{All, Declared}
use Rattle.hg_base.specs.declared.report.Kind.TheVariants.{Interval}
use Rattle.hg_core.specs.declared.ask.Ask.TheVariants.{Outside}
use Rattle.hg_core.specs.Events.{Event, Declare, Probe, Enter, Fix, GoLive, End, Mark, Sample, SampleMask, Move, Miss, Install, Undo, Stamp, Publish, Reclaim, Take, Look}
use Rattle.hg_core.specs.Steps.{Step, Act, Arrive, Leave, Split, Unite, acts}
use Rattle.hg_base.specs.declared.statement.Statement.TheVariants.{Begin, Put, Commit as CommitIt}
use Rattle.hg_base.specs.declared.line.Answer.{Answer}
use Rattle.hg_base.specs.declared.line.Answer.TheVariants.{Begun, Stored, Committed}
use Rattle.hg_base.specs.declared.line.Reply.{Reply}
use Rattle.hg_core.specs.declared.log.LogEntry.{LogEntry}
use Rattle.hg_core.specs.declared.visit.Removed.{Removed}
use Rattle.hg_core.specs.Reading.{Unprinted, log_after, Fits}

-- a record of table 0
abbrev pub one_rid : Rid
one_rid = record { table = record { 0 = 0 }; key = 5 }

-- another record of table 0
abbrev pub two_rid : Rid
two_rid = record { table = record { 0 = 0 }; key = 6 }

-- a row, as it is written to one of them
abbrev pub row : Image
row = record { row = Some (Number (pos 7) ∷ []) }

-- session 2 begins, writes a row, commits it, and is over
abbrev pub commits : List Event
commits = Declare 2 All ∷ Probe 2 ∷ Enter 2 0 ∷ Fix 2 0 ∷ GoLive 2 0 All ∷ Install 2 one_rid row ∷ Stamp 2 one_rid ∷ Publish (2 ∷ []) ∷ End 2 ∷ []

-- Session 1 declares a table, and loads the mark 0 twice. Session 2 commits, so the mark is 1. A pass loads the mark, finds
-- session 1 entering at 0 and session 2 idle. Then session 1 goes live at 0.
abbrev pub slow_begin : List Step
slow_begin = acts (Declare 1 (Declared 1) ∷ Probe 1 ∷ Enter 1 0 ∷ Fix 1 0 ∷ commits ++ Mark 0 (λ j. 0) ∷ Sample 0 1 ∷ Sample 0 2 ∷ GoLive 1 0 (Declared 1) ∷ [])

-- The pass takes the group. It visits the bucket, and takes away what session 1 doesn't need of the record. It is split. Both
-- passes begin a record and find session 1 live at 0. The first loads its mask, and moves that snapshot to the table that it
-- declared; the other comes too late. Session 1 names another table, writes another record, takes that back, and is over.
abbrev pub two_passes : List Step
two_passes = Act (Take 0) ∷ Arrive 0 0 ∷ Act (Reclaim 0 Interval one_rid) ∷ Leave 0 ∷ Split 0 ∷ acts
    (Mark 0 (λ j. 0) ∷ Sample 0 1 ∷ Mark 1 (λ j. 0) ∷ Sample 1 1 ∷ SampleMask 0 1 ∷ Move 0 1 ∷ Miss 1 1 0 ∷ Look 1 (Outside (record { 0 = 1 })) 0 [] ∷ Install 1 two_rid row ∷
    Undo 1 two_rid ∷ End 1 ∷ [])

-- and the two passes become one
abbrev pub long_snapshot : List Step
long_snapshot = two_passes ++ Unite 0 1 1 ∷ []

-- Session 1 loads the mark 0. Session 2 commits. A pass loads the mark 1 and finds session 1 idle, which then enters at 0.
abbrev pub late_entry : List Step
late_entry = acts (Declare 1 All ∷ Probe 1 ∷ commits ++ Mark 0 (λ j. 0) ∷ Sample 0 1 ∷ Enter 1 0 ∷ [])

-- A pass loads the mark 0 and finds session 1 idle, which then goes live at 0. Session 2 commits.
abbrev pub early_sample : List Step
early_sample = acts (Mark 0 (λ j. 0) ∷ Sample 0 1 ∷ Declare 1 All ∷ Probe 1 ∷ Enter 1 0 ∷ Fix 1 0 ∷ GoLive 1 0 All ∷ commits)

-- Session 1 loads the mark 0 twice. Session 2 commits, and a pass loads the mark 1.
abbrev pub low_fix : List Step
low_fix = acts (Declare 1 All ∷ Probe 1 ∷ Enter 1 0 ∷ Fix 1 0 ∷ commits ++ Mark 0 (λ j. 0) ∷ [])

-- session 2 begins again, at 1, writes the record again, commits, and is over
abbrev pub commits_again : Image → List Event
commits_again image = Declare 2 All ∷ Probe 2 ∷ Enter 2 1 ∷ Fix 2 1 ∷ GoLive 2 1 All ∷ Install 2 one_rid image ∷ Stamp 2 one_rid ∷ Publish (2 ∷ []) ∷ End 2 ∷ []

-- Session 2 commits the record. Session 1 declares its table, and goes live at 1. Session 2 commits the record again, with
-- this image. A pass loads the mark 2, the register and the mask of session 1, and the register of session 2, and takes the
-- bucket.
abbrev pub two_versions : Image → List Step
two_versions image = acts (commits ++ Declare 1 (Declared 1) ∷ Probe 1 ∷ Enter 1 1 ∷ Fix 1 1 ∷ GoLive 1 1 (Declared 1) ∷ commits_again image ++ Mark 0
    (λ j. 0) ∷ Sample 0 1 ∷ SampleMask 0 1 ∷ Sample 0 2 ∷ []) ++ Arrive 0 0 ∷ []

-- and the pass moves the snapshot of session 1
abbrev pub moved_snapshot : List Step
moved_snapshot = two_versions row ++ Act (Move 0 1) ∷ []

-- And it begins a new record: it finds session 1 live and moved, and loads no mask.
abbrev pub no_masks : List Step
no_masks = moved_snapshot ++ acts (Mark 0 (λ j. 0) ∷ Sample 0 1 ∷ Sample 0 2 ∷ [])

-- Session 1 declares no table, and loads the mark 0 twice. Session 2 commits, and a pass loads the mark 1.
abbrev pub no_tables : List Step
no_tables = acts (Declare 1 (Declared 0) ∷ Probe 1 ∷ Enter 1 0 ∷ Fix 1 0 ∷ commits ++ Mark 0 (λ j. 0) ∷ [])

-- Session 1 declares a table, and goes live at 0. Session 2 commits, and a pass loads the mark 1.
abbrev pub early_live : List Step
early_live = acts (Declare 1 (Declared 1) ∷ Probe 1 ∷ Enter 1 0 ∷ Fix 1 0 ∷ GoLive 1 0 (Declared 1) ∷ commits ++ Mark 0 (λ j. 0) ∷ [])

-- session 2 has written the record, and nothing is stamped; session 1 is live too
abbrev pub open_write : List Step
open_write = acts (Declare 1 All ∷ Probe 1 ∷ Enter 1 0 ∷ Fix 1 0 ∷ GoLive 1 0 All ∷ Declare 2 All ∷ Probe 2 ∷ Enter 2 0 ∷ Fix 2 0 ∷ GoLive 2 0 All ∷ Install 2 one_rid row ∷ [])

-- Session 2 commits the record twice. Session 1 goes live at 2, the number of the newest version. A pass loads the mark and
-- both registers, and takes the bucket.
abbrev pub late_snapshot : List Step
late_snapshot = acts (commits ++ commits_again row ++ Declare 1 All ∷ Probe 1 ∷ Enter 1 2 ∷ Fix 1 2 ∷ GoLive 1 2 All ∷ Mark 0 (λ j. 0) ∷ Sample 0 1 ∷ Sample 0 2 ∷ []) ++ Arrive 0 0 ∷ []

-- and the pass sweeps the record, and gives the bucket back
abbrev pub swept_visit : List Step
swept_visit = late_snapshot ++ Act (Reclaim 0 Interval one_rid) ∷ Leave 0 ∷ []

-- one version removed by an interval collector
abbrev pub one_swept : Removed
one_swept = record { group = 0; table = 0; interval = 1 }

-- what the replies of these three statements leave out: nothing
abbrev pub all_printed : Unprinted
all_printed = record { found = []; part = λ b. []; undone = []; rest = None; looked = 0 }

-- a reply that prints its answer alone
abbrev pub only_answer : Answer → Reply
only_answer answer = record { at = None; answer = answer; number = None }

-- the log of session 2 after a begin that is answered `begun,0`
abbrev pub begun_there : List LogEntry
begun_there = log_after 1 all_printed (Begin All) (only_answer (Begun 0)) []

-- the log of session 2 after a put that is answered `stored`
abbrev pub written_there : List LogEntry
written_there = log_after 1 all_printed (Put one_rid (Number (pos 7) ∷ [])) (only_answer Stored) begun_there

-- the log of session 2 after a commit that is answered `committed,1`
abbrev pub committed_there : List LogEntry
committed_there = log_after 1 all_printed CommitIt (only_answer (Committed 1)) written_there

-- these replies fit
pub record IsReadThere : Type 0 where
  pub begin : Fits 1 all_printed [] (Begin All) (only_answer (Begun 0))
  pub put : Fits 1 all_printed begun_there (Put one_rid (Number (pos 7) ∷ [])) (only_answer Stored)
  pub commit : Fits 1 all_printed written_there CommitIt (only_answer (Committed 1))
