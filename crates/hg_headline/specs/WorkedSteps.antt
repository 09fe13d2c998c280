-- Three lists of steps of two sessions, and what each of them leaves: a conflict, a collector between a begin and a read, and a snapshot
-- that is moved. They go on from lists of hg_core, where each step is told in words.
use Rattle.std.specs.Prelude.{◌≡◌, List, [], ◌∷◌, ◌++◌, Some, true, false, pos}
use Rattle.hg_base.specs.declared.image.Image.{Image}
use Rattle.hg_base.specs.declared.line.Answer.TheVariants.{OpenBy}
use Rattle.hg_base.specs.declared.report.Kind.TheVariants.{Interval}
use Rattle.hg_base.specs.declared.rid.TableId.{TableId}
use Rattle.hg_base.specs.declared.scope.Scope.TheVariants.{All, Declared}
use Rattle.hg_base.specs.declared.value.Value.{Value}
use Rattle.hg_base.specs.declared.value.Value.TheVariants.{Number}
use Rattle.hg_base.specs.Lists.{Each}
use Rattle.hg_core.specs.declared.ask.Ask.TheVariants.{Read, Write}
use Rattle.hg_core.specs.declared.log.LogEntry.TheVariants.{Began, Saw, Refused}
use Rattle.hg_core.specs.Events.{Look, Reclaim}
use Rattle.hg_core.specs.State.{CoreState, opened}
use Rattle.hg_core.specs.Steps.{Step, Act, Leave, Run, run}
use Rattle.hg_core.specs.Worked.{one_rid, row, open_write, two_versions, moved_snapshot}
use Rattle.hg_headline.specs.OneRun.{Round, rounds_in, round_report, visits_of, MovesLong}

-- two sessions, a table, a bucket and a pass; each session may begin and write twice
abbrev pub start : CoreState
start = opened 2 1 1 1 2

-- the one table
abbrev pub table : TableId
table = record { 0 = 0 }

-- the values of the first write, and the image of a later one
abbrev pub seven : List Value
seven = Number (pos 7) ∷ []

abbrev pub eight : Image
eight = record { row = Some (Number (pos 8) ∷ []) }

-- session 1 tries to write the record
abbrev pub tries : List Step
tries = Act (Look 1 (Write one_rid) 0 []) ∷ []

-- Both sessions begin, and session 2 writes the record. Then session 1 tries to.
abbrev pub conflict : List Step
conflict = open_write ++ tries

-- the log of session 1 has a refusal that names the transaction of session 2
pub record IsRefused : Type 0 where
  pub may : Run start conflict
  pub log : (run start conflict).log 1 ≡ Refused one_rid (OpenBy (record { session = 2; transaction = 1 })) ∷ Began 0 All ∷ []

-- a pass sweeps the record and leaves the bucket, and session 1 reads the record
abbrev pub sweeps_and_reads : List Step
sweeps_and_reads = Act (Reclaim 0 Interval one_rid) ∷ Leave 0 ∷ Act (Look 1 (Read table 5 5) 0 ((5, seven) ∷ [])) ∷ []

-- Session 2 commits 7, session 1 begins, and session 2 commits 8. A pass loads the mark and the registers, and comes to the bucket. Then it
-- sweeps the record, and session 1 reads it.
abbrev pub collected : List Step
collected = two_versions eight ++ sweeps_and_reads

-- session 1 still sees 7, and the pass reports that it held the snapshot and removed nothing
pub record IsHeldBack : Type 0 where
  pub may : Run start collected
  pub log : (run start collected).log 1 ≡ Saw table 5 5 0 ((5, seven) ∷ []) ∷ Began 1 (Declared 1) ∷ []
  pub reports : Each (λ (round : Round). round_report Interval (visits_of round ((run start collected).visits 0)) round
      ≡ record { kind = Interval; mark = 2; horizon = 2; removed = 0; held = record { session = 1; number = 1; moved = false } ∷ [] })
      (rounds_in ((run start collected).pass 0).journal)

-- The same without the sweep. The pass tries to move the snapshot of session 1, which is one number below the mark, to the table that it
-- declared; and no other.
pub record IsMoved : Type 0 where
  pub may : Run start moved_snapshot
  pub tries : Each (MovesLong 1) (rounds_in ((run start moved_snapshot).pass 0).journal)
  pub reports : Each (λ (round : Round). round_report Interval (visits_of round ((run start moved_snapshot).visits 0)) round
      ≡ record { kind = Interval; mark = 2; horizon = 2; removed = 0; held = record { session = 1; number = 1; moved = true } ∷ [] })
      (rounds_in ((run start moved_snapshot).pass 0).journal)
