-- What holds between any two events. Each part speaks of the parts of the state that it needs.
use Rattle.std.specs.Prelude.{ℕ, ◌≤◌}
use Rattle.hg_base.specs.declared.rid.Rid.{Rid}
use Rattle.hg_base.specs.History.{IsHistory, NoLostUpdate}
use Rattle.hg_core.specs.State.{CoreState}
use Rattle.hg_core.specs.Marks.{MarkIsLength}
use Rattle.hg_core.specs.Registers.{RegistersAgree}
use Rattle.hg_core.specs.Bounds.{RecordsBoundSessions}
use Rattle.hg_core.specs.Reach.{RecordsReachLogs}
use Rattle.hg_core.specs.Logs.{begun_in, open_writes}
use Rattle.hg_core.specs.Contents.{versions}
use Rattle.hg_core.specs.Ordered.{ContentsAreOrdered}
use Rattle.hg_core.specs.OpenWrites.{OpenWritesStand, StampedIsNext}
use Rattle.hg_core.specs.Covered.{Covers, OpenWritesMayCommit}
use Rattle.hg_core.specs.Replies.{RepliesAnswer}
use Rattle.hg_core.specs.Judged.{LogsAnswer}
use Rattle.hg_core.specs.Placed.{IsPlaced}
use Rattle.hg_core.specs.Counters.{CountersBalance}
use Rattle.hg_core.specs.Visits.{VisitsStay}

-- the invariant, which holds of a new state, and which each event that may happen keeps
pub record IsSteady (s : CoreState) : Type 0 where
  -- the mark is the length of the history, and no number that was loaded of it is above it
  pub mark_is_length : MarkIsLength s.mark s.history s.phase s.pass
  -- each register and each mask word show their session's phase, and a register was moved only where tables are declared
  pub registers_agree : RegistersAgree s.sessions s.tables s.phase s.register s.mask
  -- the versions of a record show at each protected number what a table shows that never reclaims
  pub covered : (r : Rid) → Covers s.mark s.phase s.history r (versions s.buckets s.bucket r)
  -- what isn't published of a record is the open write of one session's open transaction, and each open write is there
  pub open_writes_stand : OpenWritesStand s.mark (begun_in s.log) (open_writes s.log) (versions s.buckets s.bucket)
  -- what isn't published has a number exactly where it is in the stamped list
  pub stamped_is_next : StampedIsNext s.mark (open_writes s.log) (versions s.buckets s.bucket) s.stamped_list
  -- at most the first version isn't published, numbers fall, and each published version is what its group writes
  pub contents_are_ordered : ContentsAreOrdered s.mark s.history (versions s.buckets s.bucket)
  -- each record of a bucket is of that bucket, of a table that is there, and is there once
  pub contents_are_placed : (b : ℕ) → IsPlaced s.tables s.buckets b (s.bucket b)
  -- what a session reads is at or over what each record that loaded its register lets a collector take, for each of its tables
  pub records_bound_sessions : RecordsBoundSessions s.phase s.pass
  -- the session of an open write is live with the table, and each other write of the record is at or below its snapshot
  pub open_writes_may_commit : OpenWritesMayCommit s.history s.phase (open_writes s.log)
  pub history : IsHistory s.history
  pub no_update_is_lost : NoLostUpdate s.history
  -- the logs give the history; each begin is at or over all numbers before it in its log; an entry is in an open transaction
  pub logs_answer : LogsAnswer s.sessions s.quota s.history s.phase s.log
  -- each entry says what a table replies that never reclaims
  pub replies_answer : RepliesAnswer s.buckets s.history s.log
  -- each register that a record has was once what its session's log says
  pub records_reach_logs : RecordsReachLogs s.phase s.log s.pass
  -- of each bucket, made is undone, removed by each kind and held; logs and visits tell all but the last
  pub counters_balance : CountersBalance s.sessions s.buckets s.passes s.log s.bucket s.counters s.visits
  -- what a visit gave back cut at a bound, or clean, is so still
  pub visits_stay : VisitsStay s.passes s.buckets s.mark (versions s.buckets s.bucket) s.visits
  pub taken_at_most_mark : s.taken ≤ s.mark
