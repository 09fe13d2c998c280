-- The state of a board and of all that use it. Each part has one owner.
use Rattle.std.specs.Prelude.{ℕ, List, []}
use Rattle.hg_base.specs.declared.rid.Rid.{Rid}
use Rattle.hg_base.specs.History.{History}
use Rattle.hg_core.specs.declared.register.Register.{Register}
use Rattle.hg_core.specs.declared.register.Register.TheVariants as registers
use Rattle.hg_core.specs.declared.phase.Phase.{Phase}
use Rattle.hg_core.specs.declared.phase.Phase.TheVariants as phases
use Rattle.hg_core.specs.declared.log.LogEntry.{LogEntry}
use Rattle.hg_core.specs.Contents.{Content}
use Rattle.hg_core.specs.declared.visit.Counters.{Counters}
use Rattle.hg_core.specs.declared.visit.Visit.{Visit}
use Rattle.hg_core.specs.Passes.{PassRecord, no_record}
use Rattle.hg_core.specs.Counters.{no_counters}

-- Sessions are counted from 1, and so are commit numbers. Tables, buckets and passes are counted from 0.
pub record CoreState : Type 0 where
  -- the numbers that a board is made with; the last is how often each session may begin, and write
  pub sessions : ℕ
  pub tables : ℕ
  pub buckets : ℕ
  pub quota : ℕ
  -- how many collector passes there are
  pub passes : ℕ
  -- the words, which all may load: the mark, and of each session the register and the mask of its tables
  pub mark : ℕ
  pub register : ℕ → Register
  pub mask : ℕ → ℕ
  -- the committer's: the groups of commits, oldest first, and the writes that have the next number, each with its session
  pub history : History
  pub stamped_list : List (ℕ × Rid)
  -- and how many groups were taken out of its list for the group collector
  pub taken : ℕ
  -- a session's: its phase, and its log, newest entry first
  pub phase : ℕ → Phase
  pub log : ℕ → List LogEntry
  -- a bucket's: its records with their versions, and its counters
  pub bucket : ℕ → Content
  pub counters : ℕ → Counters
  -- a collector pass's: its record, and its visits of buckets, newest first
  pub pass : ℕ → PassRecord
  pub visits : ℕ → List Visit

-- the state in which a board opens
abbrev pub opened : ℕ → ℕ → ℕ → ℕ → ℕ → CoreState
opened sessions tables buckets passes quota = record {
  sessions = sessions;
  tables = tables;
  buckets = buckets;
  quota = quota;
  passes = passes;
  mark = 0;
  register = λ j. registers.Idle;
  mask = λ j. 0;
  history = [];
  stamped_list = [];
  taken = 0;
  phase = λ j. phases.Idle;
  log = λ j. [];
  bucket = λ b. [];
  counters = λ b. no_counters;
  pass = λ p. no_record;
  visits = λ p. [];
}
