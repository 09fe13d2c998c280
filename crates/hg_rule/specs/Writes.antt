-- What each step of a session on contents and on groups makes of its view.
use Rattle.std.specs.Prelude.{◌≡◌, ℕ, suc, ◌+◌, ◌≤◌, true, false, List, [], ◌∷◌, IsSome, IsTrue, IsFalse, ⊤}
use Rattle.hg_base.specs.declared.rid.Rid.{Rid}
use Rattle.hg_base.specs.declared.image.Image.{Image}
use Rattle.hg_base.specs.declared.writer.Writer.{Writer}
use Rattle.hg_base.specs.declared.value.Value.{Value}
use Rattle.hg_base.specs.History.{History}
use Rattle.hg_base.specs.Replies.{AreRows}
use Rattle.hg_base.specs.Transcript.{has}
use Rattle.hg_core.specs.declared.ask.Ask.{Ask}
use Rattle.hg_core.specs.declared.ask.Ask.TheVariants.{Read, Write, Outside}
use Rattle.hg_core.specs.declared.log.LogEntry.{LogEntry}
use Rattle.hg_core.specs.declared.log.LogEntry.TheVariants as entries
use Rattle.hg_core.specs.declared.version.Stamp.TheVariants.{Written, Numbered, Oldest}
use Rattle.hg_core.specs.declared.version.Version.{Version}
use Rattle.hg_core.specs.Logs.{begans, current}
use Rattle.hg_core.specs.Versions.{installed, undone, stamped}
use Rattle.hg_core.specs.Contents.{bucket_of, look, store}
use Rattle.hg_core.specs.Counters.{added}
use Rattle.hg_core.specs.Replies.{read_by, refusal}
use Rattle.hg_core.specs.Events.{with_refusal}
use Rattle.hg_rule.specs.declared.view.SessionPart.{SessionPart}
use Rattle.hg_rule.specs.declared.view.BucketPart.{BucketPart}
use Rattle.hg_rule.specs.declared.view.CommitPart.{CommitPart}
use Rattle.hg_rule.specs.declared.view.Part.TheVariants.{OfSession, OfBucket}
use Rattle.hg_rule.specs.declared.view.Sight.{Sight}
use Rattle.hg_rule.specs.declared.view.Sight.TheVariants.{Saw, Heard, Took, Did}
use Rattle.hg_rule.specs.declared.view.Event.TheVariants.{Look, Install, Undo}
use Rattle.hg_rule.specs.declared.view.View.{View}
use Rattle.hg_rule.specs.declared.view.Sizes.{Sizes}
use Rattle.hg_rule.specs.Facts.{groups, IsHeard}
use Rattle.hg_rule.specs.Rules.{IsBacked}
use Rattle.hg_rule.specs.Views.{number, session, others, then_has}
use Rattle.hg_rule.specs.Steps.{IsHistoryAt, Seated}
use Rattle.atomic_table.specs.Table.{Step}
use Rattle.hg_rule.specs.Holding.{bucket_number, bucket, HasBucket, beyond, held, writer, snapshot, tables}

-- a session's part with another log
abbrev pub with_log : List LogEntry → SessionPart → SessionPart
with_log log part = record part { log = log }

-- a session's part with this entry as the newest of its log
abbrev pub with_entry : LogEntry → SessionPart → SessionPart
with_entry entry part = record part { log = entry ∷ part.log }

-- ---- a look

-- a read or a write is of the tables of the live scope, in the bucket held; what is outside is of none
abbrev pub MayAsk : ℕ → View → Ask → Type 0
MayAsk buckets v (Read table low high) = HasBucket v × IsTrue (has (tables v) table)
MayAsk buckets v (Write rid) = HasBucket v × ((bucket_of buckets rid ≡ bucket_number v) × IsTrue (has (tables v) rid.table))
MayAsk buckets v (Outside table) = IsFalse (has (tables v) table)

-- the rows of the range that the transaction sees in the bucket held
abbrev pub AreShown : View → Ask → List (ℕ × List Value) → Type 0
AreShown v (Read table low high) rows = AreRows (λ key. read_by (writer v) (snapshot v) (held v record { table = table; key = key })) low high rows
AreShown v (Write rid) rows = rows ≡ []
AreShown v (Outside table) rows = rows ≡ []

-- the log after a look, where the mark is n: a write logs how the content held and that mark refuse it, or nothing
abbrev pub log_asked : View → Ask → ℕ → List (ℕ × List Value) → List LogEntry
log_asked v (Read table low high) n rows = entries.Saw table low high (bucket_number v) rows ∷ (session v).log
log_asked v (Write rid) n rows = with_refusal rid (refusal n (writer v) (snapshot v) (held v rid)) (session v).log
log_asked v (Outside table) n rows = entries.Outside table ∷ (session v).log

-- w is v after a look, which hears every session's log as it then is, its own with what was logged
pub record Looks (v : View) (ask : Ask) (n : ℕ) (w : View) : Type 0 where
  pub history : History
  -- the history is the whole one at the mark n
  pub whole : IsHistoryAt v n history
  pub rows : List (ℕ × List Value)
  -- the rows are those of the range that the transaction sees in the bucket held
  pub shown : AreShown v ask rows
  pub logs : ℕ → List LogEntry
  pub heard : List Sight
  -- the logs of all sessions were heard
  pub all : (k : ℕ) → IsHeard k (logs k) heard
  -- the look is logged, and the history and the logs are seen
  pub after : w ≡ then_has v (OfSession (number v) (with_log (log_asked v ask n rows) (session v)) ∷ others v)
      (Saw (groups history) ∷ Heard (number v) (log_asked v ask n rows) ∷ heard) (Look (number v) ask n)

-- A look at a state that backs the view, and whose logs are those that it heard.
pub record TrulyLooks (z : Sizes) (v : View) (ask : Ask) (n : ℕ) (w : View) : Type 0 where
  pub looks : Looks v ask n w
  pub backed : IsBacked z n w
  pub logs_are : (k : ℕ) → backed.state.log k ≡ looks.logs k

-- ---- a write

-- a version is the transaction's own open write, or is numbered at or below its snapshot
abbrev pub IsOwnOrSeen : Writer → ℕ → Version → Type 0
IsOwnOrSeen w at version = elim version.stamp [ Written by ↦ by ≡ w | Numbered number by ↦ number ≤ at | Oldest number ↦ number ≤ at ]

-- a bucket's part after transaction w wrote the image to the record; a new version counts as made
abbrev pub installing : Writer → Rid → Image → BucketPart → BucketPart
installing w rid image part = record {
  content = store rid (installed w image (look rid part.content)) part.content;
  counters = record part.counters { made = part.counters.made + added (look rid part.content) };
}

-- a bucket's part after the open write of the record was taken back, which is counted
abbrev pub undoing : Rid → BucketPart → BucketPart
undoing rid part = record { content = store rid (undone (look rid part.content)) part.content; counters = record part.counters { undone = suc part.counters.undone } }

-- w is v after its session wrote the image to the record in the bucket held, and logged it
abbrev pub Installs : View → Rid → Image → View → Type 0
Installs v rid image w = w ≡ then_has v (OfSession (number v) (with_entry (entries.Wrote rid image) (session v)) ∷ OfBucket (bucket_number v) (installing (writer v) rid image (bucket v)) ∷ beyond v)
    (Heard (number v) (entries.Wrote rid image ∷ (session v).log) ∷ []) (Install (number v) rid image)

-- w is v after its session took its open write of the record back, and logged it
abbrev pub Undoes : View → Rid → View → Type 0
Undoes v rid w = w ≡ then_has v (OfSession (number v) (with_entry (entries.Undid rid) (session v)) ∷ OfBucket (bucket_number v) (undoing rid (bucket v)) ∷ beyond v)
    (Heard (number v) (entries.Undid rid ∷ (session v).log) ∷ []) (Undo (number v) rid)

-- what was heard of a session's log has no end of that transaction: where it is the last one heard, it isn't over
abbrev pub IsGoing : Writer → Sight → Type 0
IsGoing owner (Saw h) = ⊤
IsGoing owner (Heard j log) = (j ≡ owner.session) → begans log ≡ owner.transaction → IsSome (current log)
IsGoing owner (Took n) = ⊤
IsGoing owner (Did e) = ⊤

-- ---- a group

-- a bucket's part after w's open write of the record got this number
abbrev pub stamping : ℕ → Writer → Rid → BucketPart → BucketPart
stamping number w rid part = record part { content = store rid (stamped number w (look rid part.content)) part.content }

-- a session's part that is noted to have a write with the next number
abbrev pub with_stamp : SessionPart → SessionPart
with_stamp part = record part { stamped = true }

-- a session's part after its transaction was published under n
abbrev pub with_published : ℕ → SessionPart → SessionPart
with_published n part = record part { log = entries.Published n ∷ part.log; stamped = false }

-- the committer's part after session j's write of the record got the next number
abbrev pub listing : ℕ → Rid → CommitPart → CommitPart
listing j rid part = record part { stamped = (j, rid) ∷ part.stamped }

-- ---- the same steps, as the table plays them

-- the step of `TrulyLooks`: a look, after which the view is true
abbrev pub asked : Sizes → Ask → Step ℕ → Seated → ℕ → Seated → Type 0
asked z ask step m n w = TrulyLooks z m.0 ask n w.0 × (w.1 ≡ m.1)

-- the step of `Installs`
abbrev pub wrote : Rid → Image → Step ℕ → Seated → ℕ → Seated → Type 0
wrote rid image step m n w = Installs m.0 rid image w.0 × (w.1 ≡ m.1)

-- the step of `Undoes`
abbrev pub undid : Rid → Step ℕ → Seated → ℕ → Seated → Type 0
undid rid step m n w = Undoes m.0 rid w.0 × (w.1 ≡ m.1)
