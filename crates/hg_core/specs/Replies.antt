-- What the logs say of reads and writes, as a table would reply that never reclaims.
use Rattle.std.specs.Prelude.{ℕ, List, [], ◌∷◌, ◌==◌, nat_le, if◌then◌else◌, Option, Some, None, is_some, IfSome, IsTrue, IsFalse, ⊤}
use Rattle.hg_base.specs.declared.rid.Rid.{Rid}
use Rattle.hg_base.specs.declared.rid.TableId.{TableId}
use Rattle.hg_base.specs.declared.image.Image.{Image}
use Rattle.hg_base.specs.declared.writer.Writer.{Writer}
use Rattle.hg_base.specs.declared.line.Answer.{Answer}
use Rattle.hg_base.specs.declared.line.Answer.TheVariants.{Newer, OpenBy}
use Rattle.hg_base.specs.History.{Write, History, nothing, image_in, same_writer, seen}
use Rattle.hg_base.specs.Replies.{AreRows}
use Rattle.hg_base.specs.Conflicts.{ShowsNewer, ShowsOpen}
use Rattle.hg_base.specs.Transcript.{has}
use Rattle.hg_core.specs.declared.log.LogEntry.{LogEntry}
use Rattle.hg_core.specs.declared.log.LogEntry.TheVariants.{Saw, Refused, Outside, Wrote, Published}
use Rattle.hg_core.specs.Logs.{current, begans, is_plain, own_writes}
use Rattle.hg_core.specs.declared.version.Stamp.TheVariants.{Written}
use Rattle.hg_core.specs.declared.version.Version.{Version}
use Rattle.hg_core.specs.Versions.{newest_at, unpublished}
use Rattle.hg_core.specs.Contents.{bucket_of}
use Rattle.hg_core.specs.Covered.{image_of}

-- ---- what a bucket shows

-- what a transaction reads at a snapshot: its own open write, or the newest version numbered at or below the snapshot
abbrev pub read_by : Writer → ℕ → List Version → Image
read_by w at [] = nothing
read_by w at (v ∷ vs) = elim v.stamp [
  | Written by ↦ if same_writer by w then v.image else image_of (newest_at at vs)
  | _ ↦ image_of (newest_at at (v ∷ vs))
]

-- of the records of a bucket what a function shows, and nothing of others
abbrev pub in_bucket : ℕ → ℕ → TableId → (Rid → Image) → ℕ → Image
in_bucket buckets b table f key = if bucket_of buckets (record { table = table; key = key }) == b then f (record { table = table; key = key }) else nothing

-- a refusal for a newer group, where the newest write is numbered over the snapshot
abbrev pub refused_over : ℕ → Option (ℕ × Image) → Option Answer
refused_over at None = None
refused_over at (Some pair) = if nat_le pair.0 at then None else Some (Newer pair.0)

-- a refusal for another transaction's open write, and else what the rest says
abbrev pub refused_by : Writer → Option (Writer × Image) → Option Answer → Option Answer
refused_by w None rest = rest
refused_by w (Some owner) rest = if same_writer owner.0 w then None else Some (OpenBy owner.0)

-- how a write at a snapshot is refused: another has the record open, or its newest number is over the snapshot
abbrev pub refusal : ℕ → Writer → ℕ → List Version → Option Answer
refusal mark w at vs = refused_by w (unpublished mark vs) (refused_over at (newest_at mark vs))

-- ---- what a log says

-- the stored writes of transaction x, newest first
abbrev pub writes_in : ℕ → List LogEntry → List Write
writes_in x [] = []
writes_in x (Wrote rid image ∷ log) = if begans log == x then record { rid = rid; image = image } ∷ writes_in x log else writes_in x log
writes_in x (_ ∷ log) = writes_in x log

-- the commit numbers of transaction x
abbrev pub numbers_in : ℕ → List LogEntry → List ℕ
numbers_in x [] = []
numbers_in x (Published number ∷ log) = if begans log == x then number ∷ numbers_in x log else numbers_in x log
numbers_in x (_ ∷ log) = numbers_in x log

-- the cause of a refused write of r by session j at a snapshot, as hg_base defines it
abbrev pub Refuses : History → (ℕ → List LogEntry) → ℕ → ℕ → Rid → Answer → Type 0
Refuses h log j at r (Newer c) = ShowsNewer h at r c
Refuses h log j at r (OpenBy writer) = ShowsOpen (writes_in writer.transaction (log writer.session)) (numbers_in writer.transaction (log writer.session)) j at r writer
Refuses h log j at r _ = ⊥

-- A range is read as the table shows it that never reclaims, with the transaction's own writes. A write is refused for its
-- cause, and only where the transaction hasn't written the record. What is outside is not of the scope. What is written is,
-- and nothing of the transaction was undone or published.
abbrev pub IsReplied : ℕ → History → (ℕ → List LogEntry) → ℕ → LogEntry → List LogEntry → Type 0
IsReplied buckets h log j (Saw table low high b rows) earlier = IfSome (current earlier) (λ snapshot. IsTrue (has snapshot.scope table) ×
    AreRows (in_bucket buckets b table (seen h (own_writes earlier) snapshot.at)) low high rows)
IsReplied buckets h log j (Refused r answer) earlier = IfSome (current earlier) (λ snapshot. IsTrue (has snapshot.scope r.table) ×
    (IsFalse (is_some (image_in r (own_writes earlier))) × Refuses h log j snapshot.at r answer))
IsReplied buckets h log j (Outside table) earlier = IfSome (current earlier) (λ snapshot. IsFalse (has snapshot.scope table))
IsReplied buckets h log j (Wrote r image) earlier = IfSome (current earlier) (λ snapshot. IsTrue (has snapshot.scope r.table)) × IsTrue (is_plain earlier)
IsReplied buckets h log j _ earlier = ⊤

-- each entry of a log
abbrev pub AreReplied : ℕ → History → (ℕ → List LogEntry) → ℕ → List LogEntry → Type 0
AreReplied buckets h log j [] = ⊤
AreReplied buckets h log j (e ∷ earlier) = IsReplied buckets h log j e earlier × AreReplied buckets h log j earlier

-- of all sessions
abbrev pub RepliesAnswer : ℕ → History → (ℕ → List LogEntry) → Type 0
RepliesAnswer buckets h log = (j : ℕ) → AreReplied buckets h log j (log j)
