-- What logs show of a write: that no other session has the record open, and that no newer group wrote it. A driver of a replay knows
-- logs, not lines: where the logs before each write's line show so much, the text is the only one (`hg_exact`).
use Rattle.std.specs.Prelude.{◌≡◌, ◌⊎◌, ℕ, ◌≤◌, List, Option, Some, None, unwrap_or, IfSome, IsSome, ⊤}
use Rattle.hg_base.specs.declared.rid.Rid.{Rid}
use Rattle.hg_base.specs.declared.scope.Snapshot.{Snapshot}
use Rattle.hg_base.specs.declared.statement.Record.{Record}
use Rattle.hg_base.specs.declared.line.Answer.{Answer}
use Rattle.hg_base.specs.declared.line.Answer.TheVariants.{Stored, Gone, Newer}
use Rattle.hg_base.specs.declared.line.Reply.{Reply}
use Rattle.hg_base.specs.declared.line.Line.{Line}
use Rattle.hg_base.specs.Conflicts.{target}
use Rattle.hg_base.specs.History.{group_image, image_in}
use Rattle.hg_core.specs.declared.log.LogEntry.{LogEntry}
use Rattle.hg_core.specs.Logs.{current, own_writes, open_in, published}

-- the log's open transaction has written the record
abbrev pub HasOpen : List LogEntry → Rid → Type 0
HasOpen log r = IsSome (current log) × IsSome (image_in r (own_writes log))

-- no other session's open transaction has written it
abbrev pub IsFreeIn : (ℕ → List LogEntry) → ℕ → Rid → Type 0
IsFreeIn logs j r = (k : ℕ) → (k ≡ j → ⊥) → HasOpen (logs k) r → ⊥

-- no other session's transaction has a write of it that was neither undone nor published
abbrev pub NoOtherHas : (ℕ → List LogEntry) → ℕ → Rid → Type 0
NoOtherHas logs j r = (k : ℕ) → (k ≡ j → ⊥) → open_in r (logs k) ≡ None

-- each group in which a session committed a write of it is at or below c
abbrev pub IsNewestIn : (ℕ → List LogEntry) → Rid → ℕ → Type 0
IsNewestIn logs r c = (k n : ℕ) → IsSome (group_image r (published n k (logs k))) → n ≤ c

-- the snapshot at which a statement reads: that of the open transaction, or the one that is printed where none is open
abbrev pub reads_at : Option Snapshot → Reply → ℕ
reads_at None reply = unwrap_or reply.at 0
reads_at (Some snapshot) reply = snapshot.at

-- A write of session j at a snapshot is stored where its transaction has the record open, or where nobody has and no group over the
-- snapshot wrote it. One that is refused for a newer group names the newest, and nobody else has the record open.
abbrev pub ShowsFirst : (ℕ → List LogEntry) → ℕ → ℕ → Rid → Answer → Type 0
ShowsFirst logs j at r Stored = HasOpen (logs j) r ⊎ (IsFreeIn logs j r × IsNewestIn logs r at)
ShowsFirst logs j at r Gone = HasOpen (logs j) r ⊎ (IsFreeIn logs j r × IsNewestIn logs r at)
ShowsFirst logs j at r (Newer c) = IsFreeIn logs j r × IsNewestIn logs r c
ShowsFirst logs j at r _ = ⊤

-- The same at the look that decides the write, when the logs are these. Before the statement session j had this one.
abbrev pub IsFirstAt : (ℕ → List LogEntry) → List LogEntry → ℕ → ℕ → Rid → Answer → Type 0
IsFirstAt logs own j at r Stored = HasOpen own r ⊎ (NoOtherHas logs j r × IsNewestIn logs r at)
IsFirstAt logs own j at r Gone = HasOpen own r ⊎ (NoOtherHas logs j r × IsNewestIn logs r at)
IsFirstAt logs own j at r (Newer c) = NoOtherHas logs j r × IsNewestIn logs r c
IsFirstAt logs own j at r _ = ⊤

-- of a record with its line and the logs before it: a condition of `Follows`
abbrev pub ShowsFirsts : (ℕ → List LogEntry) → Record → Line → Type 0
ShowsFirsts logs asked line =
    let at = reads_at (current (logs asked.session)) line.reply in
    IfSome (target asked.statement) (λ r. ShowsFirst logs asked.session at r line.reply.answer)
