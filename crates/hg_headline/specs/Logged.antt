-- A history with the logs of all sessions.
use Rattle.std.specs.Prelude.{◌≡◌, ℕ, ◌<◌, List, length}
use Rattle.hg_base.specs.History.{History, IsHistory, NoLostUpdate, group_at}
use Rattle.hg_core.specs.declared.log.LogEntry.{LogEntry}
use Rattle.hg_core.specs.Logs.{published, UpTo}
use Rattle.hg_core.specs.Replies.{RepliesAnswer}
use Rattle.hg_core.specs.Judged.{Judged, of_session}

-- What the core's invariant says of a history and its logs: no update is lost, each entry is right, no number is over the
-- mark, and the commits of each group are the transactions of the logs that have its number.
pub record Logged (buckets : ℕ) (h : History) (logs : ℕ → List LogEntry) : Type 0 where
  pub some : 0 < buckets
  pub history : IsHistory h
  pub kept : NoLostUpdate h
  pub judged : (j : ℕ) → Judged h (logs j)
  pub replied : RepliesAnswer buckets h logs
  pub within : (j : ℕ) → UpTo (length h) (logs j)
  pub commits : (n j : ℕ) → of_session j (group_at h n) ≡ published n j (logs j)
