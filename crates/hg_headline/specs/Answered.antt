-- The right answer to a statement of a replay, over the history and the logs as they stand before it.
use Rattle.std.specs.Prelude.{◌≡◌, ℕ, List, true, ◌==◌, Option, is_some, IsTrue, IsFalse, ⊤}
use Rattle.hg_base.specs.declared.rid.Rid.{Rid}
use Rattle.hg_base.specs.declared.scope.Snapshot.{Snapshot}
use Rattle.hg_base.specs.declared.statement.Statement.{Statement}
use Rattle.hg_base.specs.declared.statement.Statement.TheVariants.{Get, Put, Del, Scan}
use Rattle.hg_base.specs.declared.line.Answer.{Answer}
use Rattle.hg_base.specs.declared.line.Answer.TheVariants.{Newer, OpenBy}
use Rattle.hg_base.specs.History.{Write, History, image_in, seen}
use Rattle.hg_base.specs.Replies.{IsGot, IsPut, IsDeleted, IsScanned, WithinScope}
use Rattle.hg_base.specs.Conflicts.{ShowsNewer}
use Rattle.hg_core.specs.declared.log.LogEntry.{LogEntry}
use Rattle.hg_core.specs.Logs.{current, begans, own_writes, is_plain}
use Rattle.hg_headline.specs.Met.{IsOpenWrite}

-- A write of r at a snapshot is refused for its cause: a newer commit, or another session's transaction that is open and of
-- which nothing was undone or published. A transaction is refused no record that it has written.
abbrev pub MayRefuse : History → (ℕ → List LogEntry) → ℕ → List Write → ℕ → Rid → Answer → Type 0
MayRefuse h logs j own at r (Newer c) = IsFalse (is_some (image_in r own)) × ShowsNewer h at r c
MayRefuse h logs j own at r (OpenBy writer) = IsFalse (is_some (image_in r own)) × IsFalse (writer.session == j) × IsTrue (is_plain (logs writer.session)) × IsOpenWrite logs r writer
MayRefuse h logs j own at r _ = ⊤

-- The answer to a get, put, del or scan of session j, whose transaction reads at the snapshot and has these stored writes.
abbrev pub MayAnswer : History → (ℕ → List LogEntry) → ℕ → Snapshot → List Write → Statement → Answer → Type 0
MayAnswer h logs j snapshot own (Get r) answer = WithinScope snapshot.scope r.table answer (IsGot (seen h own snapshot.at r) answer)
MayAnswer h logs j snapshot own (Put r row) answer = WithinScope snapshot.scope r.table answer (IsPut answer) × MayRefuse h logs j own snapshot.at r answer
MayAnswer h logs j snapshot own (Del r) answer = WithinScope snapshot.scope r.table answer (IsDeleted (seen h own snapshot.at r) answer) × MayRefuse h logs j own snapshot.at r answer
MayAnswer h logs j snapshot own (Scan table low high) answer = WithinScope snapshot.scope table answer (IsScanned (λ key. seen h own snapshot.at (record { table = table; key = key })) low high answer)
MayAnswer h logs j snapshot own _ answer = ⊥

-- Only the log of session j has gone on, and nothing of its last transaction is undone or published: the transaction that is
-- open, how many were begun, and the stored writes of the open one.
pub record HasGone (logs : ℕ → List LogEntry) (more : ℕ → List LogEntry) (j : ℕ) (open_one : Option Snapshot) (count : ℕ) (own : List Write) : Type 0 where
  pub others : (k : ℕ) → (k ≡ j → ⊥) → more k ≡ logs k
  pub opened : current (more j) ≡ open_one
  pub begun : begans (more j) ≡ count
  pub writes : own_writes (more j) ≡ own
  pub plain : is_plain (more j) ≡ true
