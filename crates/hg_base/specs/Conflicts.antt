-- A write that is refused for a conflict shows its cause. First updater wins, and nobody waits for a writer. Own.
use Rattle.std.specs.Prelude.{ℕ, ◌<◌, ◌≤◌, List, length, filter, ◌==◌, IsTrue, IsFalse, Option, Some, None, is_some, IsSome, IfSome, ⊤}
use Rattle.std.specs.List.{list_any}
use Rattle.hg_base.specs.declared.rid.Rid.{Rid}
use Rattle.hg_base.specs.declared.writer.Writer.{Writer}
use Rattle.hg_base.specs.declared.statement.Statement.{Statement}
use Rattle.hg_base.specs.declared.statement.Statement.TheVariants.{Put, Del}
use Rattle.hg_base.specs.declared.line.Answer.{Answer}
use Rattle.hg_base.specs.declared.line.Answer.TheVariants.{Newer, OpenBy}
use Rattle.hg_base.specs.Lists.{Each}
use Rattle.hg_base.specs.Script.{Mode, replay, run}
use Rattle.hg_base.specs.History.{Write, History, image_in, does_write}
use Rattle.hg_base.specs.Transcript.{Said, is_of, ends, stored_in, numbers_in, own_writes}

-- refused at snapshot `at` for a newer commit: its number is over the snapshot, and its group writes r
pub record ShowsNewer (h : History) (at : ℕ) (r : Rid) (c : ℕ) : Type 0 where
  pub over : at < c
  pub within : c ≤ length h
  pub does : IsTrue (does_write h c r)

-- Refused at snapshot `at` for another's open write: `images` are the stored writes of that transaction, and `numbers`
-- its commit numbers. It is another session's, it writes r, and it is not committed at or below the snapshot.
pub record ShowsOpen (images : List Write) (numbers : List ℕ) (session : ℕ) (at : ℕ) (r : Rid) (writer : Writer) : Type 0 where
  pub other : IsFalse (writer.session == session)
  pub does : IsSome (image_in r images)
  pub after : Each (λ c. at < c) numbers

-- an earlier line stores the write, and no earlier line ends the transaction
pub record IsStillOpen (earlier : List Said) (r : Rid) (writer : Writer) : Type 0 where
  pub does : IsSome (image_in r (stored_in writer.session writer.transaction earlier))
  pub opened : IsFalse (list_any ends (filter (is_of writer.session writer.transaction) earlier))

-- what has to hold of a replay's text only
abbrev pub OnReplay : Mode → Type 0 → Type 0
OnReplay replay P = P
OnReplay (run rounds) P = ⊤

-- the record that a put or del names
abbrev pub target : Statement → Option Rid
target (Put r row) = Some r
target (Del r) = Some r
target _ = None

-- the cause of a refused write of r; the refused transaction has not written r itself
abbrev pub ShowsCause : Mode → History → List Said → List Said → Said → Rid → Answer → Type 0
ShowsCause mode h all earlier now r (Newer c) = IsFalse (is_some (image_in r (own_writes earlier now))) × ShowsNewer h now.at r c
ShowsCause mode h all earlier now r (OpenBy writer) =
    IsFalse (is_some (image_in r (own_writes earlier now)))
    × ShowsOpen (stored_in writer.session writer.transaction all) (numbers_in writer.session writer.transaction all) now.session now.at r writer
    × OnReplay mode (IsStillOpen earlier r writer)
ShowsCause mode h all earlier now r _ = ⊤

-- of one line
abbrev pub ShowsConflict : Mode → History → List Said → List Said → Said → Type 0
ShowsConflict mode h all earlier now = IfSome (target now.statement) (λ r. ShowsCause mode h all earlier now r now.reply.answer)
