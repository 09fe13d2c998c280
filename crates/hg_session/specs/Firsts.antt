-- What a write's reply shows of its first cause: logs of all sessions at one moment between the view before and the one after.
use Rattle.std.specs.Prelude.{ℕ, List, Result, Ok, Err, ⊤}
use Rattle.hg_base.specs.declared.rid.Rid.{Rid}
use Rattle.hg_base.specs.declared.statement.Statement.{Statement}
use Rattle.hg_base.specs.declared.line.Answer.{Answer}
use Rattle.hg_base.specs.declared.line.Answer.TheVariants as answers
use Rattle.hg_base.specs.declared.line.Reply.{Reply}
use Rattle.hg_core.specs.declared.log.LogEntry.{LogEntry}
use Rattle.hg_core.specs.Logs.{current}
use Rattle.hg_core.specs.Shown.{IsFirstAt, reads_at}
use Rattle.hg_bucket.specs.declared.refusal.WriteRefusal.{WriteRefusal}
use Rattle.hg_bucket.specs.declared.refusal.WriteRefusal.TheVariants as bucket
use Rattle.hg_rule.specs.declared.view.Sizes.{Sizes}
use Rattle.hg_rule.specs.declared.view.View.{View}
use Rattle.hg_rule.specs.Facts.{IsHeard}
use Rattle.hg_rule.specs.Views.{number, session}
use Rattle.hg_store.specs.Writing.{GoOn}
use Rattle.hg_session.specs.declared.answers.PutRefusal.{PutRefusal}
use Rattle.hg_session.specs.declared.answers.PutRefusal.TheVariants as put
use Rattle.hg_session.specs.Replies.{Answers}

-- A write of r that read at a snapshot, by the logs of the moment at which it was decided. They were all heard, they go on from all that
-- was heard before, and by them the answer is the first cause. What the session itself had open is as in its log before.
pub record ShownFirst (old : View) (r : Rid) (at : ℕ) (answer : Answer) (new : View) : Type 0 where
  pub logs : ℕ → List LogEntry
  pub heard : (k : ℕ) → IsHeard k (logs k) new.sights
  pub goes : GoOn logs old.sights
  pub first : IsFirstAt logs (session old).log (number old) at r answer

-- a stored write, or one that is refused for a newer group, shows its first cause
abbrev pub ShowsWrite : {T : Type 0} → View → Rid → ℕ → Result T WriteRefusal → View → Type 0
ShowsWrite old r at (Ok t) new = ShownFirst old r at answers.Stored new
ShowsWrite old r at (Err (bucket.Newer n)) new = ShownFirst old r at (answers.Newer n) new
ShowsWrite old r at (Err (bucket.Open session transaction)) new = ⊤
ShowsWrite old r at (Err bucket.NoMemory) new = ⊤

-- a put or a del that is stored, or that is refused for a newer group, shows its first cause
abbrev pub ShowsPut : {T : Type 0} → View → Rid → ℕ → Result T PutRefusal → View → Type 0
ShowsPut old r at (Ok t) new = ShownFirst old r at answers.Stored new
ShowsPut old r at (Err (put.Newer s n)) new = ShownFirst old r at (answers.Newer n) new
ShowsPut old r at (Err (put.Open s session transaction)) new = ⊤
ShowsPut old r at (Err (put.Undeclared table)) new = ⊤
ShowsPut old r at (Err put.NoMemory) new = ⊤

-- the same of an answer: the others need no first cause
abbrev pub HasFirst : View → Rid → ℕ → Answer → View → Type 0
HasFirst old r at answers.Stored new = ShownFirst old r at answers.Stored new
HasFirst old r at answers.Gone new = ShownFirst old r at answers.Gone new
HasFirst old r at (answers.Newer n) new = ShownFirst old r at (answers.Newer n) new
HasFirst old r at _ new = ⊤

-- A put or a del of r with its reply, which answers it, and has its first cause at the snapshot at which it read.
pub record AnswersWrite (z : Sizes) (old : View) (statement : Statement) (r : Rid) (reply : Reply) (new : View) : Type 0 where
  pub answers : Answers z old statement reply new
  pub first : HasFirst old r (reads_at (current (session old).log) reply) reply.answer new
