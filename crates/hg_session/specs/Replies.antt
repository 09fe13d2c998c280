-- How the calls of a session reply.
use Rattle.std.specs.Prelude.{◌≡◌, ℕ, suc, ◌≤◌, ◌<◌, List, Bool, true, false, ◌==◌, Option, Some, None, Result, Ok, Err, IsFalse, IfSome, ⊤}
use Rattle.hg_base.specs.declared.statement.Statement.{Statement}
use Rattle.hg_base.specs.declared.line.Answer.{Answer}
use Rattle.hg_base.specs.declared.line.Answer.TheVariants.{Stored, Found, Nothing, Gone, Rows, Committed, Ended as NothingWritten, Newer, OpenBy, Undeclared}
use Rattle.hg_base.specs.declared.line.Reply.{Reply}
use Rattle.hg_base.specs.declared.rid.TableId.{TableId}
use Rattle.hg_base.specs.declared.scope.Snapshot.{Snapshot}
use Rattle.hg_base.specs.declared.value.Value.{Value}
use Rattle.hg_base.specs.Lists.{Each}
use Rattle.hg_base.specs.Transcript.{Rest, has}
use Rattle.hg_core.specs.Phases.{IsSession}
use Rattle.hg_core.specs.Reading.{Unprinted, Fits, HasRest, log_after}
use Rattle.hg_rule.specs.declared.view.Sizes.{Sizes}
use Rattle.hg_rule.specs.declared.view.Sight.{Sight}
use Rattle.hg_rule.specs.declared.view.View.{View}
use Rattle.hg_rule.specs.Facts.{StartsWith}
use Rattle.hg_rule.specs.Views.{number, session}
use Rattle.hg_tracker.specs.Begun.{AtMost}
use Rattle.hg_bucket.specs.declared.refusal.WriteRefusal.{WriteRefusal}
use Rattle.hg_bucket.specs.declared.refusal.WriteRefusal.TheVariants as bucket
use Rattle.hg_store.specs.Ends.{HasNoEnd}
use Rattle.hg_headline.specs.Timely.{snapshot_in, newer_in, commit_in}
use Rattle.hg_session.specs.declared.answers.Read.{Read}
use Rattle.hg_session.specs.declared.answers.Scanned.{Scanned}
use Rattle.hg_session.specs.declared.answers.Written.{Written}
use Rattle.hg_session.specs.declared.answers.Deleted.{Deleted}
use Rattle.hg_session.specs.declared.answers.GetRefusal.{GetRefusal}
use Rattle.hg_session.specs.declared.answers.GetRefusal.TheVariants as get
use Rattle.hg_session.specs.declared.answers.PutRefusal.{PutRefusal}
use Rattle.hg_session.specs.declared.answers.PutRefusal.TheVariants as put

-- ---- the reply of each call, and none where memory was wanting

-- a reply in a transaction
abbrev pub inside : Answer → Reply
inside answer = record { at = None; answer = answer; number = None }

-- the snapshot that a reply prints: only that of a statement which is a transaction of its own
abbrev pub shown : Bool → ℕ → Option ℕ
shown true at = Some at
shown false at = None

-- a reply without a commit number
abbrev pub reading : Bool → ℕ → Answer → Reply
reading alone at answer = record { at = shown alone at; answer = answer; number = None }

-- a reply with the commit number of a statement that is a transaction of its own
abbrev pub writing : Bool → ℕ → Answer → Option ℕ → Reply
writing alone at answer number = record { at = shown alone at; answer = answer; number = number }

-- the answer to a get that found this row, or none
abbrev pub row_answer : Option (List Value) → Answer
row_answer None = Nothing
row_answer (Some row) = Found row

-- the reply to a get; none where memory ran out
abbrev pub get_reply : Bool → Result Read GetRefusal → Option Reply
get_reply alone (Ok read) = Some (reading alone read.at (row_answer read.row))
get_reply alone (Err (get.Undeclared table)) = Some (inside (Undeclared table))
get_reply alone (Err get.NoMemory) = None

-- the reply to a scan; none where memory ran out
abbrev pub scan_reply : Bool → Result Scanned GetRefusal → Option Reply
scan_reply alone (Ok scanned) = Some (reading alone scanned.at (Rows scanned.rows))
scan_reply alone (Err (get.Undeclared table)) = Some (inside (Undeclared table))
scan_reply alone (Err get.NoMemory) = None

-- the reply to a write that is refused; none where memory ran out
abbrev pub refused_reply : Bool → PutRefusal → Option Reply
refused_reply alone (put.Undeclared table) = Some (inside (Undeclared table))
refused_reply alone (put.Open at session transaction) = Some (reading alone at (OpenBy (record { session = session; transaction = transaction })))
refused_reply alone (put.Newer at number) = Some (reading alone at (Newer number))
refused_reply alone put.NoMemory = None

-- the reply to a put; none where memory ran out
abbrev pub put_reply : Bool → Result Written PutRefusal → Option Reply
put_reply alone (Ok written) = Some (writing alone written.at Stored written.number)
put_reply alone (Err refusal) = refused_reply alone refusal

-- the answer to a del, by whether a row was there
abbrev pub gone_answer : Bool → Answer
gone_answer true = Gone
gone_answer false = Nothing

-- the reply to a del; none where memory ran out
abbrev pub del_reply : Bool → Result Deleted PutRefusal → Option Reply
del_reply alone (Ok deleted) = Some (writing alone deleted.at (gone_answer deleted.there) deleted.number)
del_reply alone (Err refusal) = refused_reply alone refusal

-- the answer to a commit, by the number that it got, if it wrote
abbrev pub commit_answer : Option ℕ → Answer
commit_answer None = NothingWritten
commit_answer (Some number) = Committed number

-- ---- what a reply says

-- a commit number is over all that was seen, and over the transaction's own snapshot, where that is printed
pub record IsNext (sights : List Sight) (at : Option ℕ) (c : ℕ) : Type 0 where
  pub before : ℕ
  pub next : c ≡ suc before
  pub over : Each (AtMost before) sights
  pub begun : IfSome at (λ n. n ≤ before)

-- a transaction that has a record open is another session's, and goes on, by all that was seen
abbrev pub GoesOn : Sizes → View → Answer → Type 0
GoesOn z v (OpenBy writer) = IsSession z.sessions writer.session × (IsFalse (writer.session == number v) × Each (HasNoEnd writer) v.sights)
GoesOn z v _ = ⊤

-- A statement with its reply: the log has gained the statement's entries, once; a snapshot is at or over all that was seen; and
-- a number that is newer than the snapshot is no first one.
pub record Answers (z : Sizes) (old : View) (statement : Statement) (reply : Reply) (new : View) : Type 0 where
  pub u : Unprinted
  pub fits : Fits z.buckets u (session old).log statement reply
  pub log : (session new).log ≡ log_after z.buckets u statement reply (session old).log
  pub number_is : number new ≡ number old
  pub kept : StartsWith new.sights old.sights
  pub snapshot : IfSome (snapshot_in reply) (λ at. Each (AtMost at) old.sights)
  pub commit : IfSome (commit_in statement reply) (IsNext old.sights (snapshot_in reply))
  pub newer : IfSome (newer_in reply) (λ c. 0 < c)
  pub goes_on : GoesOn z old reply.answer

-- the same of a session whose cursor has this left before the statement
pub record AnswersFrom (rest : Option Rest) (z : Sizes) (old : View) (statement : Statement) (reply : Reply) (new : View) : Type 0 where
  pub answers : Answers z old statement reply new
  pub rest_is : HasRest statement answers.u.rest rest

-- ---- the snapshot in an answer

-- the snapshot at which a get read
abbrev pub get_at : Result Read GetRefusal → Option ℕ
get_at (Ok read) = Some read.at
get_at (Err e) = None

-- the snapshot at which a scan read
abbrev pub scan_at : Result Scanned GetRefusal → Option ℕ
scan_at (Ok scanned) = Some scanned.at
scan_at (Err e) = None

-- the snapshot of a refused write: none where the table is not declared, or memory ran out
abbrev pub refusal_at : PutRefusal → Option ℕ
refusal_at (put.Open at session transaction) = Some at
refusal_at (put.Newer at number) = Some at
refusal_at _ = None

-- the snapshot of a put
abbrev pub put_at : Result Written PutRefusal → Option ℕ
put_at (Ok written) = Some written.at
put_at (Err refusal) = refusal_at refusal

-- the snapshot of a del
abbrev pub del_at : Result Deleted PutRefusal → Option ℕ
del_at (Ok deleted) = Some deleted.at
del_at (Err refusal) = refusal_at refusal

-- In a transaction an answer has the transaction's snapshot. Outside it has the one that its own transaction began with.
abbrev pub IsAtOwn : Option Snapshot → Option ℕ → Type 0
IsAtOwn None at = ⊤
IsAtOwn (Some snapshot) at = IfSome at (λ n. n ≡ snapshot.at)

-- ---- when a refusal comes

-- a statement is refused so exactly where its transaction is open and didn't declare the table
abbrev pub IsRefusedIf : {T E : Type 0} → Option Snapshot → TableId → Result T E → E → Type 0
IsRefusedIf None table result e = result ≡ Err e → ⊥
IsRefusedIf (Some snapshot) table result e = (IsFalse (has snapshot.scope table) → result ≡ Err e) × (result ≡ Err e → IsFalse (has snapshot.scope table))

-- a refused write, with the snapshot at which it was
abbrev pub refused_at : ℕ → WriteRefusal → PutRefusal
refused_at at (bucket.Open session transaction) = put.Open at session transaction
refused_at at (bucket.Newer number) = put.Newer at number
refused_at at bucket.NoMemory = put.NoMemory
