-- What a reply that fits a script has of its values: the widths, and the table of its statement.
use Rattle.std.proofs.Common.{◌≡◌, ℕ, List, length, Bool, true, false, Option, Some, None}
use Rattle.std.specs.Prelude.{IsTrue, IfSome, MatchOption, is_none, unwrap_or, ⊤}
use Rattle.std.specs.Bool.{MatchBool}
use Rattle.std.specs.Option.{option_or}
use Rattle.std.proofs.lemmas.Bool.{false≢true}
use Rattle.hg_base.specs.declared.rid.TableId.{TableId}
use Rattle.hg_base.specs.declared.statement.Statement.{Statement}
use Rattle.hg_base.specs.declared.statement.Statement.TheVariants.{Begin, Get, Put, Del, Scan, CursorOpen, Fetch, CursorClose, Commit as CommitIt, Rollback, Gc}
use Rattle.hg_base.specs.declared.line.Answer.{Answer}
use Rattle.hg_base.specs.declared.line.Answer.TheVariants.{Begun, Stored, Found, Nothing, Gone, Rows, Committed, Ended, Undone, Newer, OpenBy, Undeclared, Swept, Beside}
use Rattle.hg_base.specs.declared.line.Reply.{Reply}
use Rattle.hg_base.specs.Lists.{Each}
use Rattle.hg_base.specs.Script.{Declaration}
use Rattle.hg_base.specs.Transcript.{table_of}
use Rattle.hg_base.specs.Text.{Fits64, Fits32, FitsRow, FitsRefusal, FitsBegin, FitsGet, FitsPut, FitsDel, FitsScan, FitsFetch, FitsClose, FitsCommit, FitsRollback, FitsSweep, FitsReport}
use Rattle.hg_base.specs.Text.{FitsGc, FitsAnswer, FitsReply, IsReport, is_write}

-- an answer to a statement of that table
abbrev pub IsPlain : List Declaration → TableId → Answer → Type 0
IsPlain tables table (Begun s) = Fits64 s
IsPlain tables table (Found row) = FitsRow tables table row
IsPlain tables table (Rows rows) = Fits64 (length rows) × Each (λ p. Fits64 p.0 × FitsRow tables table p.1) rows
IsPlain tables table (Committed c) = Fits64 c
IsPlain tables table (Newer c) = Fits64 c
IsPlain tables table (OpenBy writer) = Fits32 writer.session × Fits64 writer.transaction
IsPlain tables table (Undeclared other) = other.0 ≡ table.0
IsPlain tables table (Swept sweep) = FitsSweep sweep
IsPlain tables table _ = ⊤

-- and the reply
pub record IsPlainReply (tables : List Declaration) (table : TableId) (reply : Reply) : Type 0 where
  pub at : IfSome reply.at Fits64
  pub answer : IsPlain tables table reply.answer
  pub number : IfSome reply.number (λ c. Fits64 c × IsTrue (is_write reply.answer))

plain_refusal : (tables : List Declaration) (table : TableId) (answer : Answer) → FitsRefusal table answer → IsPlain tables table answer
plain_refusal tables table (Newer c) h = h
plain_refusal tables table (OpenBy writer) h = h
plain_refusal tables table (Undeclared other) h = h
plain_refusal tables table answer h = absurd h

plain_begin : (tables : List Declaration) (table : TableId) (answer : Answer) → FitsBegin answer → IsPlain tables table answer
plain_begin tables table (Begun s) h = h
plain_begin tables table answer h = absurd h

plain_get : (tables : List Declaration) (table : TableId) (answer : Answer) → FitsGet tables table answer → IsPlain tables table answer
plain_get tables table (Found row) h = h
plain_get tables table Nothing h = tt
plain_get tables table (Undeclared other) h = h
plain_get tables table answer h = absurd h

plain_put : (tables : List Declaration) (table : TableId) (answer : Answer) → FitsPut table answer → IsPlain tables table answer
plain_put tables table Stored h = tt
plain_put tables table answer h = plain_refusal tables table answer h

plain_del : (tables : List Declaration) (table : TableId) (answer : Answer) → FitsDel table answer → IsPlain tables table answer
plain_del tables table Gone h = tt
plain_del tables table Nothing h = tt
plain_del tables table answer h = plain_refusal tables table answer h

plain_scan : (tables : List Declaration) (table : TableId) (answer : Answer) → FitsScan tables table answer → IsPlain tables table answer
plain_scan tables table (Rows rows) h = h
plain_scan tables table (Undeclared other) h = h
plain_scan tables table answer h = absurd h

plain_fetch : (tables : List Declaration) (cursor : Option TableId) (answer : Answer) → FitsFetch tables cursor answer → IsPlain tables (unwrap_or cursor (record { 0 = 0 })) answer
plain_fetch tables (Some table) (Rows rows) h = h
plain_fetch tables (Some table) _ h = absurd h
plain_fetch tables None answer h = absurd h

plain_close : (tables : List Declaration) (table : TableId) (answer : Answer) → FitsClose answer → IsPlain tables table answer
plain_close tables table Ended h = tt
plain_close tables table answer h = absurd h

plain_commit : (tables : List Declaration) (table : TableId) (answer : Answer) → FitsCommit answer → IsPlain tables table answer
plain_commit tables table (Committed c) h = h
plain_commit tables table Ended h = tt
plain_commit tables table answer h = absurd h

plain_rollback : (tables : List Declaration) (table : TableId) (answer : Answer) → FitsRollback answer → IsPlain tables table answer
plain_rollback tables table Undone h = tt
plain_rollback tables table answer h = absurd h

plain_report : (tables : List Declaration) (table : TableId) (answer : Answer) → FitsReport answer → IsPlain tables table answer
plain_report tables table (Swept sweep) h = h
plain_report tables table answer h = absurd h

plain_gc : (tables : List Declaration) (table : TableId) (answer : Answer) → FitsGc answer → IsPlain tables table answer
plain_gc tables table Beside h = tt
plain_gc tables table answer h = plain_report tables table answer h

-- the table of a statement, or of the cursor where it names none, or the first
abbrev pub named : Option TableId → Option Statement → TableId
named cursor None = record { 0 = 0 }
named cursor (Some statement) = unwrap_or (option_or (table_of statement) cursor) (record { 0 = 0 })

plain_answer : (tables : List Declaration) (cursor : Option TableId) (statement : Statement) (answer : Answer) → FitsAnswer tables cursor statement answer →
    IsPlain tables (named cursor (Some statement)) answer
plain_answer tables cursor (Begin scope) answer h = plain_begin tables _ answer h
plain_answer tables cursor (Get r) answer h = plain_get tables r.table answer h
plain_answer tables cursor (Put r row) answer h = plain_put tables r.table answer h
plain_answer tables cursor (Del r) answer h = plain_del tables r.table answer h
plain_answer tables cursor (Scan table low high) answer h = plain_scan tables table answer h
plain_answer tables cursor (CursorOpen table low high) answer h = plain_begin tables _ answer h
plain_answer tables cursor (Fetch n) answer h = plain_fetch tables cursor answer h
plain_answer tables cursor CursorClose answer h = plain_close tables _ answer h
plain_answer tables cursor CommitIt answer h = plain_commit tables _ answer h
plain_answer tables cursor Rollback answer h = plain_rollback tables _ answer h
plain_answer tables cursor (Gc kind) answer h = plain_gc tables _ answer h

wide_at : (at : Option ℕ) (P : Type 0) → IfSome at (λ s. Fits64 s × P) → IfSome at Fits64
wide_at None P h = tt
wide_at (Some s) P h = h.0

none_holds : (P : ℕ → Type 0) (o : Option ℕ) → IsTrue (is_none o) → IfSome o P
none_holds P None h = tt
none_holds P (Some n) h = absurd (false≢true h)

-- so every reply that fits is plain
pub plain_reply : (tables : List Declaration) (alone : Bool) (cursor : Option TableId) (asked : Option Statement) (reply : Reply) →
    MatchBool alone (IsReport reply) (MatchOption asked ⊥ (λ statement. FitsReply tables cursor statement reply)) → IsPlainReply tables (named cursor asked) reply
plain_reply tables true cursor asked reply h = record { at = none_holds Fits64 reply.at h.at; answer = plain_report tables _ reply.answer h.answer; number = none_holds _ reply.number h.number }
plain_reply tables false cursor None reply h = absurd h
plain_reply tables false cursor (Some statement) reply h = record { at = wide_at reply.at _ h.at; answer = plain_answer tables cursor statement reply.answer h.answer; number = h.number }
