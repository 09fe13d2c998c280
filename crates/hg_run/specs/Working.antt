-- What a session's worker makes of its records.
use Rattle.std.specs.Prelude.{◌≡◌, ℕ, suc, ◌+◌, ◌≤◌, List, [], ◌∷◌, ◌++◌, length, map, Bool, false, Option, is_some, None, ⊤}
use Rattle.std.specs.List.{flat_map}
use Rattle.hg_base.specs.declared.limits.TheConstants.{MOST_RECORDS}
use Rattle.hg_base.specs.declared.line.Line.{Line}
use Rattle.hg_base.specs.declared.line.Reply.{Reply}
use Rattle.hg_base.specs.declared.statement.Record.{Record}
use Rattle.hg_base.specs.declared.statement.Statement.{Statement}
use Rattle.hg_base.specs.Lists.{Each}
use Rattle.hg_base.specs.Script.{Script}
use Rattle.hg_base.specs.Shape.{HasShape}
use Rattle.hg_base.specs.Transcript.{Rest, of_session, rest_after}
use Rattle.hg_core.specs.declared.log.LogEntry.{LogEntry}
use Rattle.hg_core.specs.Reading.{Unprinted, Fits, HasRest, Tells, log_after}
use Rattle.hg_script.specs.Lawful.{MayStand}
use Rattle.hg_script.specs.Rules.{opened, reading}
use Rattle.hg_headline.specs.Counted.{Closes}
use Rattle.hg_headline.specs.Ran.{LeavesGc}
use Rattle.hg_session.specs.declared.engine.Engine.{Engine}
use Rattle.hg_session.specs.declared.session.Session.{Session}
use Rattle.hg_session.specs.Cursors.{HasLeft}
use Rattle.hg_session.specs.Engines.{engine_sizes}
use Rattle.hg_session.specs.Sessions.{IsOf, number_of, log_of, open_of, left_of, cursor_of}
use Rattle.hg_collectors.specs.declared.round_lists.RoundLists.{RoundLists}
use Rattle.hg_run.specs.declared.work.Worker.{Worker}
use Rattle.hg_run.specs.Asked.{IsOnTables}
use Rattle.hg_exact.specs.Opening.{AreOpen}

-- ---- what is asked

-- one session's records, each of which may stand after those before it, where a transaction is open at first or not, and a cursor
abbrev pub MayFollow : Bool → Bool → List Record → Type 0
MayFollow within reads [] = ⊤
MayFollow within reads (r ∷ rs) = MayStand within reads r.statement × MayFollow (opened within r.statement) (reading reads r.statement) rs

-- a record of a session, on tables that there are
pub record IsAskedOf (tables : ℕ) (r : Record) : Type 0 where
  pub some : 1 ≤ r.session
  pub on : IsOnTables tables r.statement

-- ---- what is answered

-- One session, whose cursor has this left, answers a statement: the reply is what its log gives, and a `gc` is left to the
-- collectors.
pub record IsStep (buckets : ℕ) (rest : Option Rest) (old : List LogEntry) (statement : Statement) (reply : Reply) (new : List LogEntry) : Type 0 where
  pub u : Unprinted
  pub fits : Fits buckets u old statement reply
  pub rest_is : HasRest statement u.rest rest
  pub leaves : LeavesGc statement reply.answer
  pub log : new ≡ log_after buckets u statement reply old

-- A session answers it, whatever its cursor had left before.
pub record HasTaken (buckets : ℕ) (old : Session) (statement : Statement) (reply : Reply) (new : Session) : Type 0 where
  pub step : (rest : Option Rest) → HasLeft old rest → IsStep buckets rest (log_of old) statement reply (log_of new)
  pub moved : (rest : Option Rest) → HasLeft old rest → HasLeft new (rest_after statement reply.answer rest)
  pub reads : is_some (cursor_of new) ≡ reading (is_some (cursor_of old)) statement

-- The lines of one session are the replies that its log gives to its records, with each `gc` left to the collectors, where its
-- cursor is not open at first. The log gained their entries alone, and then what rolls an open transaction back or closes a cursor.
pub record HasWorked (buckets : ℕ) (old : List LogEntry) (records : List Record) (lines : List Line) (new : List LogEntry) : Type 0 where
  pub log : List LogEntry
  pub shape : HasShape records lines
  pub tells : Tells buckets (λ r line. LeavesGc r.statement line.reply.answer) old None records lines log
  pub closes : Closes log new

-- ---- a worker

-- it may run the records that it has
pub record IsReady (e : Engine) (w : Worker) : Type 0 where
  pub own : IsOf e w.session
  pub asked : Each (IsAskedOf (engine_sizes e).tables) w.records
  pub within : Bool
  pub opens : AreOpen within (is_some (cursor_of w.session)) (is_some (open_of w.session))
  pub may : MayFollow within (is_some (cursor_of w.session)) w.records
  pub left : length w.records ≤ left_of w.session

-- and has written nothing yet, and its cursor is not open
pub record IsHired (e : Engine) (w : Worker) : Type 0 where
  pub ready : IsReady e w
  pub cursor : cursor_of w.session ≡ None
  pub most : length w.records ≤ MOST_RECORDS
  pub none : w.transcript.lines ≡ []
  pub willing : w.refused ≡ false

-- it answered a record, and wrote the line
pub record HasAnswered (buckets : ℕ) (r : Record) (old new : Worker) : Type 0 where
  pub reply : Reply
  pub lines : new.transcript.lines ≡ old.transcript.lines ++ (record { session = r.session; place = r.place; reply = reply }) ∷ []
  pub taken : HasTaken buckets old.session r.statement reply new.session

-- the first of its records
pub record HasStepped (e : Engine) (r : Record) (old new : Worker) : Type 0 where
  pub records : old.records ≡ r ∷ new.records
  pub answered : HasAnswered (engine_sizes e).buckets r old new
  pub left : left_of old.session ≤ left_of new.session + 1

-- it has run all of its records
pub record HasRun (buckets : ℕ) (old new : Worker) : Type 0 where
  pub shape : HasShape old.records new.transcript.lines
  pub tells : Tells buckets (λ r line. LeavesGc r.statement line.reply.answer) (log_of old.session) None old.records new.transcript.lines (log_of new.session)

-- it is done: no transaction and no cursor is open, and unless it was refused memory it has the lines of its records
pub record HasEnded (e : Engine) (old new : Worker) : Type 0 where
  pub own : IsOf e new.session
  pub number_is : number_of new.session ≡ number_of old.session
  pub closed : open_of new.session ≡ None
  pub tables : new.transcript.tables ≡ old.transcript.tables
  pub worked : new.refused ≡ false → HasWorked (engine_sizes e).buckets (log_of old.session) old.records new.transcript.lines (log_of new.session)

-- ---- all workers

-- the workers of sessions in their order, the first one being session j
abbrev pub hired : Script → ℕ → List Session → List Worker
hired script j [] = []
hired script j (s ∷ ss) = record { session = s; records = of_session j script.records; transcript = record { tables = script.tables; lines = [] }; refused = false } ∷ hired script (suc j) ss

-- the sessions of workers
abbrev pub sessions_in : List Worker → List Session
sessions_in workers = map (λ (w : Worker). w.session) workers

-- the lines of all, those of the first one first
abbrev pub lines_in : List Worker → List Line
lines_in workers = flat_map (λ (w : Worker). w.transcript.lines) workers

-- each is done that was hired
abbrev pub AreEnded : Engine → List Worker → List Worker → Type 0
AreEnded e [] [] = ⊤
AreEnded e [] (w ∷ ws) = ⊥
AreEnded e (w ∷ ws) [] = ⊥
AreEnded e (v ∷ vs) (w ∷ ws) = HasEnded e v w × AreEnded e vs ws

-- no worker and no collector was refused memory
pub record AreWilling (workers : List Worker) (told : RoundLists) : Type 0 where
  pub each : Each (λ (w : Worker). w.refused ≡ false) workers
  pub group : told.group.refused ≡ false
  pub table : told.table.refused ≡ false
  pub interval : told.interval.refused ≡ false
