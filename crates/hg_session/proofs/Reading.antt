-- A session that reads: that it may, and what it has after it.
use Rattle.std.proofs.Common.{◌≡◌, ℕ, zero, suc, List, [], ◌∷◌, ◌++◌, Bool, true, false, Option, Some, not, refl, sym, ap, ◌∙◌, subst}
use Rattle.std.specs.Prelude.{IsTrue, IsFalse, if◌then◌else◌, Result, Ok, Err}
use Rattle.hg_base.specs.declared.fault.NoMemory.{NoMemory}
use Rattle.hg_base.specs.declared.rid.Rid.{Rid}
use Rattle.hg_base.specs.declared.rid.TableId.{TableId}
use Rattle.hg_base.specs.declared.scope.Snapshot.{Snapshot}
use Rattle.hg_base.specs.Lists.{Each}
use Rattle.hg_base.specs.Transcript.{has}
use Rattle.hg_core.specs.declared.log.LogEntry.{LogEntry}
use Rattle.hg_core.specs.declared.log.LogEntry.TheVariants.{Saw}
use Rattle.hg_core.specs.Contents.{has_own}
use Rattle.hg_core.specs.Reading.{saws}
use Rattle.hg_cursor.specs.Keys.{Rows}
use Rattle.hg_cursor.specs.Logs.{Adds, IsHeard, MayRead}
use Rattle.hg_cursor.specs.Scans.{Scans}
use Rattle.hg_cursor.proofs.Trips.{first_number, first_session, adds_only}
use Rattle.hg_rule.specs.declared.board.Board.{Board}
use Rattle.hg_rule.specs.declared.view.SessionPart.{SessionPart}
use Rattle.hg_rule.specs.declared.view.View.{View}
use Rattle.hg_rule.specs.Seats.{board_id, sizes_of, IsSessionOf}
use Rattle.hg_rule.specs.Views.{number, session}
use Rattle.hg_rule.specs.Writes.{with_log}
use Rattle.hg_store.specs.declared.store.Store.{Store}
use Rattle.hg_store.specs.Stores.{store_buckets}
use Rattle.hg_session.specs.declared.engine.Engine.{Engine}
use Rattle.hg_session.specs.declared.session.Session.{Session}
use Rattle.hg_session.specs.Engines.{engine_board, engine_sizes, engine_store}
use Rattle.hg_session.specs.Gains.{Gains}
use Rattle.hg_session.specs.Replies.{IsRefusedIf}
use Rattle.hg_session.specs.Sessions.{IsIn, pass_of, view_of, left_of, cursor_of, opened_of, written_of}
use Rattle.hg_session.specs.Ties.{Ties, phase_at}
use Rattle.hg_session.proofs.Tying.{IsQuiet, ties_quiet, ties_unwritten}

-- an engine's store has the buckets of its board
pub counted : (e : Engine) (store : Store) → store ≡ engine_store e → store_buckets store ≡ (engine_sizes e).buckets
counted e store same = ap store_buckets same ∙ e.shared.value.buckets_are

-- a table that is not outside of those that the open transaction declared
pub inside_scope : (declared outside : Bool) → outside ≡ not declared → outside ≡ false → IsTrue declared
inside_scope true outside is within = refl
inside_scope false outside is within = absurd (let k = sym is ∙ within in cc)

-- and one that is
pub outside_scope : (declared outside : Bool) → outside ≡ not declared → outside ≡ true → IsFalse declared
outside_scope true outside is out = absurd (let k = sym is ∙ out in cc)
outside_scope false outside is out = refl

-- a statement on a declared table is not refused for it
pub not_undeclared : {T E : Type 0} (snapshot : Snapshot) (table : TableId) (result : Result T E) (e : E) → IsTrue (has snapshot.scope table) → (result ≡ Err e → ⊥) →
    IsRefusedIf (Some snapshot) table result e
not_undeclared snapshot table result e declared not_e = (λ no. absurd (let k = sym no ∙ declared in cc), λ is. absurd (not_e is))

-- such a session may read it
pub may_read : (e : Engine) (begins writes : ℕ) (s : Session) (snapshot : Snapshot) (table : TableId) → IsIn e begins writes s → opened_of s ≡ Some snapshot →
    IsTrue (has snapshot.scope table) → MayRead snapshot.at table (view_of s)
may_read e begins writes s snapshot table i opened declared = record {
  only = i.only;
  scope = snapshot.scope;
  live = i.ties.phase ∙ ap phase_at opened;
  declared = declared;
  plain = i.ties.plain;
  unstamped = i.ties.unstamped;
}

pub adds_gain : (v w : View) (es : List LogEntry) → Adds v es w → Gains v es w
adds_gain v w es a = record {
  number_is = first_number w (number v) _ [] a.parts;
  log = ap (λ (p : SessionPart). p.log) (first_session w (number v) _ [] a.parts);
  kept = a.kept;
}

-- ---- entries that change nothing of what it keeps

pub ties_looked : (quota left begins writes : ℕ) (opened : Option Snapshot) (written : List Rid) (part : SessionPart) (es : List LogEntry) → Each IsQuiet es →
    Ties quota opened written left begins writes part → Ties quota opened written left begins writes (with_log (es ++ part.log) part)
ties_looked quota left begins writes opened written part [] q t = t
ties_looked quota left begins writes opened written part (e ∷ es) q t = ties_quiet quota left begins writes opened written (with_log (es ++ part.log) part) e q.0
    (ties_looked quota left begins writes opened written part es q.1 t)

saws_quiet : (buckets : ℕ) (table : TableId) (low high : ℕ) (part : ℕ → Rows) (n : ℕ) → Each IsQuiet (saws buckets table low high part n)
saws_quiet buckets table low high part zero = tt
saws_quiet buckets table low high part (suc n) = go (has_own buckets table low high n) (saws_quiet buckets table low high part n)
  where
    earlier : List LogEntry
    earlier = saws buckets table low high part n

    go : (x : Bool) → Each IsQuiet earlier → Each IsQuiet (if x then Saw table low high n (part n) ∷ earlier else earlier)
    go true rest = (tt, rest)
    go false rest = rest

-- the looks of a scan, by its answer
pub scan_looks : (count : ℕ) (v w : View) (table : TableId) (low high : ℕ) (answer : Result Rows NoMemory) → Scans count v table low high answer w →
    (es : List LogEntry) × Each IsQuiet es × Adds v es w
scan_looks count v w table low high (Ok rows) s = (saws count table low high s.part count, saws_quiet count table low high s.part count, s.adds)
scan_looks count v w table low high (Err e) s = (saws count table low high s.part s.seen, saws_quiet count table low high s.part s.seen, s.adds)

-- ---- the session after looks

pub looked_in : (e : Engine) (begins writes : ℕ) (s t : Session) (board : Board) (es : List LogEntry) → board ≡ engine_board e → IsIn e begins writes s → Each IsQuiet es →
    Adds (view_of s) es (view_of t) → IsHeard (view_of t) → IsSessionOf (board_id board) (sizes_of board) (pass_of t) →
    opened_of t ≡ opened_of s → written_of t ≡ written_of s → left_of t ≡ left_of s → cursor_of t ≡ cursor_of s → IsIn e begins writes t
looked_in e begins writes s t board es same i quiet a heard own opened written left cursor =
    let quota = (engine_sizes e).quota in
    let ties = ties_looked quota (left_of s) begins writes (opened_of s) (written_of s) (session (view_of s)) es quiet i.ties in
    let after = subst (Ties quota (opened_of s) (written_of s) (left_of s) begins writes) (sym (first_session (view_of t) (number (view_of s)) _ [] a.parts)) ties in
    record {
      pass = subst (λ (b : Board). IsSessionOf (board_id b) (sizes_of b) (pass_of t)) same own;
      only = adds_only (view_of s) (view_of t) es a;
      ties = subst (λ (k : Option Snapshot × (List Rid × ℕ)). Ties quota k.0 k.1.0 k.1.1 begins writes (session (view_of t))) (λ i. (sym opened i, (sym written i, sym left i))) after;
      heard = heard;
      closed = cursor ∙ i.closed;
    }

-- which need not write then
pub no_more_writes : (e : Engine) (s : Session) → IsIn e 0 1 s → IsIn e 0 0 s
no_more_writes e s i = record {
  pass = i.pass;
  only = i.only;
  ties = ties_unwritten (engine_sizes e).quota (opened_of s) (written_of s) (session (view_of s)) (left_of s) i.ties;
  heard = i.heard;
  closed = i.closed;
}
