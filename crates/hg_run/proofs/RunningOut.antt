-- Memory ran out at a call of a session: what that leaves of the session, and of its list.
use Rattle.std.proofs.Common.{◌≡◌, inl, inr, ℕ, suc, ◌<◌, List, [], ◌∷◌, ◌++◌, length, Bool, Option, Some, None, refl, sym, ap, ◌∙◌, subst, arith, append_assoc}
use Rattle.std.specs.Prelude.{Result, Ok, Err, OnErr, get_or}
use Rattle.hg_base.specs.declared.rid.Rid.{Rid}
use Rattle.hg_base.specs.declared.rid.TableId.{TableId}
use Rattle.hg_base.specs.declared.image.Image.{Image}
use Rattle.hg_base.specs.declared.scope.Snapshot.{Snapshot}
use Rattle.hg_base.specs.Transcript.{only}
use Rattle.hg_base.proofs.ListFacts.{each_keeps}
use Rattle.hg_core.specs.declared.log.LogEntry.{LogEntry}
use Rattle.hg_core.specs.declared.log.LogEntry.TheVariants.{Began, Saw, Over}
use Rattle.hg_core.proofs.Indices.{put_else}
use Rattle.hg_cursor.specs.declared.cursor.Cursor.{Cursor}
use Rattle.hg_rule.specs.declared.view.Sight.{Sight}
use Rattle.hg_rule.specs.declared.view.View.{View}
use Rattle.hg_rule.specs.Facts.{IsAmong, StartsWith}
use Rattle.hg_rule.proofs.Lists.{among_left}
use Rattle.hg_session.specs.declared.answers.Read.{Read}
use Rattle.hg_session.specs.declared.answers.Scanned.{Scanned}
use Rattle.hg_session.specs.declared.answers.Written.{Written}
use Rattle.hg_session.specs.declared.answers.Deleted.{Deleted}
use Rattle.hg_session.specs.declared.answers.GetRefusal.{GetRefusal}
use Rattle.hg_session.specs.declared.answers.GetRefusal.TheVariants as get
use Rattle.hg_session.specs.declared.answers.PutRefusal.{PutRefusal}
use Rattle.hg_session.specs.declared.answers.PutRefusal.TheVariants as put
use Rattle.hg_session.specs.declared.engine.Engine.{Engine}
use Rattle.hg_session.specs.declared.session.Session.{Session}
use Rattle.hg_session.specs.Cursors.{HasLookedOn}
use Rattle.hg_session.specs.Finished.{logs_of}
use Rattle.hg_session.specs.Gains.{Gains}
use Rattle.hg_session.specs.Refused.{HasGivenUp, HasLooked, IsLookAt, LeavesLooks, LeavesNoWrite}
use Rattle.hg_session.specs.Replies.{del_reply, get_reply, put_reply, refused_reply, scan_reply}
use Rattle.hg_session.specs.Sessions.{cursor_of, log_of, open_of, seen_by, view_of}
use Rattle.hg_run.specs.Listed.{HasChangedAt, HasRunOne}
use Rattle.hg_run.specs.Unsaid.{HasOnlyMet, HasRunOut, HasRunOutAt, IsLook, LeavesUnsaid, NothingStays}
use Rattle.hg_run.proofs.Asking.{ready_fewer}
use Rattle.hg_run.proofs.Listing.{by_two, log_at}
use Rattle.hg_run.proofs.MeetingAll.{HasOneMet, logs_one, ready_one}
use Rattle.hg_run.proofs.Turns.{logs_ran, ready_ran, some_of}

-- ---- a session

look_at : (table : TableId) (low high : ℕ) (e : LogEntry) → IsLookAt table low high e → IsLook e
look_at table low high (Saw t l h bucket rows) k = tt
look_at table low high _ k = absurd k

looked_out : (table : TableId) (low high : ℕ) (old new : Session) → HasLooked table low high (view_of old) (view_of new) → HasRunOut old new
looked_out table low high old new h = record {
  log = inl (record { looks = h.looks; only = each_keeps (IsLookAt table low high) IsLook (look_at table low high) h.looks h.there; log = h.gains.log });
  kept = h.gains.kept;
}

gave_out : (table : TableId) (low high : ℕ) (besides : List LogEntry) (old new : Session) → open_of old ≡ None → NothingStays besides →
    HasGivenUp table low high besides (view_of old) (view_of new) → HasRunOut old new
gave_out table low high besides old new closed nothing h =
    let began : LogEntry = Began h.at (only (Some table)) in
    record {
      log = inr (record {
        alone = closed;
        at = h.at;
        scope = only (Some table);
        looks = h.looks;
        only = each_keeps (IsLookAt table low high) IsLook (look_at table low high) h.looks h.there;
        stored = besides;
        nothing = nothing;
        log = h.gains.log ∙ ap (λ l. Over ∷ l) (append_assoc besides (h.looks ++ began ∷ []) (log_of old) ∙ ap (λ l. besides ++ l) (append_assoc h.looks (began ∷ []) (log_of old)));
      });
      kept = h.gains.kept;
    }

-- a get or a scan, whether a transaction is open or not
pub read_out : (o : Option Snapshot) (table : TableId) (low high : ℕ) (old new : Session) → open_of old ≡ o → LeavesLooks o table low high (view_of old) (view_of new) → HasRunOut old new
read_out (Some snapshot) table low high old new is h = looked_out table low high old new h
read_out None table low high old new is h = gave_out table low high [] old new is (inl refl) h

-- a put or a del
pub write_out : (o : Option Snapshot) (rid : Rid) (image : Image) (old new : Session) → open_of old ≡ o → LeavesNoWrite o rid image (view_of old) (view_of new) → HasRunOut old new
write_out (Some snapshot) rid image old new is h = looked_out rid.table rid.key rid.key old new h
write_out None rid image old new is (inl h) = gave_out rid.table rid.key rid.key [] old new is (inl refl) h
write_out None rid image old new is (inr h) = gave_out rid.table rid.key rid.key _ old new is (inr (rid, image, refl)) h

pub fetch_out : (c : Option Cursor) (old new : Session) → HasLookedOn c (view_of old) (view_of new) → HasRunOut old new
fetch_out None old new h = absurd h
fetch_out (Some c) old new (low, left, h) = looked_out _ low _ old new h

pub commit_out : (old new : Session) → Gains (view_of old) [] (view_of new) → HasRunOut old new
commit_out old new g = record { log = inl (record { looks = []; only = tt; log = g.log }); kept = g.kept }

-- ---- no reply comes of a call at which memory ran out

pub none_got : (alone : Bool) (result : Result Read GetRefusal) → get_reply alone result ≡ None → result ≡ Err get.NoMemory
none_got alone (Ok read) e = absurd (let z : Some _ ≡ None = e in cc)
none_got alone (Err (get.Undeclared table)) e = absurd (let z : Some _ ≡ None = e in cc)
none_got alone (Err get.NoMemory) e = refl

pub none_scanned : (alone : Bool) (result : Result Scanned GetRefusal) → scan_reply alone result ≡ None → result ≡ Err get.NoMemory
none_scanned alone (Ok scanned) e = absurd (let z : Some _ ≡ None = e in cc)
none_scanned alone (Err (get.Undeclared table)) e = absurd (let z : Some _ ≡ None = e in cc)
none_scanned alone (Err get.NoMemory) e = refl

none_refused : (alone : Bool) (refusal : PutRefusal) → refused_reply alone refusal ≡ None → refusal ≡ put.NoMemory
none_refused alone (put.Undeclared table) e = absurd (let z : Some _ ≡ None = e in cc)
none_refused alone (put.Open at session transaction) e = absurd (let z : Some _ ≡ None = e in cc)
none_refused alone (put.Newer at number) e = absurd (let z : Some _ ≡ None = e in cc)
none_refused alone put.NoMemory e = refl

pub none_put : (alone : Bool) (result : Result Written PutRefusal) → put_reply alone result ≡ None → result ≡ Err put.NoMemory
none_put alone (Ok written) e = absurd (let z : Some _ ≡ None = e in cc)
none_put alone (Err refusal) e = ap Err (none_refused alone refusal e)

pub none_deleted : (alone : Bool) (result : Result Deleted PutRefusal) → del_reply alone result ≡ None → result ≡ Err put.NoMemory
none_deleted alone (Ok deleted) e = absurd (let z : Some _ ≡ None = e in cc)
none_deleted alone (Err refusal) e = ap Err (none_refused alone refusal e)

pub on_err : {A E : Type 0} (P Q : Type 0) (result : Result A E) → (P → Q) → OnErr result P → OnErr result Q
on_err P Q (Ok a) f h = tt
on_err P Q (Err e) f h = f h

pub at_err : {A E : Type 0} (P : Type 0) (result : Result A E) → P → OnErr result P
at_err P (Ok a) h = tt
at_err P (Err e) h = h

-- ---- one of a list

among_kept : (old new : Session) → StartsWith (seen_by new) (seen_by old) → (x : Sight) → IsAmong x (seen_by old) → IsAmong x (seen_by new)
among_kept old new kept x there = subst (IsAmong x) (sym kept.1) (among_left x (seen_by old) kept.0 there)

pub run_out_at : (e : Engine) (i : ℕ) (old new : List Session) → HasChangedAt i old new → ((d : Session) → HasRunOne e (get_or old i d) (get_or new i d)) →
    ((d : Session) → HasRunOut (get_or old i d) (get_or new i d)) → i < length old → HasRunOutAt e i old new
run_out_at e i old new others ran out within =
    let d = some_of old i within in
    record {
      log = subst (λ l. LeavesUnsaid l (logs_of new (suc i))) (sym (log_at d old i within))
          (subst (λ l. LeavesUnsaid (log_of (get_or old i d)) l) (sym (log_at d new i (let e = others.many in omega (arith, e, within)))) (out d).log);
      rest = λ k apart. ap (λ (logs : ℕ → List LogEntry). logs (suc k)) (logs_ran i old new d others within) ∙
          put_else (logs_of old) (suc i) (suc k) (log_of (get_or new i d)) (λ q. apart (omega (arith, q)));
      sees = λ d x there. among_kept (get_or old i d) (get_or new i d) (out d).kept x there;
      ready = λ left r. ready_ran e i left old new others ran (λ d. (out d).kept) r;
    }

-- ---- a round of a collector

pub only_met : (e : Engine) (v w : View) (i : ℕ) (old mid : List Session) → i < length old → HasOneMet e v w i old mid → HasOnlyMet e i old mid
only_met e v w i old mid within h = record {
  logs = logs_one e v w i old mid within h;
  cursors = λ d k below. by_two i i k (λ k. cursor_of (get_or mid k d) ≡ cursor_of (get_or old k d)) (h.met d).cursor (h.met d).cursor (λ p q. ap cursor_of (h.rest d k p));
  sees = λ d x there. among_kept (get_or old i d) (get_or mid i d) (h.met d).kept x there;
  ready = λ left r. ready_one e v w i left old mid h r;
}

-- the statement that asked for it leaves nothing
pub met_out : (e : Engine) (i : ℕ) (old new : List Session) → HasOnlyMet e i old new → HasRunOutAt e i old new
met_out e i old new h = record {
  log = inl (record { looks = []; only = tt; log = ap (λ (logs : ℕ → List LogEntry). logs (suc i)) h.logs });
  rest = λ k apart. ap (λ (logs : ℕ → List LogEntry). logs (suc k)) h.logs;
  sees = h.sees;
  ready = λ left r. h.ready left (ready_fewer e i left old r);
}
