-- A session after a call of it, which holds nothing again.
use Rattle.std.proofs.Common.{◌≡◌, ℕ, None, List, [], ◌∷◌, ◌++◌, sym, ap, ◌∙◌, subst, inr}
use Rattle.hg_core.specs.declared.log.LogEntry.{LogEntry}
use Rattle.hg_rule.specs.declared.passes.SessionPass.{SessionPass}
use Rattle.hg_rule.specs.declared.view.SessionPart.{SessionPart}
use Rattle.hg_rule.specs.declared.view.Part.TheVariants.{OfSession}
use Rattle.hg_rule.specs.declared.view.Sight.{Sight}
use Rattle.hg_rule.specs.declared.view.Sight.TheVariants.{Heard}
use Rattle.hg_rule.specs.declared.view.View.{View}
use Rattle.hg_rule.specs.declared.view.Sizes.{Sizes}
use Rattle.hg_rule.specs.Facts.{IsAmong, IsHeard}
use Rattle.hg_rule.specs.Views.{number, session}
use Rattle.hg_rule.specs.Seats.{BoardId, session_view, session_rest, IsSeatOf, IsSessionOf}
use Rattle.hg_rule.proofs.Holders.{still_session}
use Rattle.hg_rule.proofs.Lists.{starts_on, each_left}
use Rattle.hg_session.specs.declared.engine.Engine.{Engine}
use Rattle.hg_session.specs.declared.session.Session.{Session}
use Rattle.hg_session.specs.Engines.{engine_board_id, engine_sizes}
use Rattle.hg_session.specs.Ties.{Ties}
use Rattle.hg_session.specs.Sessions.{IsIn, pass_of, view_of, log_of, seen_by, cursor_of, left_of, opened_of, written_of}
use Rattle.std.specs.Prelude.{IsFalse, ◌==◌}
use Rattle.hg_base.specs.declared.writer.Writer.{Writer}
use Rattle.hg_base.specs.Lists.{Each}
use Rattle.hg_bucket.specs.declared.refusal.WriteRefusal.{WriteRefusal}
use Rattle.hg_bucket.specs.declared.refusal.WriteRefusal.TheVariants.{Open, Newer, NoMemory}
use Rattle.hg_store.specs.Ends.{HasNoEnd}
use Rattle.hg_session.specs.Gains.{Alone, Gains, IsRefusedBy}
use Rattle.hg_rule.specs.Places.{without_bucket}
use Rattle.hg_session.proofs.Trips.{alone_only, departed}
use Rattle.hg_cursor.proofs.Trips.{first_number, first_session, Beside}

-- a pass that gave the bucket back is one of the board still
pub left_pass : (t : BoardId) (z : Sizes) (p q : SessionPass) (j b : ℕ) (part : SessionPart) (old : List Sight) → IsSessionOf t z p → Beside j part b old (session_view p) →
    IsSeatOf t q.seat → session_rest q ≡ session_rest p → Alone j part old (session_view q) → IsSessionOf t z q
left_pass t z p q j b part old own h seat rest a =
    let n = first_number (session_view p) j part _ h.parts in
    let s = first_session (session_view p) j part _ h.parts in
    still_session t z p q [] own seat rest (a.parts ∙ (λ i. OfSession (sym n i) (sym s i) ∷ []))

-- A session took a bucket, worked in it, and gave it back: what it has then, with and without the bucket.
pub record Trip (j : ℕ) (part : SessionPart) (b : ℕ) (old : List Sight) (u w : View) : Type 0 where
  pub beside : Beside j part b old u
  pub alone : Alone j part old w
  pub heard : IsAmong (Heard j part.log) w.sights

pub trip : (j b : ℕ) (part : SessionPart) (old : List Sight) (u w : View) → Beside j part b old u → IsAmong (Heard j part.log) u.sights → w ≡ without_bucket u → Trip j part b old u w
trip j b part old u w h among e = record { beside = h; alone = departed j part b old u w h e; heard = subst (IsAmong (Heard j part.log)) (sym (ap (λ (x : View). x.sights) e)) among }

pub settled : (e : Engine) (begins writes : ℕ) (v : View) (s : Session) (part : SessionPart) (old : List Sight) → IsSessionOf (engine_board_id e) (engine_sizes e) (pass_of s) →
    Alone (number v) part old (view_of s) → Ties (engine_sizes e).quota (opened_of s) (written_of s) (left_of s) begins writes part →
    IsAmong (Heard (number v) part.log) (seen_by s) → cursor_of s ≡ None → IsIn e begins writes s
settled e begins writes v s part old own a ties among closed =
    let n = first_number (view_of s) (number v) part [] a.parts in
    let p = first_session (view_of s) (number v) part [] a.parts in record {
      pass = own;
      only = alone_only (view_of s) (number v) part old a;
      ties = subst (Ties (engine_sizes e).quota (opened_of s) (written_of s) (left_of s) begins writes) (sym p) ties;
      heard = subst (λ j. IsHeard j (log_of s) (seen_by s)) (sym n) (subst (λ l. IsHeard (number v) l (seen_by s)) (sym (ap (λ (x : SessionPart). x.log) p)) (inr among));
      closed = closed;
    }

pub gained : (v w : View) (part : SessionPart) (es : List LogEntry) → Alone (number v) part v.sights w → part.log ≡ es ++ (session v).log → Gains v es w
gained v w part es a e = record {
  number_is = first_number w (number v) part [] a.parts;
  log = ap (λ (x : SessionPart). x.log) (first_session w (number v) part [] a.parts) ∙ e;
  kept = a.kept;
}

-- the session after a trip
pub trip_settled : (e : Engine) (begins writes b : ℕ) (v : View) (p : SessionPass) (s : Session) (part : SessionPart) → Trip (number v) part b v.sights (session_view p) (view_of s)
    → IsSessionOf (engine_board_id e) (engine_sizes e) p → IsSeatOf (engine_board_id e) (pass_of s).seat → session_rest (pass_of s) ≡ session_rest p
    → Ties (engine_sizes e).quota (opened_of s) (written_of s) (left_of s) begins writes part → cursor_of s ≡ None → IsIn e begins writes s
trip_settled e begins writes b v p s part t own seat rest ties closed = settled e begins writes v s part v.sights
    (left_pass (engine_board_id e) (engine_sizes e) p (pass_of s) (number v) b part v.sights own t.beside seat rest t.alone) t.alone ties t.heard closed

-- two calls, one after the other
pub gains_on : (u v w : View) (es fs : List LogEntry) → Gains u es v → Gains v fs w → ((l : List LogEntry) → fs ++ (es ++ l) ≡ (fs ++ es) ++ l) → Gains u (fs ++ es) w
gains_on u v w es fs a b assoc = record {
  number_is = b.number_is ∙ a.number_is;
  log = b.log ∙ (ap (λ l. fs ++ l) a.log ∙ assoc (session u).log);
  kept = starts_on w.sights v.sights u.sights a.kept b.kept;
}

-- who refuses a write, as it was before the call
pub refused_before : (z : Sizes) (v m : View) (at : ℕ) (e : WriteRefusal) (es : List LogEntry) → Gains v es m → IsRefusedBy z m at e → IsRefusedBy z v at e
refused_before z v m at (Open j x) es g r = let o : Writer = record { session = j; transaction = x } in
    (r.0, (subst (λ n. IsFalse (j == n)) g.number_is r.1.0, each_left (HasNoEnd o) v.sights g.kept.0 (subst (Each (HasNoEnd o)) g.kept.1 r.1.1)))
refused_before z v m at (Newer n) es g r = r
refused_before z v m at NoMemory es g r = tt
