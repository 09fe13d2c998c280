-- What meetings and rounds make of the collectors of a replay.
use Rattle.std.proofs.Common.{◌≡◌, ℕ, [], ◌∷◌, sym, ap, subst}
use Rattle.hg_base.specs.Lists.{Each}
use Rattle.hg_rule.specs.declared.view.Part.TheVariants.{OfPass}
use Rattle.hg_rule.specs.declared.view.View.{View}
use Rattle.hg_rule.specs.Agreed.{AgreesWith, PartAgrees}
use Rattle.hg_rule.specs.Facts.{IsAmong}
use Rattle.hg_rule.specs.Moves.{meeting}
use Rattle.hg_rule.specs.Views.{session, pass}
use Rattle.hg_rule.proofs.Lists.{among_left}
use Rattle.hg_session.specs.declared.session.Session.{Session}
use Rattle.hg_session.specs.Sessions.{view_of, number_of, left_of, cursor_of}
use Rattle.hg_session.specs.Finished.{AreAmong}
use Rattle.hg_collectors.specs.Swept.{HasMetSessions}
use Rattle.hg_run.specs.Meeting.{HasMetPass}
use Rattle.hg_rule.proofs.Growing.{among_later}

-- ---- a session meets a pass

pub met_pass : (p : ℕ) (v w : View) (s t : Session) → v.parts ≡ OfPass p (pass v) ∷ [] → AgreesWith v (number_of s) (session (view_of s)) → w ≡ meeting v (view_of s) →
    view_of t ≡ meeting (view_of s) w → left_of t ≡ left_of s → cursor_of t ≡ cursor_of s → HasMetPass v s t
met_pass p v w s t only agrees this other left cursor = record {
  parts = ap (λ (x : View). x.parts) other;
  kept = (w.sights, ap (λ (x : View). x.sights) other);
  seen = λ a i. subst (IsAmong a) (sym (ap (λ (x : View). x.sights) other))
      (among_later a (view_of s).sights w.sights (subst (IsAmong a) (sym (ap (λ (x : View). x.sights) this)) (among_left a v.sights (view_of s).sights i)));
  left = left;
  cursor = cursor;
  agrees = (subst (Each (PartAgrees (number_of s) (session (view_of s)))) only agrees.parts).0;
}

pub met_sessions : (v w : View) (s : Session) → w ≡ meeting v (view_of s) → HasMetSessions v w
met_sessions v w s this = record { parts = ap (λ (x : View). x.parts) this; events = ap (λ (x : View). x.events) this; kept = ((view_of s).sights, ap (λ (x : View). x.sights) this) }

pub heard_session : (v w : View) (s : Session) → w ≡ meeting v (view_of s) → AreAmong (view_of s).sights w.sights
heard_session v w s this a i = subst (IsAmong a) (sym (ap (λ (x : View). x.sights) this)) (among_later a v.sights (view_of s).sights i)
