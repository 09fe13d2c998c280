-- A session that met another, or a collector's pass: it keeps its part, and has seen more.
use Rattle.std.proofs.Common.{◌≡◌, ℕ, ◌++◌, List, sym, subst, inl, inr}
use Rattle.hg_core.specs.declared.log.LogEntry.{LogEntry}
use Rattle.hg_rule.specs.declared.view.Sight.{Sight}
use Rattle.hg_rule.specs.declared.view.View.{View}
use Rattle.hg_rule.specs.Facts.{IsHeard}
use Rattle.hg_rule.specs.Views.{number, session, HasOnlySession}
use Rattle.hg_rule.specs.Moves.{meeting}
use Rattle.hg_rule.specs.Seats.{IsSessionOf}
use Rattle.hg_rule.proofs.Lists.{among_left}
use Rattle.hg_session.specs.declared.engine.Engine.{Engine}
use Rattle.hg_session.specs.declared.session.Session.{Session}
use Rattle.hg_session.specs.Engines.{engine_board_id, engine_sizes}
use Rattle.hg_session.specs.Ties.{Ties, FitsCursor}
use Rattle.hg_session.specs.Sessions.{IsOf, pass_of, view_of, cursor_of, left_of, opened_of, written_of}

heard_still : (j : ℕ) (log : List LogEntry) (sights more : List Sight) → IsHeard j log sights → IsHeard j log (sights ++ more)
heard_still j log sights more (inl e) = inl e
heard_still j log sights more (inr h) = inr (among_left _ sights more h)

-- it is as it was, but for what it has seen
pub met : (e : Engine) (s t : Session) (w : View) → IsOf e s → IsSessionOf (engine_board_id e) (engine_sizes e) (pass_of t) → view_of t ≡ meeting (view_of s) w
    → opened_of t ≡ opened_of s → written_of t ≡ written_of s → left_of t ≡ left_of s → cursor_of t ≡ cursor_of s → IsOf e t
met e s t w is own view opened written left cursor = record {
  pass = own;
  only = subst HasOnlySession (sym view) is.only;
  ties = subst (λ v. Ties (engine_sizes e).quota (opened_of t) (written_of t) (left_of t) 0 0 (session v)) (sym view)
      (subst (λ o. Ties (engine_sizes e).quota o (written_of t) (left_of t) 0 0 (session (view_of s))) (sym opened)
      (subst (λ l. Ties (engine_sizes e).quota (opened_of s) l (left_of t) 0 0 (session (view_of s))) (sym written)
      (subst (λ n. Ties (engine_sizes e).quota (opened_of s) (written_of s) n 0 0 (session (view_of s))) (sym left) is.ties)));
  heard = subst (λ (v : View). IsHeard (number v) (session v).log v.sights) (sym view) (heard_still (number (view_of s)) (session (view_of s)).log (view_of s).sights w.sights is.heard);
  cursor = subst (λ c. FitsCursor c (opened_of t) (written_of t)) (sym cursor)
      (subst (λ o. FitsCursor (cursor_of s) o (written_of t)) (sym opened) (subst (FitsCursor (cursor_of s) (opened_of s)) (sym written) is.cursor));
}
