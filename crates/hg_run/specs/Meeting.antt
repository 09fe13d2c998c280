-- What a meeting of two sessions leaves, and one of a session with a collector's pass.
use Rattle.std.specs.Prelude.{◌≡◌, ℕ, ◌≢◌, List, length, get_or}
use Rattle.hg_rule.specs.declared.view.View.{View}
use Rattle.hg_rule.specs.Agreed.{RecordAgrees}
use Rattle.hg_rule.specs.Facts.{StartsWith}
use Rattle.hg_rule.specs.Moves.{meeting}
use Rattle.hg_rule.specs.Views.{session, pass}
use Rattle.hg_session.specs.declared.engine.Engine.{Engine}
use Rattle.hg_session.specs.declared.session.Session.{Session}
use Rattle.hg_session.specs.Sessions.{IsOf, view_of, number_of, left_of, cursor_of}
use Rattle.hg_session.specs.Finished.{AreAmong}

-- The session at i of a list met the one at j: each has seen what the other had seen, and all others are as they were.
pub record HaveMet (e : Engine) (i j : ℕ) (old new : List Session) : Type 0 where
  pub many : length new ≡ length old
  pub this : (d : Session) → view_of (get_or new i d) ≡ meeting (view_of (get_or old i d)) (view_of (get_or old j d))
  pub other : (d : Session) → view_of (get_or new j d) ≡ meeting (view_of (get_or old j d)) (meeting (view_of (get_or old i d)) (view_of (get_or old j d)))
  pub left : (d : Session) → (left_of (get_or new i d) ≡ left_of (get_or old i d)) × (left_of (get_or new j d) ≡ left_of (get_or old j d))
  pub cursor : (d : Session) → (cursor_of (get_or new i d) ≡ cursor_of (get_or old i d)) × (cursor_of (get_or new j d) ≡ cursor_of (get_or old j d))
  pub rest : (d : Session) (k : ℕ) → k ≢ i → k ≢ j → get_or new k d ≡ get_or old k d
  pub own : (d : Session) → IsOf e (get_or new i d) × IsOf e (get_or new j d)

-- A session that met a collector's pass keeps its part and its cursor, and has seen all that the pass had seen. The pass's record agrees with it.
pub record HasMetPass (v : View) (s t : Session) : Type 0 where
  pub parts : (view_of t).parts ≡ (view_of s).parts
  pub kept : StartsWith (view_of t).sights (view_of s).sights
  pub seen : AreAmong v.sights (view_of t).sights
  pub left : left_of t ≡ left_of s
  pub cursor : cursor_of t ≡ cursor_of s
  pub agrees : RecordAgrees (number_of s) (session (view_of s)) (pass v)
