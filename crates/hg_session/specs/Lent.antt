-- Sessions whose parts were handed over to one pass, and came back.
use Rattle.std.specs.Prelude.{◌≡◌, [], ◌∷◌}
use Rattle.hg_rule.specs.declared.view.Part.{Part}
use Rattle.hg_rule.specs.declared.view.Part.TheVariants.{OfSession, Away, Lent}
use Rattle.hg_rule.specs.Facts.{StartsWith}
use Rattle.hg_rule.specs.Seats.{IsSessionOf, IsAwayOf}
use Rattle.hg_rule.specs.Views.{session, since}
use Rattle.hg_session.specs.declared.engine.Engine.{Engine}
use Rattle.hg_session.specs.declared.session.Session.{Session}
use Rattle.hg_session.specs.Engines.{engine_board_id, engine_sizes}
use Rattle.hg_session.specs.Sessions.{IsOf, pass_of, view_of, number_of, seen_by}

-- a session's part, as the pass has it to which it was handed over
abbrev pub lent_of : Session → Part
lent_of s = Lent (number_of s) (session (view_of s))

-- a session as it was, but for its pass, which has seen more
pub record KeepsAllBut (was now : Session) : Type 0 where
  pub kept : StartsWith (seen_by now) (seen_by was)
  pub same : now ≡ record was { pass = pass_of now }

-- its part was handed over
pub record HasLent (e : Engine) (was now : Session) : Type 0 where
  pub away : (view_of now).parts ≡ Away (number_of was) (session (view_of was)) (since (view_of now)) ∷ []
  pub keeps : KeepsAllBut was now
  pub own : IsAwayOf (engine_board_id e) (engine_sizes e) (pass_of now)

-- its part came back as it was handed over
pub record HasBack (e : Engine) (was now : Session) : Type 0 where
  pub parts : (view_of now).parts ≡ OfSession (number_of was) (session (view_of was)) ∷ []
  pub keeps : KeepsAllBut was now
  pub own : IsSessionOf (engine_board_id e) (engine_sizes e) (pass_of now)

-- a session between two statements that is as it was, and has seen more
pub record HasSeenMore (e : Engine) (was now : Session) : Type 0 where
  pub parts : (view_of now).parts ≡ (view_of was).parts
  pub keeps : KeepsAllBut was now
  pub own : IsOf e now
