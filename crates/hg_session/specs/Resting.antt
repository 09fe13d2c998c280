-- A session at rest.
use Rattle.std.specs.Prelude.{◌≡◌, ℕ, ◌≤◌, None}
use Rattle.hg_session.specs.declared.engine.Engine.{Engine}
use Rattle.hg_session.specs.declared.session.Session.{Session}
use Rattle.hg_session.specs.Sessions.{IsOf, open_of, left_of}

-- it has no open transaction, and may run so many statements
abbrev pub MayRun : Engine → ℕ → Session → Type 0
MayRun e n s = IsOf e s × (open_of s ≡ None) × (n ≤ left_of s)
