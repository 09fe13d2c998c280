-- What a call of a session leaves as it was.
use Rattle.std.specs.Prelude.{◌≡◌, ◌+◌, None}
use Rattle.hg_session.specs.declared.engine.Engine.{Engine}
use Rattle.hg_session.specs.declared.session.Session.{Session}
use Rattle.hg_session.specs.Sessions.{IsOf, open_of, cursor_of, left_of, retries_of, opened_of, written_of}

-- ---- inside a call

-- its counts: how many statements are left, and how many of its commits ran out of memory
abbrev pub KeepsCounts : Session → Session → Type 0
KeepsCounts old new = (left_of new ≡ left_of old) × (retries_of new ≡ retries_of old)

-- its counts, and which transaction is open
abbrev pub KeepsOpened : Session → Session → Type 0
KeepsOpened old new = (opened_of new ≡ opened_of old) × (left_of new ≡ left_of old) × (retries_of new ≡ retries_of old)

-- its counts, which transaction is open, and which records that one wrote
abbrev pub KeepsWritten : Session → Session → Type 0
KeepsWritten old new = (opened_of new ≡ opened_of old) × (written_of new ≡ written_of old) × (left_of new ≡ left_of old) × (retries_of new ≡ retries_of old)

-- ---- between calls

-- its counts and its cursor: a meeting changes only what it has seen
abbrev pub KeepsCursor : Session → Session → Type 0
KeepsCursor old new = (left_of new ≡ left_of old) × (cursor_of new ≡ cursor_of old) × (retries_of new ≡ retries_of old)

-- It is the engine's, and has one statement less left. No commit ran out of memory.
abbrev pub SpendsOne : Engine → Session → Session → Type 0
SpendsOne e old new = IsOf e new × (left_of new + 1 ≡ left_of old) × (retries_of new ≡ retries_of old)

-- The same, and the open transaction goes on: it is the one that was open, or none is.
abbrev pub SpendsWithin : Engine → Session → Session → Type 0
SpendsWithin e old new = IsOf e new × (open_of new ≡ open_of old) × (left_of new + 1 ≡ left_of old) × (retries_of new ≡ retries_of old)

-- It is the engine's, no cursor is open, and it has as many statements left: what ends a transaction counts as none.
abbrev pub SpendsNone : Engine → Session → Session → Type 0
SpendsNone e old new = IsOf e new × (cursor_of new ≡ None) × (left_of new ≡ left_of old)
