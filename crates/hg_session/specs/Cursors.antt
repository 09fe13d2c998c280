-- What a session's cursor has left.
use Rattle.std.specs.Prelude.{◌≡◌, ℕ, Option, Some, None, ⊤}
use Rattle.hg_base.specs.Transcript.{Rest}
use Rattle.hg_cursor.specs.declared.cursor.Cursor.{Cursor}
use Rattle.hg_cursor.specs.Cursors.{table_of, high_of, rest_of}
use Rattle.hg_cursor.specs.Given.{begins_at}
use Rattle.hg_rule.specs.declared.view.View.{View}
use Rattle.hg_session.specs.declared.session.Session.{Session}
use Rattle.hg_session.specs.Refused.{HasLooked}
use Rattle.hg_session.specs.Sessions.{cursor_of}

-- A cursor has the keys of a rest left: those of its table that it has not passed, up to the end of its range. Where it has
-- passed all of them, the rest is an empty one.
pub record IsLeftBy (c : Cursor) (rest : Rest) : Type 0 where
  pub table : rest.table ≡ table_of c
  pub high : rest.high ≡ high_of c
  pub from : rest_of c ≡ begins_at rest.low rest.high

-- an open cursor has the keys of this rest left; where no cursor is open, nothing is said of the rest
abbrev pub FitsRest : Option Cursor → Option Rest → Type 0
FitsRest None rest = ⊤
FitsRest (Some c) None = ⊥
FitsRest (Some c) (Some rest) = IsLeftBy c rest

-- this is what the open cursor has left, if one is open
abbrev pub HasLeft : Session → Option Rest → Type 0
HasLeft s rest = FitsRest (cursor_of s) rest

-- A refused fetch looked at what its cursor had left, which was some key, and did nothing else.
abbrev pub HasLookedOn : Option Cursor → View → View → Type 0
HasLookedOn None old new = ⊥
HasLookedOn (Some c) old new = (low : ℕ) × (rest_of c ≡ Some low) × HasLooked (table_of c) low (high_of c) old new
