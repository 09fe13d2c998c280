-- The table of the cursor that a session opened last.
use Rattle.std.specs.Prelude.{◌≡◌, ◌==◌, ℕ, ◌≤◌, List, [], ◌∷◌, ◌++◌, get_or, Option, Some, None, if◌then◌else◌, ⊤}
use Rattle.std.specs.Option.{option_or}
use Rattle.hg_base.specs.declared.limits.TheConstants.{MOST_SESSIONS}
use Rattle.hg_base.specs.declared.rid.TableId.{TableId}
use Rattle.hg_base.specs.declared.statement.Statement.{Statement}
use Rattle.hg_base.specs.Text.{opens}
use Rattle.hg_records.specs.declared.statements.Entry.{Entry}
use Rattle.hg_records.specs.declared.packed.Packed.{Packed}
use Rattle.hg_records.specs.declared.packed.Packed.TheVariants.{CursorOpen, Fetch}

-- the table of session j's last cursor, in a list of statements with their sessions
abbrev pub cursor_in : ℕ → List (ℕ × Statement) → Option TableId
cursor_in j [] = None
cursor_in j (said ∷ more) = option_or (cursor_in j more) (if said.0 == j then opens said.1 else None)

-- ---- as statements are stored

-- the table of the cursor that a stored statement opens, and none where it opens none
abbrev pub table_opened : Packed → Option TableId
table_opened (CursorOpen table first) = Some table
table_opened _ = None

-- the table of session j's last cursor, in a list of entries
abbrev pub cursor_among : ℕ → List Entry → Option TableId
cursor_among j [] = None
cursor_among j (e ∷ es) = option_or (cursor_among j es) (if e.session == j then table_opened e.packed else None)

-- a fetch is stored with the table of its cursor
abbrev pub HasCursor : Option TableId → Packed → Type 0
HasCursor cursor (Fetch n own) = own ≡ cursor
HasCursor cursor _ = ⊤

-- each fetch is stored with the table of its session's last cursor before it
abbrev pub AreCursored : List Entry → List Entry → Type 0
AreCursored before [] = ⊤
AreCursored before (e ∷ es) = HasCursor (cursor_among e.session before) e.packed × AreCursored (before ++ e ∷ []) es

-- for each session, the table of its last cursor
abbrev pub KnowsCursors : List (Option TableId) → List Entry → Type 0
KnowsCursors tables entries = (j : ℕ) → j ≤ MOST_SESSIONS → get_or tables j None ≡ cursor_among j entries
