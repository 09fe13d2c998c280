-- The rows that the fetches of a cursor return, one after the other.
use Rattle.std.specs.Prelude.{◌≡◌, ℕ, ◌+◌, ◌<◌, ◌≤◌, List, [], ◌∷◌, ◌++◌, nat_lt, nat_le, if◌then◌else◌, Option, Some, None}
use Rattle.hg_base.specs.declared.image.Image.{Image}
use Rattle.hg_base.specs.Replies.{AreRows, AreFirst}
use Rattle.hg_base.specs.Transcript.{passed}
use Rattle.hg_cursor.specs.declared.cursor.Cursor.{Cursor}
use Rattle.hg_cursor.specs.Keys.{Rows}
use Rattle.hg_cursor.specs.Cursors.{at_of, table_of, high_of, rest_of}

-- where a cursor over a range begins: nowhere, if the range is empty
abbrev pub begins_at : ℕ → ℕ → Option ℕ
begins_at low high = if nat_le low high then Some low else None

-- the first n rows of the rest of a range, and no row where there is no rest
abbrev pub AreFirstOf : (ℕ → Image) → ℕ → Option ℕ → ℕ → Rows → Type 0
AreFirstOf look n None high rows = rows ≡ []
AreFirstOf look n (Some low) high rows = AreFirst look n low high rows

-- the key after another one, up to `high`
abbrev pub key_after : ℕ → ℕ → Option ℕ
key_after high key = if nat_lt key high then Some (key + 1) else None

-- where a cursor goes on after the rows that a fetch of n returned: after the last key passed
abbrev pub goes_on : ℕ → ℕ → Rows → Option ℕ → Option ℕ
goes_on n high rows None = None
goes_on n high rows (Some low) = key_after high (passed n high rows)

-- a fetch of n rows moves the cursor, and changes nothing else of it
abbrev pub HasMoved : ℕ → Rows → Cursor → Cursor → Type 0
HasMoved n rows old new = (at_of new ≡ at_of old) × (table_of new ≡ table_of old) × (high_of new ≡ high_of old) × (rest_of new ≡ goes_on n (high_of old) rows (rest_of old))

-- Fetches one after the other, each as the number of rows that it was asked for and the rows that it returned. Each returns the
-- first rows of the rest that the one before it left.
abbrev pub Fetched : (ℕ → Image) → ℕ → Option ℕ → List (ℕ × Rows) → Option ℕ → Type 0
Fetched look high from [] rest = rest ≡ from
Fetched look high from (f ∷ fetches) rest = (0 < f.0) × AreFirstOf look f.0 from high f.1 × Fetched look high (goes_on f.0 high f.1 from) fetches rest

-- the rows of all fetches
abbrev pub joined : List (ℕ × Rows) → Rows
joined [] = []
joined (f ∷ fetches) = f.1 ++ joined fetches

-- Rows that were returned, followed by those of the rest, are the rows of the range; where there is no rest, they are all of them.
abbrev pub AreGiven : (ℕ → Image) → ℕ → ℕ → Option ℕ → Rows → Type 0
AreGiven look low high None given = AreRows look low high given
AreGiven look low high (Some next) given = (low ≤ next) × (next ≤ high) × ((rest : Rows) → AreRows look next high rest → AreRows look low high (given ++ rest))
