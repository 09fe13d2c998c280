-- Where the records of a journal end: at its gate, the first line feed that begins a record.
use Rattle.std.specs.Prelude.{◌≡◌, ◌≢◌, ⊤, ℕ, ◌==◌, ◌<◌, ◌≤◌, Bool, false, ◌||◌, List, [], ◌∷◌, ◌++◌, length, Option, Some, None, option_map, unwrap_or, if◌then◌else◌}
use Rattle.hg_journal.specs.declared.gate.Place.{Place}
use Rattle.hg_journal.specs.declared.gate.Place.TheVariants.{Start, Within, Quoted}

-- where a byte leads: a quote sign opens quotes or closes them, and a line feed outside of quotes ends a record
abbrev pub next : Place → ℕ → Place
next Start b = if b == 34 then Quoted else if b == 10 then Start else Within
next Within b = if b == 34 then Quoted else if b == 10 then Start else Within
next Quoted b = if b == 34 then Within else Quoted

-- whether a byte at a place is the gate
abbrev pub is_gate : Place → ℕ → Bool
is_gate Start b = b == 10
is_gate Within b = false
is_gate Quoted b = false

-- the bytes before the gate, read from a place
abbrev pub before_gate : Place → List ℕ → Option (List ℕ)
before_gate place [] = None
before_gate place (b ∷ rest) = if is_gate place b then Some [] else option_map (λ text. b ∷ text) (before_gate (next place b) rest)

-- what a file keeps: the bytes before its gate, and nothing where it has none
abbrev pub kept : List ℕ → List ℕ
kept file = unwrap_or (before_gate Start file) []

-- a text and a closed gate
abbrev pub at_rest : List ℕ → List ℕ
at_rest text = text ++ 10 ∷ []

-- whole records and no empty one: a gate after the text is the first
abbrev pub IsWhole : List ℕ → Type 0
IsWhole text = before_gate Start (at_rest text) ≡ Some text

-- a file that no journal was: it has no gate, and more than the one byte that a crash of the first write may leave
pub record IsNoJournal (file : List ℕ) : Type 0 where
  pub no_gate : before_gate Start file ≡ None
  pub more : 2 ≤ length file

-- bytes within a line: no quote sign and no line feed
abbrev pub AreWithin : List ℕ → Type 0
AreWithin [] = ⊤
AreWithin (b ∷ row) = (b ≢ 34) × (b ≢ 10) × AreWithin row

-- a record without quotes, and not empty
pub record IsPlain (row : List ℕ) : Type 0 where
  pub within : AreWithin row
  pub some : 0 < length row

-- where bytes lead from a place
abbrev pub place_after : Place → List ℕ → Place
place_after place [] = place
place_after place (b ∷ bytes) = place_after (next place b) bytes

-- whether one of some bytes is a gate, read from a place
abbrev pub has_gate : Place → List ℕ → Bool
has_gate place [] = false
has_gate place (b ∷ bytes) = is_gate place b || has_gate (next place b) bytes
