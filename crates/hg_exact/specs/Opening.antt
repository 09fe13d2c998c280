-- What a session has open.
use Rattle.std.specs.Prelude.{◌≡◌, Bool, true, false}

-- whether a transaction is open and whether a cursor is, of which no two are at once; and whether anything is
abbrev pub AreOpen : Bool → Bool → Bool → Type 0
AreOpen false false held = held ≡ false
AreOpen true false held = held ≡ true
AreOpen false true held = held ≡ true
AreOpen true true held = ⊥
