-- A record as the list of its fields, and the word that says what it is.
use Rattle.std.specs.Prelude.{ℕ, ◌==◌, ◌&&◌, List, [], get_or, codes, bytes_eq, Option, Some, None, Bool, if◌then◌else◌}
use Rattle.std.specs.Borrow.{Bor}
use Rattle.csv.specs.Reading.{default_config, records, strip_bom}
use Rattle.hg_script.specs.declared.word.Word.{Word}
use Rattle.hg_script.specs.declared.word.Word.TheVariants.{Version, Table, Begin, Get, Put, Del, Scan, Commit, Rollback, Gc, Open, Fetch, Close}

-- a field is its bytes
abbrev pub Field : Type 0
Field = List ℕ

-- a record is the list of its fields
abbrev pub Fields : Type 0
Fields = List Field

-- what a reader over bytes has not read
abbrev pub unread : Bor (List ℕ) → Option (List ℕ)
unread s = Some s.now

-- the records of a text, without a byte order mark at its start
abbrev pub rows_of : List ℕ → List Fields
rows_of bytes = records default_config (strip_bom bytes)

-- the field at a place, counted from 0, and no bytes where there is none
abbrev pub nth : Fields → ℕ → Field
nth r i = get_or r i []

-- the word of a statement
abbrev pub statement_word : Field → Option Word
statement_word word =
    if bytes_eq word (codes "begin") then Some Begin
    else (if bytes_eq word (codes "get") then Some Get
    else (if bytes_eq word (codes "put") then Some Put
    else (if bytes_eq word (codes "del") then Some Del
    else (if bytes_eq word (codes "scan") then Some Scan
    else (if bytes_eq word (codes "commit") then Some Commit
    else (if bytes_eq word (codes "rollback") then Some Rollback
    else (if bytes_eq word (codes "gc") then Some Gc
    else (if bytes_eq word (codes "open") then Some Open
    else (if bytes_eq word (codes "fetch") then Some Fetch
    else (if bytes_eq word (codes "close") then Some Close
    else None))))))))))

-- whether the record at this place is the version's: the first record alone may be
abbrev pub is_version : ℕ → Fields → Bool
is_version place r = (place == 1) && bytes_eq (nth r 0) (codes "version")

-- The version record is the first one, where its first field is `version`. A table record is one whose first field is `table`.
-- Every other is a session's, and its second field is its word.
abbrev pub word_of : ℕ → Fields → Option Word
word_of place r =
    if is_version place r then Some Version
    else (if bytes_eq (nth r 0) (codes "table") then Some Table
    else statement_word (nth r 1))
