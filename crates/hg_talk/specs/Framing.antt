-- Records in bytes that come one at a time, by the state machine of the CSV reader.
use Rattle.std.specs.Prelude.{◌≡◌, ⊤, ℕ, suc, List, [], ◌∷◌, ◌++◌, Bool, fold, nat_le, if◌then◌else◌}
use Rattle.csv.specs.declared.parser.State.{State}
use Rattle.csv.specs.declared.parser.State.TheVariants.{StartRecord}
use Rattle.csv.specs.Machine.{step, is_end, ends_at_end, fields_after, field_after}
use Rattle.csv.specs.Reading.{default_config, strip_bom}
use Rattle.hg_base.specs.Text.{Field}
use Rattle.hg_talk.specs.declared.limits.TheConstants.{MOST_RECORD_BYTES}

-- a record is the list of its fields
abbrev pub Fields : Type 0
Fields = List Field

-- what was sent: a record, or one of more bytes than a record may have
pub data Sent : Type 0 where
  Record : Fields → Sent
  Long : Sent

-- this record was sent, or it was too long
abbrev pub IsSent : Sent → Fields → Type 0
IsSent (Record sent) fields = sent ≡ fields
IsSent Long fields = ⊤

-- a record that has begun: the machine's state, its whole fields, the field at hand, and how many bytes it has
pub record Begun : Type 0 where
  pub state : State
  pub fields : Fields
  pub field : Field
  pub size : ℕ

-- none has begun, in this state
abbrev pub none_begun : State → Begun
none_begun s = record { state = s; fields = []; field = []; size = 0 }

-- The same after one more byte. It is a byte of the record, unless it ends it, or is of a line end before it: then the machine is in no record.
abbrev pub begun_after : Begun → ℕ → Begun
begun_after b c = let now = step default_config b.state c in record {
  state = now.0;
  fields = fields_after now.1 b.fields b.field;
  field = field_after now.1 c b.field;
  size = if ends_at_end now.0 then suc b.size else b.size;
}

-- whether that byte ends the record
abbrev pub does_end : Begun → ℕ → Bool
does_end b c = is_end (step default_config b.state c).1

-- a record that has ended, by how many bytes it has
abbrev pub sent_of : ℕ → Fields → Sent
sent_of size fields = if nat_le size MOST_RECORD_BYTES then Record fields else Long

-- what was sent so far, and the record that has begun
pub record Framed : Type 0 where
  pub ended : List Sent
  pub begun : Begun

-- nothing was read yet
abbrev pub unframed : Framed
unframed = record { ended = []; begun = none_begun StartRecord }

-- a record that has ended is the next of those that were sent, and then none has begun
abbrev pub framed_after : Framed → ℕ → Framed
framed_after f c = let b = begun_after f.begun c in
    if does_end f.begun c then record { ended = f.ended ++ sent_of b.size b.fields ∷ []; begun = none_begun b.state }
    else record { ended = f.ended; begun = b }

-- a text, byte by byte; a byte order mark at its start is dropped, as in a script
abbrev pub framed : List ℕ → Framed
framed bytes = fold framed_after unframed (strip_bom bytes)

-- the records that are complete in these bytes
abbrev pub complete_in : List ℕ → List Sent
complete_in bytes = (framed bytes).ended

-- all records, where nothing more comes: the end of the input ends the record that has begun, if one has
abbrev pub all_of : Framed → List Sent
all_of f = if ends_at_end f.begun.state then f.ended ++ sent_of f.begun.size (f.begun.fields ++ f.begun.field ∷ []) ∷ [] else f.ended

-- all records of these bytes, after which nothing more comes
abbrev pub all_in : List ℕ → List Sent
all_in bytes = all_of (framed bytes)
