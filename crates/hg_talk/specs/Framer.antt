-- How a framer keeps the record that has begun: of one that is too long it forgets all but that it is.
use Rattle.std.specs.Prelude.{◌≡◌, ℕ, zero, suc, List, [], ◌∷◌, ◌++◌, ◌==◌, Bool, true, false, nat_le, nat_lt, if◌then◌else◌}
use Rattle.csv.specs.declared.parser.State.{State}
use Rattle.csv.specs.declared.parser.State.TheVariants as state
use Rattle.csv.specs.declared.parser.Action.{Action}
use Rattle.csv.specs.declared.parser.Action.TheVariants as action
use Rattle.csv.specs.Machine.{ends_at_end}
use Rattle.csv.specs.Reading.{strip_bom}
use Rattle.hg_talk.specs.declared.states.At.{At}
use Rattle.hg_talk.specs.declared.states.At.TheVariants.{Start, InMark, LateInMark, StartRecord, StartField, InField, InQuoted, AfterQuote, AfterCr}
use Rattle.hg_talk.specs.declared.states.Act.{Act}
use Rattle.hg_talk.specs.declared.states.Act.TheVariants.{Skip, Quote, Copy, EndField, EndRecord, EndMark}
use Rattle.hg_talk.specs.declared.limits.TheConstants.{MOST_RECORD_BYTES}
use Rattle.hg_talk.specs.Framing.{Begun, begun_after, framed, none_begun}

-- the machine's state
abbrev pub state_of : At → State
state_of Start = state.StartRecord
state_of InMark = state.InField
state_of LateInMark = state.InField
state_of StartRecord = state.StartRecord
state_of StartField = state.StartField
state_of InField = state.InField
state_of InQuoted = state.InQuoted
state_of AfterQuote = state.AfterQuote
state_of AfterCr = state.AfterCr

-- the machine's action; it knows nothing of byte order marks
abbrev pub action_of : Act → Action
action_of Skip = action.Skip
action_of Quote = action.Skip
action_of Copy = action.Copy
action_of EndField = action.EndField
action_of EndRecord = action.EndRecord
action_of EndMark = action.Copy

-- whether an action is of a byte of the record
abbrev pub does_count : Act → Bool
does_count Skip = false
does_count Quote = true
does_count Copy = true
does_count EndField = true
does_count EndRecord = false
does_count EndMark = false

-- whether it is of the last byte of a byte order mark
abbrev pub is_end_mark : Act → Bool
is_end_mark Skip = false
is_end_mark Quote = false
is_end_mark Copy = false
is_end_mark EndField = false
is_end_mark EndRecord = false
is_end_mark EndMark = true

-- how many bytes of a mark were read, of which there were no others; and 3 once the text has begun
abbrev pub mark_of : At → ℕ
mark_of Start = 0
mark_of InMark = 1
mark_of LateInMark = 2
mark_of StartRecord = 3
mark_of StartField = 3
mark_of InField = 3
mark_of InQuoted = 3
mark_of AfterQuote = 3
mark_of AfterCr = 3

-- the same after one more byte
abbrev pub mark_after : ℕ → ℕ → ℕ
mark_after zero c = if c == 0xEF then 1 else 3
mark_after (suc zero) c = if c == 0xBB then 2 else 3
mark_after (suc (suc m)) c = 3

-- whether that byte is the last of a mark
abbrev pub ends_mark : ℕ → ℕ → Bool
ends_mark zero c = false
ends_mark (suc zero) c = false
ends_mark (suc (suc zero)) c = c == 0xBF
ends_mark (suc (suc (suc m))) c = false

-- a record that is too long, of which no more is kept
abbrev pub long_begun : State → Begun
long_begun s = record { state = s; fields = []; field = []; size = suc MOST_RECORD_BYTES }

-- a record that has begun, without the bytes of one that is too long
abbrev pub shortened : Begun → Begun
shortened b = if nat_le b.size MOST_RECORD_BYTES then b else long_begun b.state

-- what is kept after one more byte
abbrev pub short_after : Begun → ℕ → Begun
short_after b c = let next = begun_after b c in
    if ends_at_end next.state then (if nat_lt b.size MOST_RECORD_BYTES then next else long_begun next.state)
    else if nat_le b.size MOST_RECORD_BYTES then next
    else record b { state = next.state }

-- what a framer keeps: the record that has begun, and how far a mark came
pub record Kept : Type 0 where
  pub mark : ℕ
  pub begun : Begun

-- the same after one more byte
abbrev pub kept_after : Kept → ℕ → Kept
kept_after k c = record { mark = mark_after k.mark c; begun = if ends_mark k.mark c then none_begun state.StartRecord else short_after k.begun c }

-- these bytes are so many of a mark, or more comes after them without a mark
abbrev pub HasMark : ℕ → List ℕ → Type 0
HasMark zero bytes = bytes ≡ []
HasMark (suc zero) bytes = bytes ≡ 0xEF ∷ []
HasMark (suc (suc zero)) bytes = bytes ≡ 0xEF ∷ 0xBB ∷ []
HasMark (suc (suc (suc m))) bytes = (more : List ℕ) → strip_bom (bytes ++ more) ≡ strip_bom bytes ++ more

-- it is what a framer keeps of these bytes
pub record Keeps (k : Kept) (bytes : List ℕ) : Type 0 where
  pub begun : k.begun ≡ shortened (framed bytes).begun
  pub mark : HasMark k.mark bytes
